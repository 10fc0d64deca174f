-- Single calls: one access or one event on any device, with the refusals. See docs/CHIP.md, "Single calls".
-- "A lone access: 11, then 4 (width, port, or a write value too wide); a lone event: 11, 12; place
-- 0 in each. A refusal's other numbers are 0"
use Rattle.std.specs.Prelude.{ℕ, Bool, true, false, cond, ◌&&◌, eqb, leb, Result, Ok, Err}
use Rattle.access.specs.declared.Access.{Access}
use Rattle.access.specs.Status.{Answer, answer_of}
use Rattle.width.specs.Width.{fits_width, is_width}
use Rattle.device.specs.Device.{device_in_range, outputs_of}
use Rattle.device.specs.Dispatch.{AccessResult, device_access}
use Rattle.device.specs.Event.{apply_event, is_event}
use Rattle.device.specs.Owner.{nobody}
use Rattle.device.specs.Owners.{owner_number}
use Rattle.device.specs.declared.Device.{Device}
use Rattle.outcome.specs.Number as number
use Rattle.device.specs.declared.Outputs.{Outputs}
use Rattle.device.specs.declared.single.SingleAccess as code_access
use Rattle.device.specs.declared.single.SingleEvent as code_event
use Rattle.outcome.specs.Refused.{refusal_number}
use Rattle.outcome.specs.declared.Refused.{Refused}

-- ---- the replies in numbers. If `refusal` is not 0, it is the number of the refusal, and all other numbers are 0
pub record AccessReply : Type 0 where
  pub refusal : ℕ
  pub place : ℕ
  pub status : ℕ
  pub value : ℕ
  pub outputs : Outputs
  pub owner : ℕ

pub record EventReply : Type 0 where
  pub refusal : ℕ
  pub place : ℕ
  pub outputs : Outputs

-- the reply, and the device after the call
pub record SingleAccess : Type 0 where
  pub device : Device
  pub reply : AccessReply

pub record SingleEvent : Type 0 where
  pub device : Device
  pub reply : EventReply

-- an access that is not refused with 4; the value of a read is not checked
abbrev pub is_access : Access → Bool
is_access x = is_width x.width && (leb x.port 0xFFFF && cond x.write (fits_width x.width x.value) true)

-- "11, then" the refusal of the call itself; 0 if the call can be made
abbrev pub call_refusal : (valid allowed : Bool) → ℕ → ℕ
call_refusal valid allowed n = cond valid (cond allowed 0 n) number.bad_state

abbrev pub no_outputs : Outputs
no_outputs = record { sci = false; smi = false; monitor = false }

abbrev pub access_refused : ℕ → AccessReply
access_refused n = record { refusal = n; place = 0; status = 0; value = 0; outputs = no_outputs; owner = nobody }

abbrev pub access_done : (owner : ℕ) → Answer → Outputs → AccessReply
access_done n a o = record { refusal = 0; place = 0; status = a.status; value = a.value; outputs = o; owner = n }

abbrev pub access_refusal : Device → Access → ℕ
access_refusal d x = call_refusal (device_in_range d) (is_access x) number.bad_field

abbrev pub access_made : AccessResult → SingleAccess
access_made r = record { device = r.device; reply = access_done r.owner r.answer (outputs_of r.device) }

-- a refusal returns the device unchanged
unfoldable pub single_access : Device → Access → SingleAccess
single_access d x =
    cond (eqb (access_refusal d x) 0)
    (access_made (device_access d x))
    (record { device = d; reply = access_refused (access_refusal d x) })

abbrev pub event_refused : ℕ → EventReply
event_refused n = record { refusal = n; place = 0; outputs = no_outputs }

abbrev pub event_done : Outputs → EventReply
event_done o = record { refusal = 0; place = 0; outputs = o }

abbrev pub event_refusal : Device → ℕ → ℕ
event_refusal d n = call_refusal (device_in_range d) (is_event n) number.bad_event

abbrev pub event_made : Device → SingleEvent
event_made d = record { device = d; reply = event_done (outputs_of d) }

unfoldable pub single_event : Device → ℕ → SingleEvent
single_event d n =
    cond (eqb (event_refusal d n) 0) (event_made (apply_event d n)) (record { device = d; reply = event_refused (event_refusal d n) })

-- ---- the results of the code in numbers. After a refusal the device is the one before the call
abbrev pub access_reply : Result code_access.SingleAccess Refused → AccessReply
access_reply (Ok s) = access_done (owner_number s.owner) (answer_of s.answer) s.outputs
access_reply (Err r) = record { refusal = refusal_number r.kind; place = r.place; status = 0; value = 0; outputs = no_outputs; owner = nobody }

abbrev pub accessed : Device → Result code_access.SingleAccess Refused → SingleAccess
accessed d (Ok s) = record { device = s.device; reply = access_reply (Ok s) }
accessed d (Err r) = record { device = d; reply = access_reply (Err r) }

abbrev pub event_reply : Result code_event.SingleEvent Refused → EventReply
event_reply (Ok s) = event_done s.outputs
event_reply (Err r) = record { refusal = refusal_number r.kind; place = r.place; outputs = no_outputs }

abbrev pub after_event : Device → Result code_event.SingleEvent Refused → SingleEvent
after_event d (Ok s) = record { device = s.device; reply = event_reply (Ok s) }
after_event d (Err r) = record { device = d; reply = event_reply (Err r) }
