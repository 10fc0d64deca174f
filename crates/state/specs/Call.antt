-- One access or one event on a saved device. See docs/CHIP.md, "Single calls".
use Rattle.std.specs.Prelude.{ℕ, cond, List, Result, Ok, Err, eqb}
use Rattle.access.specs.Status.{answer_of}
use Rattle.access.specs.declared.Access.{Access}
use Rattle.device.specs.Owner.{nobody}
use Rattle.device.specs.Owners.{owner_number}
use Rattle.device.specs.Single.{
  AccessReply,
  EventReply,
  access_done,
  access_refused,
  event_done,
  event_refused,
  no_outputs,
  single_access,
  single_event,
}
use Rattle.device.specs.declared.Outputs.{Outputs}
use Rattle.outcome.specs.Number as number
use Rattle.outcome.specs.Refused.{refusal_number}
use Rattle.outcome.specs.declared.Refused.{Refused}
use Rattle.state.specs.declared.call.AccessReply as code
use Rattle.state.specs.State.{device_from, holds_device, state_bytes}

-- bytes that hold no device are refused with 11; otherwise the device that they hold replies
unfoldable pub saved_access : List ℕ → Access → AccessReply
saved_access bytes x = cond (holds_device bytes) (single_access (device_from bytes) x).reply (access_refused number.bad_state)

-- the bytes after the call; a refusal leaves them unchanged
unfoldable pub bytes_after_access : List ℕ → Access → List ℕ
bytes_after_access bytes x =
    cond (eqb (saved_access bytes x).refusal 0) (state_bytes (single_access (device_from bytes) x).device) bytes

unfoldable pub saved_event : List ℕ → ℕ → EventReply
saved_event bytes n = cond (holds_device bytes) (single_event (device_from bytes) n).reply (event_refused number.bad_state)

unfoldable pub bytes_after_event : List ℕ → ℕ → List ℕ
bytes_after_event bytes n =
    cond (eqb (saved_event bytes n).refusal 0) (state_bytes (single_event (device_from bytes) n).device) bytes

-- ---- the results of the code in numbers
abbrev pub access_reply : Result code.AccessReply Refused → AccessReply
access_reply (Ok r) = access_done (owner_number r.owner) (answer_of r.answer) r.outputs
access_reply (Err f) = record { refusal = refusal_number f.kind; place = f.place; status = 0; value = 0; outputs = no_outputs; owner = nobody }

abbrev pub event_reply : Result Outputs Refused → EventReply
event_reply (Ok o) = event_done o
event_reply (Err f) = record { refusal = refusal_number f.kind; place = f.place; outputs = no_outputs }
