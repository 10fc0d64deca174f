-- What one write, read, test or delay does to the device, the events and the log. The meaning of a script (OwnRun.antt) and the
-- sequencer (`step`) both use these definitions. See docs/CHIP.md, "What a script means".
use Rattle.std.specs.Prelude.{ℕ, Bool, true, false, List, [], ◌∷◌, ◌++◌}
use Rattle.access.specs.declared.Access.{Access}
use Rattle.access.specs.Status.{Answer}
use Rattle.device.specs.Device.{outputs_of}
use Rattle.device.specs.Event.{apply_event, tick_event}
use Rattle.device.specs.Dispatch.{AccessResult, device_access}
use Rattle.device.specs.declared.Device.{Device}
use Rattle.device.specs.declared.Outputs.{Outputs}
use Rattle.log_entry.specs.Entry.{log_entry}
use Rattle.mask.specs.Mask.{has_bit}

-- "Definitions list each write, read and test as one access with its whole answer." A later request: "Let each access also return the
-- block that owns the port"
pub record AccessEntry : Type 0 where
  pub access : Access
  pub owner : ℕ
  pub answer : Answer
  pub outputs : Outputs

-- "device, events left, values logged, accesses"; a value is logged with its owner, as an entry of the log. The entries and accesses are in
-- the order in which they were made
pub record World : Type 0 where
  pub device : Device
  pub events : List ℕ
  pub logged : List ℕ
  pub accesses : List AccessEntry

-- at the start nothing is logged, and no access has been made
abbrev pub start_world : Device → List ℕ → World
start_world d events = record { device = d; events = events; logged = []; accesses = [] }

-- "Before each write, read or test the next event, if any, is applied."
abbrev pub after_next_event : Device → List ℕ → Device
after_next_event d [] = d
after_next_event d (e ∷ es) = apply_event d e

-- the events that are left after one was taken
abbrev pub events_after : List ℕ → List ℕ
events_after [] = []
events_after (e ∷ es) = es

abbrev pub write_of : (port width value : ℕ) → Access
write_of p w v = record { write = true; width = w; port = p; value = v }

-- the access of a read or a test
abbrev pub read_of : (port width : ℕ) → Access
read_of p w = record { write = false; width = w; port = p; value = 0 }

-- the answer to an access, after the next event
abbrev pub answer_to : World → Access → AccessResult
answer_to w x = device_access (after_next_event w.device w.events) x

abbrev pub access_entry : Access → AccessResult → AccessEntry
access_entry x r = record { access = x; owner = r.owner; answer = r.answer; outputs = outputs_of r.device }

-- the world after an access that logs these entries
abbrev pub after_access : World → Access → List ℕ → World
after_access w x entries = record {
  device = (answer_to w x).device;
  events = events_after w.events;
  logged = w.logged ++ entries;
  accesses = w.accesses ++ (access_entry x (answer_to w x) ∷ []);
}

unfoldable pub after_write : (port width value : ℕ) → World → World
after_write p wd v w = after_access w (write_of p wd v) []

-- the value that a read or a test returns, at any status
unfoldable pub value_read : (port width : ℕ) → World → ℕ
value_read p wd w = (answer_to w (read_of p wd)).answer.value

-- what a read logs: "The log keeps it beside each value, in the script's own run too"
unfoldable pub entry_logged : (port width : ℕ) → World → ℕ
entry_logged p wd w = log_entry (answer_to w (read_of p wd)).owner (value_read p wd w)

-- "A read appends its value to the log, at any status"
unfoldable pub after_read : (port width : ℕ) → World → World
after_read p wd w = after_access w (read_of p wd) (entry_logged p wd w ∷ [])

-- "a test uses its value likewise and logs nothing"
unfoldable pub after_test : (port width : ℕ) → World → World
after_test p wd w = after_access w (read_of p wd) []

-- "the value read and the mask in value share a one"
unfoldable pub shares_one : (port width mask : ℕ) → World → Bool
shares_one p wd m w = has_bit m (value_read p wd w)

-- "A delay is a tick event of its value and takes none from the list."
unfoldable pub after_delay : (ticks : ℕ) → World → World
after_delay n w = record {
  device = apply_event w.device (tick_event n);
  events = w.events;
  logged = w.logged;
  accesses = w.accesses;
}
