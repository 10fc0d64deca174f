-- `is_event` returns `is_event`: a kind that has a name is in the table, and its operand is compared.
use Rattle.std.proofs.Common.{◌≡◌, false, refl}
use lib.Dec.{eqb}
use Rattle.device.specs.Event.{event_block, is_event}
use Rattle.device.specs.EventKinds.{event_kind_number}
use Rattle.device.specs.Owner.{nobody}
use Rattle.device.specs.declared.event.EventKind.{EventKind}
use Rattle.device.specs.declared.event.EventKind.TheVariants.{Ticks, Pin, RtcAlarm, BusMaster, Sensor, Reset, Button}
use Rattle.device.proofs.event.is_event.Goals as goal

in_table : (k : EventKind) → eqb (event_block (event_kind_number k)) nobody ≡ false
unfolding event_block
in_table Ticks = refl
in_table Pin = refl
in_table RtcAlarm = refl
in_table BusMaster = refl
in_table Sensor = refl
in_table Reset = refl
in_table Button = refl

pub returns-in-Ok : goal.returns-in-Ok
unfolding is_event
returns-in-Ok c = rw (← c.in-Ok.ensures, in_table c.in-Ok.kind, c.greatest_operand.ensures)
