-- The kinds of events as an enum, and their numbers.
use Rattle.std.specs.Prelude.{ℕ, ◌≡◌, Result, MatchResult}
use Rattle.device.specs.Event.{event_block}
use Rattle.device.specs.Owner.{nobody}
use Rattle.device.specs.declared.event.EventKind.{EventKind}
use Rattle.device.specs.declared.event.EventKind.TheVariants.{Ticks, Pin, RtcAlarm, BusMaster, Sensor, Reset, Button}
use Rattle.device.specs.declared.event.UnknownKind.{UnknownKind}

abbrev pub event_kind_number : EventKind → ℕ
event_kind_number Ticks = 1
event_kind_number Pin = 2
event_kind_number RtcAlarm = 3
event_kind_number BusMaster = 4
event_kind_number Sensor = 5
event_kind_number Reset = 6
event_kind_number Button = 7

-- the kind with this number, or the number if it is not in the table of kinds
abbrev pub NumberedEventKind : ℕ → Result EventKind UnknownKind → Type 0
NumberedEventKind n r = MatchResult r (λ k. event_kind_number k ≡ n) (λ e. (e.0 ≡ n) × (event_block n ≡ nobody))
