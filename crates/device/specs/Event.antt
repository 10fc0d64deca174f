-- Events from outside the chip: "32-bit numbers, kind in the top byte, operand below". `is_event` is the check of refusal 12,
-- `apply_event` the effect of an event. See docs/CHIP.md, "Events".
use Rattle.std.specs.Prelude.{ℕ, ◌+◌, ◌*◌, ◌/◌, ◌%◌, ◌^◌, Bool, cond, not, ◌&&◌, List, [], ◌∷◌, eqb, leb}
use Rattle.acpi.specs.Acpi.{acpi_event}
use Rattle.monitor.specs.Monitor.{monitor_event}
use Rattle.device.specs.Device.{reset_device, settle_device, with_acpi, with_monitor}
use Rattle.device.specs.Owner.{acpi, monitor, nobody}
use Rattle.device.specs.declared.Device.{Device}

-- the kind is the number divided by this, and the operand is the remainder
abbrev pub kind_unit : ℕ
kind_unit = 2 ^ 24

abbrev pub kind_of : ℕ → ℕ
kind_of number = number / kind_unit

abbrev pub operand_of : ℕ → ℕ
operand_of number = number % kind_unit

abbrev pub most_ticks : ℕ
most_ticks = 65535

-- the event of this many ticks; ticks are kind 1
abbrev pub tick_event : ℕ → ℕ
tick_event ticks = 1 * kind_unit + ticks

-- ---- the kinds of events, each with its greatest operand and the block that takes it
pub record EventKind : Type 0 where
  pub kind : ℕ
  pub greatest : ℕ
  pub block : ℕ

abbrev event_kind : ℕ → ℕ → ℕ → EventKind
event_kind k g b = record { kind = k; greatest = g; block = b }

-- a reset goes to every block; this is not the number of a block
abbrev pub every_block : ℕ
every_block = 255

-- "1 ticks (0 to 65,535 [..]); 2 pin (0 to 15 [..]); 3 RTC alarm [..]; 4 bus master [..]; 5 sensor (0 to 3, set in 83h); 6 reset (0
-- PCI, 1 VCC, 2 VTR, 3 Vbat); 7 button held [..]. Kinds 3, 4 and 7 have operand 0"
abbrev pub event_kinds : List EventKind
event_kinds =
    event_kind 1 most_ticks acpi
    ∷ event_kind 2 15 acpi
    ∷ event_kind 3 0 acpi
    ∷ event_kind 4 0 acpi
    ∷ event_kind 5 3 monitor
    ∷ event_kind 6 3 every_block
    ∷ event_kind 7 0 acpi
    ∷ []

-- the entry of a column in the row of this kind; 0 for an unknown kind (a block of 0 means nobody)
abbrev pub column_at : (EventKind → ℕ) → ℕ → List EventKind → ℕ
column_at column kind [] = 0
column_at column kind (r ∷ rs) = cond (eqb kind r.kind) (column r) (column_at column kind rs)

unfoldable pub greatest_operand : ℕ → ℕ
greatest_operand kind = column_at (λ r. r.greatest) kind event_kinds

unfoldable pub event_block : ℕ → ℕ
event_block kind = column_at (λ r. r.block) kind event_kinds

-- an event that is not refused with 12: the kind is in the table, and the operand is not too large
unfoldable pub is_event : ℕ → Bool
is_event number = not (eqb (event_block (kind_of number)) nobody) && leb (operand_of number) (greatest_operand (kind_of number))

-- ---- what an event does, without settling and with it
unfoldable pub event_effect : Device → ℕ → ℕ → Device
event_effect d kind operand =
    cond (eqb (event_block kind) acpi) (with_acpi d (acpi_event d.acpi kind operand))
    (cond (eqb (event_block kind) monitor) (with_monitor d (monitor_event d.monitor kind operand))
    (cond (eqb (event_block kind) every_block) (reset_device d operand) d))

unfoldable pub apply_event : Device → ℕ → Device
apply_event d number = settle_device (event_effect d (kind_of number) (operand_of number))
