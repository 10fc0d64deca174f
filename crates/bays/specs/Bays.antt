-- The device bays as a whole: resets, range, accesses, events and the alert. See docs/CHIP.md, "Bays". "The next chip takes over two bays
-- from the controller of source document 001."
use Rattle.std.specs.Prelude.{ℕ, ◌/◌, ◌%◌, Bool, cond, ◌&&◌, ◌||◌, List, [], ◌∷◌, eqb, leb, get_or}
use Rattle.access.specs.Block.{Result, with_block, status}
use Rattle.access.specs.Status.{done}
use Rattle.access.specs.declared.Access.{Access}
use Rattle.lists.specs.Tests.{all_hold}
use Rattle.mask.specs.Mask.{within}
use Rattle.bays.specs.Bay.{bay_alert, bay_in_range, bay_reset, fresh_bay}
use Rattle.bays.specs.Lines.{lines_event}
use Rattle.bays.specs.Once.{fresh_once}
use Rattle.bays.specs.Registers.{Decoded, Nowhere, To, bay_count_max, bay_of, bays, decode, register_value, register_write, with_bay}
use Rattle.bays.specs.declared.Bays.{Bays}
use Rattle.bays.specs.declared.once.Once.{Once}

-- ---- fresh and reset
-- "Fresh is all 0, no device"
abbrev pub fresh_bays : Bays
fresh_bays = bays fresh_once fresh_once fresh_once fresh_bay fresh_bay

-- "reset 2 makes the block fresh but keeps write-once fields and pin levels [..], reset 3 all of it (ours)"
unfoldable pub bays_reset : Bays → ℕ → Bays
bays_reset s level =
    cond (eqb level 0 || eqb level 1) s
    (cond (eqb level 2) (bays s.subvendor s.subsystem s.capabilities (bay_reset s.bay0) (bay_reset s.bay1))
    fresh_bays)

-- ---- range: "11 covers the new fields, each by itself". The two subsystem numbers take all 16 bits
abbrev pub capabilities_mask : ℕ
capabilities_mask = 0x1F

abbrev pub legal_capabilities : ℕ → Bool
legal_capabilities v = within capabilities_mask v && leb (v % 16) bay_count_max

abbrev pub range_tests : Bays → List Bool
range_tests s = legal_capabilities s.capabilities.value ∷ bay_in_range s.bay0 ∷ bay_in_range s.bay1 ∷ []

unfoldable pub bays_in_range : Bays → Bool
bays_in_range s = all_hold (range_tests s)

-- ---- accesses
-- the answer for every case of a decoded access: that of the register, or status 1
unfoldable pub decoded_access : Bays → Decoded → Access → Result Bays
decoded_access s (To r) x = cond x.write (register_write s r x.value) (with_block (done (register_value s r)) s)
decoded_access s Nowhere x = status 1 s

unfoldable pub bays_access : Bays → ℕ → Access → Result Bays
bays_access s offset x = decoded_access s (decode offset x.width) x

-- ---- events: "Event kind 8 has operand 0 to 31: bit 4 the bay"
abbrev pub lines_kind : ℕ
lines_kind = 8

unfoldable pub bays_event : Bays → ℕ → ℕ → Bays
bays_event s kind operand =
    cond (eqb kind lines_kind) (with_bay s (operand / 16 % 2) (lines_event (bay_of s (operand / 16 % 2)) operand)) s

-- ---- "The alert, a new output, stands exactly if an enabled sticky bit is pending."
unfoldable pub alert : Bays → Bool
alert s = bay_alert s.bay0 || bay_alert s.bay1

-- ---- the fields that are written once, for laws: Subsystem Vendor ID, Subsystem ID, DBCCR, and the form factors of the two bays
abbrev pub once_fields : Bays → List Once
once_fields s = s.subvendor ∷ s.subsystem ∷ s.capabilities ∷ s.bay0.form ∷ s.bay1.form ∷ []

-- one of them; after the last, a field that has not been written
abbrev pub once_field : Bays → ℕ → Once
once_field s k = get_or (once_fields s) k fresh_once
