-- What ticks and pin events do. See docs/CHIP.md, "Events".
use Rattle.std.specs.Prelude.{ℕ, ◌+◌, ◌-◌, ◌%◌, ◌^◌, Bool, false, cond, not, ◌==◌, bit_and, bit_or, slice_index, slice_index_or, slice_set}
use Rattle.acpi.specs.Bit as bit
use Rattle.acpi.specs.Fields.{raise, with_gpe0sts, with_levels, with_timer}
use Rattle.acpi.specs.Map.{in_direction, is_gpe_target}
use Rattle.acpi.specs.declared.Acpi.{Acpi}

-- "The timer has 24 bits."
abbrev pub timer_size : ℕ
timer_size = 2 ^ 24

-- A later request: "set TMR_STS when bit 23 changes state, so at 800000h as well as at the wrap"
abbrev pub bit23_changes : ℕ → ℕ → Bool
bit23_changes before after = not (bit_and before bit.timer_bit23 == bit_and after bit.timer_bit23)

-- n ticks. An event has at most 65,535, so bit 23 has changed exactly if it differs before and after. The law `ticks` in
-- proofs/Ticks.antt says that this is the same as n single ticks
unfoldable pub ticked : Acpi → ℕ → Acpi
ticked a n =
    cond (bit23_changes a.timer ((a.timer + n) % timer_size)) (raise (with_timer a ((a.timer + n) % timer_size)) bit.tmr_sts)
    (with_timer a ((a.timer + n) % timer_size))

-- sets the status bit that a map value selects, if it selects one
unfoldable pub raise_mapped : Acpi → ℕ → Acpi
raise_mapped a m =
    cond (m % 256 == 0x08) (raise a bit.pwrbtn_sts)
    (cond (m % 256 == 0x09) (raise a bit.slpbtn_sts)
    (cond (is_gpe_target (m % 256)) (with_gpe0sts a (bit_or a.gpe0sts (2 ^ (m % 256 - 0x10)))) a))

-- "2 pin (0 to 15: bits 2 to 0 pin, bit 3 new level, which is stored; a change in the mapped direction sets the mapped bit, an
-- equal level sets none)"
unfoldable pub pin_level : Acpi → ℕ → Bool → Acpi
pin_level a pin level =
    cond (in_direction (slice_index a.maps pin) (slice_index_or a.levels pin false) level)
    (raise_mapped (with_levels a (slice_set a.levels pin level)) (slice_index a.maps pin))
    (with_levels a (slice_set a.levels pin level))
