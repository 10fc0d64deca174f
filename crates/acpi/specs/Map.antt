-- The map value of a pin: which status bit the pin sets, and at which edge. See docs/CHIP.md, "Setup registers".
use Rattle.std.specs.Prelude.{ℕ, ◌%◌, Bool, cond, not, ◌&&◌, ◌||◌, ◌==◌, bit_and, nat_le}
use Rattle.mask.specs.Mask.{has_bit}

-- "its low byte is 00 (none), 08h or 09h (PM1a_STS bit 8 or 9) or 10h to 1Fh (GPE0_STS bits 0 to 15)"
abbrev pub is_gpe_target : ℕ → Bool
is_gpe_target low = nat_le 0x10 low && nat_le low 0x1F

abbrev pub legal_target : ℕ → Bool
legal_target low = low == 0x00 || low == 0x08 || low == 0x09 || is_gpe_target low

-- "A map value is zero above bit 12"
abbrev pub map_max : ℕ
map_max = 0x1FFF

-- "bits 9 to 11 zero"
abbrev pub map_reserved : ℕ
map_reserved = 0x0E00

-- "bit 8 clear means rise, set means fall"
abbrev pub map_fall : ℕ
map_fall = 0x0100

-- "A map value is zero above bit 12; [..] bit 8 clear means rise, set means fall; bit 12 is kept without effect;
-- bits 9 to 11 zero."
unfoldable pub legal_map : ℕ → Bool
legal_map v = nat_le v map_max && bit_and v map_reserved == 0 && legal_target (v % 256)

-- "a change in the mapped direction": "bit 8 clear means rise, set means fall"
abbrev pub in_direction : ℕ → Bool → Bool → Bool
in_direction m old new = cond (has_bit map_fall m) (old && not new) (not old && new)
