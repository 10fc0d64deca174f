-- The width of an access, and the values that fit it. See docs/CHIP.md, "Accesses".
use Rattle.std.specs.Prelude.{ℕ, Bool, cond, ◌||◌, leb, eqb}

-- "An access is a read or write of width 1, 2 or 4 bytes"
abbrev pub is_width : ℕ → Bool
is_width width = eqb width 1 || (eqb width 2 || eqb width 4)

-- "all ones of the width": the largest value that fits the width
abbrev pub all_ones : ℕ → ℕ
all_ones width = cond (eqb width 1) 0xFF (cond (eqb width 2) 0xFFFF 0xFFFF_FFFF)

abbrev pub fits_width : ℕ → ℕ → Bool
fits_width width value = leb value (all_ones width)
