-- Masks of registers, and write 1 to clear. See docs/CHIP.md, "Accesses".
-- "Bits outside a register's mask are dropped and read 0."
use Rattle.std.specs.Prelude.{ℕ, ◌-◌, Bool, not, eqb}
use Rattle.std.specs.Int.Bits.{bit_and}

-- all bits of the value are in the mask
abbrev pub within : ℕ → ℕ → Bool
within mask value = eqb (bit_and value mask) value

-- "write 1 to clear": the register without the bits that are 1 in `ones`; `full` is the largest value of its width
abbrev pub cleared : ℕ → ℕ → ℕ → ℕ
cleared full register ones = bit_and register (full - ones)

-- the value and the mask have a common 1
abbrev pub has_bit : ℕ → ℕ → Bool
has_bit mask value = not (eqb (bit_and value mask) 0)
