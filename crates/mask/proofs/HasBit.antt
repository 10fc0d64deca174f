-- If a value and a mask have a common 1, they still have one after more bits of the value are set.
use Prim.Native.Nat.{ℕ, ◌≤◌}
use mathlib.Core.Path.{◌≡◌, ap}
use mathlib.Core.Bool.{true, not}
use native.Mathlib.Omega.{arith}
use borrow.Author.Tests.{eqb-false, ne_eqb, not-true}
use lib.Bits.{bit_and, bit_or, and_le_r, or_add_and}
use lib.Dec.{eqb}
use Rattle.mask.specs.Mask.{has_bit}
use Rattle.mask.proofs.Bits.{and_or_distrib}

or_at_least : (a b : ℕ) → a ≤ bit_or a b
or_at_least a b = omega (arith, or_add_and a b, and_le_r a b)

pub has_or : (mask a bits : ℕ) → has_bit mask a ≡ true → has_bit mask (bit_or a bits) ≡ true
has_or mask a bits h = ap not (ne_eqb (bit_and (bit_or a bits) mask) 0 shared)
  where
    shared : bit_and (bit_or a bits) mask ≡ 0 → ⊥
    shared e =
        let d = and_or_distrib a bits mask in
        let l = or_at_least (bit_and a mask) (bit_and bits mask) in
        eqb-false (bit_and a mask) 0 (not-true (eqb (bit_and a mask) 0) h) (omega arith)
