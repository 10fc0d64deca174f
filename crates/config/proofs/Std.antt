-- The bytes that the library's `to_be_bytes` gives of a base are its high byte and its low byte, and `from_be_bytes` gives the base of two bytes.
use Prim.Native.Nat.{ℕ}
use mathlib.Core.Path.{◌≡◌}
use mathlib.Core.List.{[], ◌∷◌}
use Rattle.std.specs.Int.{from_be_bytes, to_be_bytes, w16}
use Rattle.little_endian.proofs.Std.{two_bytes_high_first, two_from_high_first}
use Rattle.config.specs.Base.{high, low, with_high, with_low}

pub base_bytes : (base : ℕ) → to_be_bytes w16 base ≡ high base ∷ low base ∷ []
base_bytes base = two_bytes_high_first base

pub high_replaced : (base v : ℕ) → from_be_bytes w16 (v ∷ low base ∷ []) ≡ with_high base v
high_replaced base v = two_from_high_first (low base) v

pub low_replaced : (base v : ℕ) → from_be_bytes w16 (high base ∷ v ∷ []) ≡ with_low base v
low_replaced base v = two_from_high_first v (high base)
