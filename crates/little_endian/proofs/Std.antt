-- The bytes that the library's `to_le_bytes`, `to_be_bytes` and `u8::from` give are those of the definitions, and so are the numbers that
-- `from_le_bytes` and `from_be_bytes` give.
use Rattle.std.specs.Int.{from_be_bytes, from_le_bytes, to_be_bytes, to_le_bytes, w16, w32}
use mir.Val.{bool_byte}
use Rattle.std.specs.Prelude.{Bool, true, false, ℕ, ◌≡◌, List, ◌∷◌, []}
use Rattle.std.proofs.Common.{arith, refl}
use Rattle.little_endian.specs.Bytes.{byte0, byte1, flag_byte, four, four_bytes, two, two_bytes}

same_bytes : {a b c d a' b' c' d' : ℕ} → a ≡ a' → b ≡ b' → c ≡ c' → d ≡ d' → ◌≡◌ {A = List ℕ} (a ∷ b ∷ c ∷ d ∷ []) (a' ∷ b' ∷ c' ∷ d' ∷ [])
same_bytes p q r s = rw (p, q, r, s)

pub two_bytes_of : (x : ℕ) → to_le_bytes w16 x ≡ two_bytes x
two_bytes_of x = grind arith

pub four_bytes_of : (x : ℕ) → to_le_bytes w32 x ≡ four_bytes x
four_bytes_of x = same_bytes (omega arith) (omega arith) (omega arith) (omega arith)

-- the high byte first, as the bases of the configuration are saved
pub two_bytes_high_first : (x : ℕ) → to_be_bytes w16 x ≡ byte1 x ∷ byte0 x ∷ []
two_bytes_high_first x = grind arith

-- the numbers that bytes stand for
pub two_from : (a b : ℕ) → from_le_bytes w16 (a ∷ b ∷ []) ≡ two a b
two_from a b = grind arith

pub four_from : (a b c d : ℕ) → from_le_bytes w32 (a ∷ b ∷ c ∷ d ∷ []) ≡ four a b c d
four_from a b c d = grind arith

pub two_from_high_first : (a b : ℕ) → from_be_bytes w16 (b ∷ a ∷ []) ≡ two a b
two_from_high_first a b = grind arith

pub flag_byte_of : (b : Bool) → bool_byte b ≡ flag_byte b
flag_byte_of true = refl
flag_byte_of false = refl
