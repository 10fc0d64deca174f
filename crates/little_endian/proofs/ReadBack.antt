-- A number that is written and read is the same number, and bytes that are read and written are the same bytes. Other bytes in
-- front of them do not matter.
use Prim.Native.Nat.{ℕ, zero, suc, ◌+◌, ◌<◌}
use mathlib.Core.Path.{◌≡◌, refl}
use mathlib.Core.Bool.{Bool, true, false}
use mathlib.Core.List.{List, ◌++◌}
use lib.Dec.{eqb, ltb}
use lib.ListN.{length}
use lib.Seq.{get_or-append-add}
use native.Mathlib.Nat.{add_assoc}
use native.Mathlib.Omega.{arith}
use borrow.Author.Tests.{ltb-true}
use Rattle.little_endian.specs.Bytes.{byte0, byte1, byte2, byte3, flag_byte, four, four_at, two, two_at}

-- ---- written, then read
pub two_back : (x : ℕ) → x < 65536 → two (byte0 x) (byte1 x) ≡ x
two_back x h = omega arith

pub four_back : (x : ℕ) → x < 0x1_0000_0000 → four (byte0 x) (byte1 x) (byte2 x) (byte3 x) ≡ x
four_back x h = omega arith

pub flag_back : (b : Bool) → eqb (flag_byte b) 1 ≡ b
flag_back true = refl
flag_back false = refl

pub flag_fits : (b : Bool) → ltb (flag_byte b) 2 ≡ true
flag_fits true = refl
flag_fits false = refl

-- ---- read, then written
pub byte0_two : (a b : ℕ) → a < 256 → byte0 (two a b) ≡ a
byte0_two a b h = omega arith

pub byte1_two : (a b : ℕ) → a < 256 → b < 256 → byte1 (two a b) ≡ b
byte1_two a b h k = omega arith

module _ (a b c d : ℕ) (ha : a < 256) (hb : b < 256) (hc : c < 256) (hd : d < 256) where
  pub byte0_four : byte0 (four a b c d) ≡ a
  byte0_four = omega arith

  pub byte1_four : byte1 (four a b c d) ≡ b
  byte1_four = omega arith

  pub byte2_four : byte2 (four a b c d) ≡ c
  byte2_four = omega arith

  pub byte3_four : byte3 (four a b c d) ≡ d
  byte3_four = omega arith

pub byte_flag : (x : ℕ) → ltb x 2 ≡ true → flag_byte (eqb x 1) ≡ x
byte_flag zero h = refl
byte_flag (suc zero) h = refl
byte_flag (suc (suc x)) h = let l : suc (suc x) < 2 = ltb-true (suc (suc x)) 2 h in absurd (omega arith)

-- ---- read with other bytes in front
module _ (front bytes : List ℕ) (k : ℕ) where
  pub two_after : two_at (front ++ bytes) (length front + k) ≡ two_at bytes k
  two_after = simp (add_assoc, get_or-append-add)

  pub four_after : four_at (front ++ bytes) (length front + k) ≡ four_at bytes k
  four_after = simp (add_assoc, get_or-append-add)
