-- The numbers of a listing are numbers of the grammar, with the values that they are written for. Hex digits are added byte by byte. The decimal
-- digits down to a power of ten have the value of the number divided by that power.
use Prim.Native.Nat.{ℕ, ◌+◌, ◌-◌, ◌*◌, ◌/◌, ◌%◌, ◌^◌, ◌≤◌, ◌<◌}
use mathlib.Core.Path.{◌≡◌, refl, sym}
use mathlib.Core.Bool.{Bool, true, false, cond}
use mathlib.Core.List.{List, [], ◌∷◌, ◌++◌, append_assoc}
use borrow.Author.Tests.{le-leb, leb-false, leb-true, ltb-false, ltb-true}
use lib.Dec.{leb, ltb}
use native.Mathlib.Nat.{div-div-eq-div-mul, div-lt_iff_lt-mul}
use native.Mathlib.Omega.{arith}
use Rattle.digits.specs.Text.{byte_text, decimal_text, digits_from, hex_digit, hex_text}
use Rattle.statement.specs.Grammar.{Decimal, Digit, Hex, HexDigit, Number}
use Rattle.lister.specs.Listing.{pair_text, port_text, value_text, width_text}

-- ---- hex
hex_digit_lem : (n : ℕ) → HexDigit (hex_digit n) (n % 16)
hex_digit_lem n = pick (ltb (n % 16) 10) refl
  where
    pick : (p : Bool) → ltb (n % 16) 10 ≡ p → HexDigit (cond p (0x30 + n % 16) (0x37 + n % 16)) (n % 16)
    pick true e = HexDigit.decimal (Digit.digit (n % 16) (ltb-true (n % 16) 10 e))
    pick false e =
        let l = ltb-false (n % 16) 10 e in
        let char : 0x41 + (n % 16 - 10) ≡ 0x37 + n % 16 = omega arith in
        let value : 10 + (n % 16 - 10) ≡ n % 16 = omega arith in
        rw (char, value) at (HexDigit.upper (n % 16 - 10) (omega arith))

-- the two digits of a byte, alone or after others
hex_byte : (b : ℕ) → b < 256 → Hex (byte_text b) b
hex_byte b h =
    let e : b / 16 % 16 * 16 + b % 16 ≡ b = omega arith in
    rw e at (Hex.next (Hex.first (hex_digit_lem (b / 16))) (hex_digit_lem b))

next_byte : {cs : List ℕ} {m : ℕ} → Hex cs m → (b n : ℕ) → b < 256 → m * 256 + b ≡ n → Hex (cs ++ byte_text b) n
next_byte {cs} {m} h b n l e =
    let v : (m * 16 + b / 16 % 16) * 16 + b % 16 ≡ n = omega arith in
    rw (v, append_assoc) at (Hex.next (Hex.next h (hex_digit_lem (b / 16))) (hex_digit_lem b))

hex_pair : (n : ℕ) → n < 65536 → Hex (pair_text n) n
hex_pair n h = next_byte (hex_byte (n / 256 % 256) (omega arith)) (n % 256) n (omega arith) (omega arith)

hex_four : (n : ℕ) → n < 0x1_0000_0000 → Hex (hex_text n) n
hex_four n h =
    let a = hex_byte (n / 2 ^ 24 % 256) (omega arith) in
    let b = next_byte a (n / 2 ^ 16 % 256) (n / 2 ^ 16) (omega arith) (omega arith) in
    let c = next_byte b (n / 2 ^ 8 % 256) (n / 2 ^ 8) (omega arith) (omega arith) in
    next_byte c (n % 256) n (omega arith) (omega arith)

-- ---- decimal
-- a power of ten, and the smaller ones down to ten
data Tens : ℕ → List ℕ → Type 0 where
  ten : Tens 10 []
  tenfold : {s : ℕ} {ss : List ℕ} → Tens s ss → Tens (s * 10) (s ∷ ss)

positive : {s : ℕ} {ss : List ℕ} → Tens s ss → 0 < s
positive ten = omega arith
positive (tenfold t) = let h = positive t in omega arith

-- the digits of n / s, and then those for the smaller powers
further : {s : ℕ} {ss cs : List ℕ} → Tens s ss → (n : ℕ) → s ≤ n → Decimal cs (n / s) → Decimal (cs ++ digits_from ss n) n
further ten n h d =
    let e : n / 10 * 10 + n % 10 ≡ n = omega arith in
    rw e at (Decimal.next d (Digit.digit (n % 10) (omega arith)))
further (tenfold {s} t) n h d =
    let l : s ≤ n = omega arith in
    let q : n / (s * 10) ≡ n / s / 10 = sym (div-div-eq-div-mul n s 10) in
    let e : n / (s * 10) * 10 + n / s % 10 ≡ n / s = rw q (omega arith) in
    let next = Decimal.next d (Digit.digit (n / s % 10) (omega arith)) in
    rw (le-leb s n l) (rw append_assoc at (further t n l (rw e at next)))

-- the digits of a number, without leading zeros
from_first : {s : ℕ} {ss : List ℕ} → Tens s ss → (n : ℕ) → n < s → Decimal (digits_from ss n) n
from_first ten n h =
    let e : n % 10 ≡ n = omega arith in
    rw e (Decimal.first (Digit.digit n h))
from_first (tenfold {s} {ss} t) n h = pick (leb s n) refl (λ l. from_first t n l)
  where
    pick : (b : Bool) → leb s n ≡ b → (n < s → Decimal (digits_from ss n) n)
        → Decimal (cond b ((0x30 + n / s % 10) ∷ []) [] ++ digits_from ss n) n
    pick true e f =
        let l : n / s < 10 = (div-lt_iff_lt-mul (positive t)).1 (omega arith) in
        let v : n / s % 10 ≡ n / s = omega arith in
        rw v (further t n (leb-true s n e) (Decimal.first (Digit.digit (n / s) l)))
    pick false e f = f (leb-false s n e)

decimal_of : (n : ℕ) → n < 10000000000 → Decimal (decimal_text n) n
decimal_of = from_first (tenfold (tenfold (tenfold (tenfold (tenfold (tenfold (tenfold (tenfold (tenfold ten)))))))))

-- ---- the numbers of a listing
pub width_number : (w : ℕ) → w < 10 → Number (width_text w) w
width_number w h = Number.decimal (Decimal.first (Digit.digit w h))

pub port_number : (p : ℕ) → p < 65536 → Number (port_text p) p
port_number p h = Number.hex (hex_pair p h)

pub count_number : (n : ℕ) → n ≤ 65535 → Number (decimal_text n) n
count_number n h = Number.decimal (decimal_of n (omega arith))

pub byte_number : (n : ℕ) → n < 256 → Number (value_text 1 n) n
byte_number n h =
    let m : n % 256 ≡ n = omega arith in
    rw m (Number.hex (hex_byte n h))

pub pair_number : (n : ℕ) → n < 65536 → Number (value_text 2 n) n
pair_number n h = Number.hex (hex_pair n h)

pub four_number : (n : ℕ) → n < 0x1_0000_0000 → Number (value_text 4 n) n
four_number n h = Number.hex (hex_four n h)
