-- Hex numbers in a line of text. The program `replay` reads its commands with them. See docs/CASES.md, "Lines".
use Rattle.std.specs.Prelude.{ℕ, ◌+◌, ◌-◌, ◌*◌, ◌%◌, ◌^◌, Bool, false, cond, ◌&&◌, List, [], ◌∷◌, length, take, drop, ◌==◌, nat_le, nat_lt, slice_index}

-- ---- one character of a line

-- the value of a character that is not a digit
abbrev pub no_digit : ℕ
no_digit = 16

-- is the character one of those from `first` to `last`?
abbrev pub within : (first last char : ℕ) → Bool
within first last char = nat_le first char && nat_le char last

-- the digits are `0` to `9`, `A` to `F` and `a` to `f`
unfoldable pub digit_of : ℕ → ℕ
digit_of char =
    cond (within 0x30 0x39 char) (char - 0x30)
    (cond (within 0x41 0x46 char) (char - 0x41 + 10)
    (cond (within 0x61 0x66 char) (char - 0x61 + 10) no_digit))

-- the character at an index. After the end of the line it is 0, which is neither a digit nor a space
abbrev pub char_at : (line : List ℕ) (at : ℕ) → ℕ
char_at line at = slice_index line at

abbrev pub digit_at : (line : List ℕ) (at : ℕ) → ℕ
digit_at line at = digit_of (char_at line at)

abbrev pub is_space : (line : List ℕ) (at : ℕ) → Bool
is_space line at = char_at line at == 0x20

-- ---- the digits at an index, and their value

-- the digits at the start of a text, up to the first character that is not a digit or to the end of the text
abbrev pub digits_of : List ℕ → List ℕ
digits_of [] = []
digits_of (char ∷ chars) = cond (digit_of char == no_digit) [] (digit_of char ∷ digits_of chars)

-- at most `most` digits, from an index on
abbrev pub digits_at : (most : ℕ) (line : List ℕ) (at : ℕ) → List ℕ
digits_at most line at = take most (digits_of (drop at line))

-- the value of digits, the most significant first; `high` is the value of the digits before them
abbrev pub value_from : (high : ℕ) (digits : List ℕ) → ℕ
value_from high [] = high
value_from high (digit ∷ digits) = value_from (high * 16 + digit) digits

-- ---- numbers

-- a number that was read, and the index after its last digit
pub record Hex : Type 0 where
  pub ok : Bool
  pub value : ℕ
  pub next : ℕ

-- A number has one to eight digits. If there is one at an index, `ok` is true, and `next` is the index after its digits. No more
-- than nine digits are read, because nine are already too many. The value of nine digits is that of the last eight.
abbrev pub hex_of : (at : ℕ) (digits : List ℕ) → Hex
hex_of at digits =
    record {
      ok = nat_lt 0 (length digits) && nat_lt (length digits) 9;
      value = value_from 0 digits % 2 ^ 32;
      next = at + length digits;
    }

abbrev pub number_at : (line : List ℕ) (at : ℕ) → Hex
number_at line at = hex_of at (digits_at 9 line at)

-- the number after one space
abbrev pub next_number : (line : List ℕ) (at : ℕ) → Hex
next_number line at =
    cond (is_space line at) (number_at line (at + 1)) (record { ok = false; value = 0; next = at })

-- ---- bytes

-- the byte of two digits, or 256 if there are not two
abbrev pub byte_of : List ℕ → ℕ
byte_of digits = cond (length digits == 2) (value_from 0 digits) 256

abbrev pub byte_at : (line : List ℕ) (at : ℕ) → ℕ
byte_at line at = byte_of (digits_at 2 line at)
