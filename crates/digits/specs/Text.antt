-- Text that is written into a line, and numbers as text. The programs `trace` and `replay` print with it.
use Rattle.std.specs.Prelude.{ℕ, ◌+◌, ◌/◌, ◌%◌, ◌^◌, cond, List, [], ◌∷◌, ◌++◌, length, nat_le, nat_lt, slice_set}

-- a line, and the index after the text written so far
pub record Line : Type 0 where
  pub text : List ℕ
  pub at : ℕ

abbrev pub line_at : List ℕ → ℕ → Line
line_at text at = record { text = text; at = at }

-- writes one byte; a full line is unchanged
unfoldable pub put : ℕ → Line → Line
put b l = cond (nat_lt l.at (length l.text)) (line_at (slice_set l.text l.at b) (l.at + 1)) l

abbrev pub puts : List ℕ → Line → Line
puts [] l = l
puts (b ∷ bs) l = puts bs (put b l)

-- ---- "eight upper-case hex digits"
abbrev pub hex_digit : ℕ → ℕ
hex_digit n = cond (nat_lt (n % 16) 10) (0x30 + n % 16) (0x37 + n % 16)

abbrev pub byte_text : ℕ → List ℕ
byte_text b = hex_digit (b / 16) ∷ hex_digit b ∷ []

abbrev pub hex_text : ℕ → List ℕ
hex_text n = byte_text (n / 2 ^ 24 % 256) ++ (byte_text (n / 2 ^ 16 % 256) ++ (byte_text (n / 2 ^ 8 % 256) ++ byte_text (n % 256)))

-- ---- "(decimal)": no leading zeros; the last digit is always written
abbrev pub digit_text : (n scale : ℕ) → List ℕ
digit_text n scale = cond (nat_le scale n) ((0x30 + n / scale % 10) ∷ []) []

abbrev pub digits_from : List ℕ → ℕ → List ℕ
digits_from [] n = (0x30 + n % 10) ∷ []
digits_from (scale ∷ scales) n = digit_text n scale ++ digits_from scales n

abbrev pub decimal_text : ℕ → List ℕ
decimal_text =
    digits_from
    (1000000000 ∷ 100000000 ∷ 10000000 ∷ 1000000 ∷ 100000 ∷ 10000 ∷ 1000 ∷ 100 ∷ 10 ∷ [])
