-- Numbers of two and four bytes, "least byte first", and flags, which are one byte that is 0 or 1.
use Rattle.std.specs.Prelude.{ℕ, ◌+◌, ◌*◌, ◌/◌, ◌%◌, Bool, true, false, List, [], ◌∷◌, eqb, ltb, get_or}

-- ---- the bytes of a number
abbrev pub byte0 : ℕ → ℕ
byte0 x = x % 256

abbrev pub byte1 : ℕ → ℕ
byte1 x = x / 256 % 256

abbrev pub byte2 : ℕ → ℕ
byte2 x = x / 256 / 256 % 256

abbrev pub byte3 : ℕ → ℕ
byte3 x = x / 256 / 256 / 256 % 256

abbrev pub two_bytes : ℕ → List ℕ
two_bytes x = byte0 x ∷ byte1 x ∷ []

abbrev pub four_bytes : ℕ → List ℕ
four_bytes x = byte0 x ∷ byte1 x ∷ byte2 x ∷ byte3 x ∷ []

-- ---- the number that bytes stand for
abbrev pub two : ℕ → ℕ → ℕ
two a b = a + b * 256

abbrev pub four : ℕ → ℕ → ℕ → ℕ → ℕ
four a b c d = two a b + two c d * 65536

abbrev pub two_at : List ℕ → ℕ → ℕ
two_at bytes at = two (get_or bytes at 0) (get_or bytes (at + 1) 0)

abbrev pub four_at : List ℕ → ℕ → ℕ
four_at bytes at = four (get_or bytes at 0) (get_or bytes (at + 1) 0) (get_or bytes (at + 2) 0) (get_or bytes (at + 3) 0)

-- ---- flags
abbrev pub flag_byte : Bool → ℕ
flag_byte true = 1
flag_byte false = 0

abbrev pub flag_at : List ℕ → ℕ → Bool
flag_at bytes at = eqb (get_or bytes at 0) 1

-- is the byte 0 or 1?
abbrev pub is_flag : List ℕ → ℕ → Bool
is_flag bytes at = ltb (get_or bytes at 0) 2
