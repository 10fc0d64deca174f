-- The line that a program prints if a call is refused.
use Rattle.std.specs.Prelude.{ℕ, ◌≤◌, ◌≡◌, List, [], ◌∷◌, ◌++◌, length, take}
use Rattle.digits.specs.Text.{decimal_text}

-- two decimal numbers and a line feed
abbrev pub numbers_text : ℕ → ℕ → List ℕ
numbers_text first second = decimal_text first ++ (0x20 ∷ (decimal_text second ++ (0x0A ∷ [])))

-- "or only `REFUSED`, number, place (decimal)"
abbrev pub refused_text : ℕ → ℕ → List ℕ
refused_text number place =
    0x52 ∷ 0x45 ∷ 0x46 ∷ 0x55 ∷ 0x53 ∷ 0x45 ∷ 0x44 ∷ 0x20 ∷ numbers_text number place

-- the most bytes of the line
abbrev pub line_size : ℕ
line_size = 30

-- a text is in the front of a buffer: the first n bytes. `counted` follows from the other two; with it, a program that writes these bytes needs no proof
pub record Put (text buffer : List ℕ) (n : ℕ) : Type 0 where
  pub inside : n ≤ length buffer
  pub counted : n ≡ length (take n buffer)
  pub bytes : take n buffer ≡ text
