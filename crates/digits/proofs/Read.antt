-- Laws of reading: which characters are digits, and that digits are read one after the other.
use Rattle.std.proofs.Common.{◌≡◌, ℕ, zero, suc, ◌+◌, ◌-◌, ◌*◌, ◌%◌, ◌<◌, ◌≤◌, Bool, true, false, cond, ◌&&◌, leb, List, [], ◌∷◌, length, take, drop, ◌==◌, refl, ap, ◌∙◌, add-one, arith, eq-eqb, ne_eqb, le-leb, leb-true, eqb-true, None, Some}
use mathlib.Core.Bool.{false≢true}
use borrow.Author.Tests.{lt-leb}
use lib.Seq.{drop-nil, take-nil}
use Rattle.digits.specs.Found.{byte_found, digit_found}
use Rattle.digits.specs.Read.{byte_at, byte_of, char_at, digit_at, digit_of, digits_at, digits_of, is_space, no_digit, within}

-- ---- one character, which lies in one of seven ranges
module _ (b : ℕ) where
  above : (first last : ℕ) → last < b → within first last b ≡ false
  above first last h = pick (leb first b)
    where
      pick : (p : Bool) → (p && leb b last) ≡ false
      pick true = lt-leb b last h
      pick false = refl

  inside : (first last : ℕ) → first ≤ b → b ≤ last → within first last b ≡ true
  inside first last h k = rw (le-leb first b h, le-leb b last k)

  below : (first last : ℕ) → b < first → within first last b ≡ false
  below first last h = rw (lt-leb first b h)

  pub decimal_digit : 0x30 ≤ b → b ≤ 0x39 → digit_of b ≡ b - 0x30
  unfolding digit_of
  decimal_digit h k = rw (inside 0x30 0x39 h k)

  pub upper_digit : 0x41 ≤ b → b ≤ 0x46 → digit_of b ≡ b - 0x41 + 10
  unfolding digit_of
  upper_digit h k = rw (above 0x30 0x39 (omega arith), inside 0x41 0x46 h k)

  pub lower_digit : 0x61 ≤ b → b ≤ 0x66 → digit_of b ≡ b - 0x61 + 10
  unfolding digit_of
  lower_digit h k = rw (above 0x30 0x39 (omega arith), above 0x41 0x46 (omega arith), inside 0x61 0x66 h k)

  pub before_decimal : b < 0x30 → digit_of b ≡ no_digit
  unfolding digit_of
  before_decimal h = rw (below 0x30 0x39 h, below 0x41 0x46 (omega arith), below 0x61 0x66 (omega arith))

  pub before_upper : 0x39 < b → b < 0x41 → digit_of b ≡ no_digit
  unfolding digit_of
  before_upper h k = rw (above 0x30 0x39 h, below 0x41 0x46 k, below 0x61 0x66 (omega arith))

  pub before_lower : 0x46 < b → b < 0x61 → digit_of b ≡ no_digit
  unfolding digit_of
  before_lower h k = rw (above 0x30 0x39 (omega arith), above 0x41 0x46 h, below 0x61 0x66 k)

  pub after_lower : 0x66 < b → digit_of b ≡ no_digit
  unfolding digit_of
  after_lower h = rw (above 0x30 0x39 (omega arith), above 0x41 0x46 (omega arith), above 0x61 0x66 h)

  -- the value is at most 16
  at_most : (first last : ℕ) → within first last b ≡ true → b ≤ last
  at_most first last e = leb-true b last (second (leb first b) (leb b last) e)
    where
      second : (p q : Bool) → (p && q) ≡ true → q ≡ true
      second true q f = f
      second false q f = absurd (false≢true f)

  either : (p : Bool) (x y : ℕ) → (p ≡ true → x ≤ no_digit) → y ≤ no_digit → cond p x y ≤ no_digit
  either true x y f g = f refl
  either false x y f g = g

  pub digit_most : digit_of b ≤ no_digit
  unfolding digit_of
  digit_most =
      either (within 0x30 0x39 b) _ _ (λ e. omega (arith, at_most 0x30 0x39 e))
      (either (within 0x41 0x46 b) _ _ (λ e. omega (arith, at_most 0x41 0x46 e))
      (either (within 0x61 0x66 b) _ _ (λ e. omega (arith, at_most 0x61 0x66 e)) (omega arith)))

-- a digit is found
pub digit_is : (d : ℕ) → d < no_digit → digit_found d ≡ Some d
digit_is d h = rw (ne_eqb d no_digit (λ e. omega (arith, h, e)))

pub digit_read : (n d : ℕ) → Some d ≡ digit_found n → n ≡ d
digit_read n d e = pick (n == no_digit) e
  where
    pick : (p : Bool) → Some d ≡ cond p None (Some n) → n ≡ d
    pick true f = cc
    pick false f = cc

pub no_digit_read : (n : ℕ) → None ≡ digit_found n → n ≡ no_digit
no_digit_read n e = pick (n == no_digit) refl e
  where
    pick : (p : Bool) → (n == no_digit) ≡ p → None ≡ cond p None (Some n) → n ≡ no_digit
    pick true f g = eqb-true n no_digit f
    pick false f g = cc

-- ---- the digits at an index
pub none_of : (line : List ℕ) (at : ℕ) → digit_at line at ≡ no_digit → digits_of (drop at line) ≡ []
none_of [] at e = rw (drop-nil at)
none_of (b ∷ bs) zero e = rw (eq-eqb (digit_of b) no_digit e)
none_of (b ∷ bs) (suc at) e = none_of bs at e

one_of : (line : List ℕ) (at : ℕ) → (digit_at line at ≡ no_digit → ⊥)
    → digits_of (drop at line) ≡ digit_at line at ∷ digits_of (drop (suc at) line)
unfolding digit_of
one_of [] at some = absurd (some refl)
one_of (b ∷ bs) zero some = rw (ne_eqb (digit_of b) no_digit some)
one_of (b ∷ bs) (suc at) some = one_of bs at some

pub no_digits : (most : ℕ) (line : List ℕ) (at : ℕ) → digit_at line at ≡ no_digit → digits_at most line at ≡ []
no_digits most line at e = ap (take most) (none_of line at e) ∙ take-nil most

pub one_digit : (most : ℕ) (line : List ℕ) (at : ℕ) → (digit_at line at ≡ no_digit → ⊥)
    → digits_at (suc most) line at ≡ digit_at line at ∷ digits_at most line (at + 1)
one_digit most line at some = rw (add-one at) (ap (take (suc most)) (one_of line at some))

-- ---- a digit or a space lies within the line
pub digit_inside : (line : List ℕ) (at : ℕ) → (digit_at line at ≡ no_digit → ⊥) → at < length line
unfolding digit_of
digit_inside [] at some = absurd (some refl)
digit_inside (b ∷ bs) zero some = omega arith
digit_inside (b ∷ bs) (suc at) some = let i = digit_inside bs at some in omega (arith, i)

pub space_inside : (line : List ℕ) (at : ℕ) → is_space line at ≡ true → at < length line
space_inside [] at e = absurd (false≢true e)
space_inside (b ∷ bs) zero e = omega arith
space_inside (b ∷ bs) (suc at) e = let i = space_inside bs at e in omega (arith, i)

-- ---- a byte of two digits
module _ (line : List ℕ) (at : ℕ) where
  module _ (some : digit_at line at ≡ no_digit → ⊥) where
    two_digits : (digit_at line (at + 1) ≡ no_digit → ⊥)
        → byte_at line at ≡ digit_at line at % 16 * 16 + digit_at line (at + 1) % 16
    two_digits more =
        let high = digit_at line at in
        let low = digit_at line (at + 1) in
        let m = digit_most (char_at line at) in
        let n = digit_most (char_at line (at + 1)) in
        let both = one_digit 1 line at some ∙ ap (λ (ds : List ℕ). high ∷ ds) (one_digit 0 line (at + 1) more) in
        let sum : (0 * 16 + high) * 16 + low ≡ high % 16 * 16 + low % 16 = omega (arith, some, more, m, n) in
        ap byte_of both ∙ sum

  pub byte_read : (high low : ℕ) → digit_at line at ≡ high → digit_at line (at + 1) ≡ low → high < 16 → low < 16
      → byte_found (byte_at line at) ≡ Some (high * 16 + low)
  byte_read high low h l a b =
      let some : digit_at line at ≡ no_digit → ⊥ = λ e. omega (arith, h, a, e) in
      let more : digit_at line (at + 1) ≡ no_digit → ⊥ = λ e. omega (arith, l, b, e) in
      let sum : byte_at line at ≡ high * 16 + low = omega (arith, two_digits some more, h, l, a, b) in
      rw (sum, ne_eqb (high * 16 + low) 256 (λ e. omega (arith, a, b, e)))
