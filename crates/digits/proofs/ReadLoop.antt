-- The loop of `number`. After each turn, the digits that were read and those that are left make up the number.
use Rattle.std.proofs.Common.{◌≡◌, ℕ, suc, ◌+◌, ◌-◌, ◌*◌, ◌%◌, ◌^◌, ◌<◌, ◌&&◌, ltb, List, [], ◌∷◌, length, sym, ap, ◌∙◌, arith}
use Rattle.digits.specs.Read.{char_at, digit_at, digits_at, no_digit, number_at, value_from}
use Rattle.digits.proofs.Read.{digit_most, no_digits, one_digit}

-- the lowest 32 bits of a value follow from the lowest 32 bits of the digits before it
same_value : (ds : List ℕ) (v w : ℕ) → v % 2 ^ 32 ≡ w % 2 ^ 32 → value_from v ds % 2 ^ 32 ≡ value_from w ds % 2 ^ 32
same_value [] v w e = e
same_value (d ∷ ds) v w e = same_value ds (v * 16 + d) (w * 16 + d) (omega (arith, e))

module _ (line : List ℕ) (at : ℕ) where
  -- the digits that are left after `count` of nine
  abbrev pub left : ℕ → List ℕ
  left count = digits_at (9 - count) line (at + count)

  -- `count` digits were read, with this value
  pub record Reading (value count : ℕ) : Type 0 where
    pub values : value_from value (left count) % 2 ^ 32 ≡ value_from 0 (digits_at 9 line at) % 2 ^ 32
    pub lengths : count + length (left count) ≡ length (digits_at 9 line at)

  pub at_start : Reading 0 0
  at_start =
      let e : at + 0 ≡ at = omega arith in
      record { values = rw e; lengths = rw e (omega arith) }

  pub after_last_lem : (count : ℕ) → digit_at line (at + count) ≡ no_digit → left count ≡ []
  after_last_lem count e = no_digits (9 - count) line (at + count) e

  module _ (value count : ℕ) (reading : Reading value count) where
    pub one_more : count < 9 → (digit_at line (at + count) ≡ no_digit → ⊥)
        → Reading (value % 2 ^ 28 * 16 + digit_at line (at + count)) (count + 1)
    one_more few some =
        let d = digit_at line (at + count) in
        let m = digit_most (char_at line (at + count)) in
        let turns : 9 - count ≡ suc (9 - (count + 1)) = omega arith in
        let index : at + count + 1 ≡ at + (count + 1) = omega arith in
        let first : left count ≡ d ∷ left (count + 1) =
        ap (λ (most : ℕ). digits_at most line (at + count)) turns
        ∙ one_digit (9 - (count + 1)) line (at + count) some
        ∙ ap (λ (k : ℕ). d ∷ digits_at (9 - (count + 1)) line k) index in
        let low : (value % 2 ^ 28 * 16 + d) % 2 ^ 32 ≡ (value * 16 + d) % 2 ^ 32 = omega (arith, some, m) in
        let n = ap length first in
        record {
          values =
              same_value (left (count + 1)) (value % 2 ^ 28 * 16 + d) (value * 16 + d) low
              ∙ sym (ap (λ (ds : List ℕ). value_from value ds % 2 ^ 32) first)
              ∙ reading.values;
          lengths = omega (arith, n, reading.lengths);
        }

    pub all_read : value < 2 ^ 32 → left count ≡ []
        → record { ok = ltb 0 count && ltb count 9; value = value; next = at + count } ≡ number_at line at
    all_read fits end =
        let m = ap length end in
        let n : length (digits_at 9 line at) ≡ count = omega (arith, m, reading.lengths) in
        let low : value % 2 ^ 32 ≡ value = omega (arith, fits) in
        let v : value_from 0 (digits_at 9 line at) % 2 ^ 32 ≡ value =
        sym reading.values ∙ ap (λ (ds : List ℕ). value_from value ds % 2 ^ 32) end ∙ low in
        rw (n, v)
