-- A word is read as a number exactly if it is a number of the grammar, and its value is the same. The digits are read from the left, as the grammar
-- builds them up. `h` and `H` are not digits, so a number is either decimal or hex.
use Prim.Native.Nat.{ℕ, suc, ◌+◌, ◌-◌, ◌*◌, ◌≤◌, ◌<◌}
use mathlib.Core.Path.{◌≡◌, refl, sym, ap, subst, ◌∙◌}
use mathlib.Core.Bool.{Bool, true, false, ◌||◌}
use mathlib.Core.List.{List, [], ◌∷◌, ◌++◌, append_assoc, append-nil}
use borrow.Author.Tests.{eqb-true, lt-ltb, ltb-true, ne_eqb}
use lib.Dec.{eqb, ltb}
use lib.ListN.{length, length-append, take}
use lib.Seq.{get_or_at, length-take-le, take_at, take-length, take-suc}
use native.Mathlib.Decide.{dec_lt}
use native.Mathlib.Omega.{arith}
use Rattle.digits.specs.Read.{digit_of, no_digit}
use Rattle.digits.proofs.Read.{after_lower, before_decimal, before_lower, before_upper, decimal_digit, lower_digit, upper_digit}
use Rattle.lists.specs.All.{All}
use Rattle.statement.specs.Grammar.{Decimal, Digit, Hex, HexDigit, Number}
use Rattle.statement.specs.Line.{all_digits, is_empty, is_hex, is_number, last_byte, value_after, value_of}
use Rattle.statement.proofs.Words.{InWord, Word, all_append, both}

-- ---- one digit
-- the byte c is a digit of the base, with the value n
record Reads (base c n : ℕ) : Type 0 where
  value : digit_of c ≡ n
  below : n < base

digit_reads : {c n : ℕ} → Digit c n → Reads 10 c n
digit_reads (Digit.digit n h) = record { value = decimal_digit (0x30 + n) (omega arith) (omega arith) ∙ omega arith; below = h }

hex_reads : {c n : ℕ} → HexDigit c n → Reads 16 c n
hex_reads (HexDigit.decimal d) = let r = digit_reads d in record { value = r.value; below = omega arith }
hex_reads (HexDigit.upper n h) =
    record { value = upper_digit (0x41 + n) (omega arith) (omega arith) ∙ omega arith; below = omega arith }
hex_reads (HexDigit.lower n h) =
    record { value = lower_digit (0x61 + n) (omega arith) (omega arith) ∙ omega arith; below = omega arith }

hex_digit_of : (c : ℕ) → digit_of c < 16 → HexDigit c (digit_of c)
hex_digit_of c h = at (dec_lt c 0x30) (dec_lt c 0x3A) (dec_lt c 0x41) (dec_lt c 0x47) (dec_lt c 0x61) (dec_lt c 0x67)
  where
    none : digit_of c ≡ no_digit → ⊥
    none e = omega (arith, h, e)

    shown : (char n : ℕ) → char ≡ c → digit_of c ≡ n → HexDigit char n → HexDigit c (digit_of c)
    shown char n e f d = rw (f, ← e) d

    at : Dec (c < 0x30) → Dec (c < 0x3A) → Dec (c < 0x41) → Dec (c < 0x47) → Dec (c < 0x61) → Dec (c < 0x67)
        → HexDigit c (digit_of c)
    at (yes a) p q r s t = absurd (none (before_decimal c a))
    at (no a) (yes p) q r s t =
        shown (0x30 + (c - 0x30)) (c - 0x30) (omega arith) (decimal_digit c (omega arith) (omega arith))
        (HexDigit.decimal (Digit.digit (c - 0x30) (omega arith)))
    at (no a) (no p) (yes q) r s t = absurd (none (before_upper c (omega arith) q))
    at (no a) (no p) (no q) (yes r) s t =
        shown (0x41 + (c - 0x41)) (10 + (c - 0x41)) (omega arith) (upper_digit c (omega arith) (omega arith) ∙ omega arith)
        (HexDigit.upper (c - 0x41) (omega arith))
    at (no a) (no p) (no q) (no r) (yes s) t = absurd (none (before_lower c (omega arith) s))
    at (no a) (no p) (no q) (no r) (no s) (yes t) =
        shown (0x61 + (c - 0x61)) (10 + (c - 0x61)) (omega arith) (lower_digit c (omega arith) (omega arith) ∙ omega arith)
        (HexDigit.lower (c - 0x61) (omega arith))
    at (no a) (no p) (no q) (no r) (no s) (no t) = absurd (none (after_lower c (omega arith)))

digit_of_lem : (c : ℕ) → digit_of c < 10 → Digit c (digit_of c)
digit_of_lem c h = low (hex_digit_of c (omega arith)) h
  where
    low : {char n : ℕ} → HexDigit char n → n < 10 → Digit char n
    low (HexDigit.decimal d) l = d
    low (HexDigit.upper n k) l = absurd (omega arith)
    low (HexDigit.lower n k) l = absurd (omega arith)

-- a digit is not one of the bytes that mean something else
not_digit : (b k : ℕ) → digit_of b < 16 → digit_of k ≡ no_digit → eqb b k ≡ false
not_digit b k h e = ne_eqb b k (λ f. omega (arith, h, e, ap digit_of f))

digit_in_word : (b : ℕ) → digit_of b < 16 → InWord b
unfolding digit_of
digit_in_word b h =
    (rw (not_digit b 0x20 h refl, not_digit b 0x09 h refl), (not_digit b 0x3B h refl, not_digit b 0x0D h refl))

-- ---- digits of one base
all_digits_append : (base : ℕ) (cs ds : List ℕ) → all_digits base cs ≡ true → all_digits base ds ≡ true
    → all_digits base (cs ++ ds) ≡ true
all_digits_append base [] ds h k = k
all_digits_append base (c ∷ cs) ds h k =
    let p = both (ltb (digit_of c) base) (all_digits base cs) h in
    rw p.0 (all_digits_append base cs ds p.1 k)

pub value_append : (high base : ℕ) (cs ds : List ℕ)
    → value_after high base (cs ++ ds) ≡ value_after (value_after high base cs) base ds
value_append high base [] ds = refl
value_append high base (c ∷ cs) ds = value_append (high * base + digit_of c) base cs ds

pub last_append : (cs : List ℕ) (c : ℕ) → last_byte (cs ++ (c ∷ [])) ≡ c
last_append cs c = get_or_at cs c [] 0 (length (cs ++ (c ∷ [])) - 1) (simp length-append (omega arith))

-- the bytes are one or more digits of the base, with the value n
record Digits (base : ℕ) (cs : List ℕ) (n : ℕ) : Type 0 where
  each : all_digits base cs ≡ true
  value : value_after 0 base cs ≡ n
  some : 0 < length cs
  last : digit_of (last_byte cs) < base

digits_first : {base c n : ℕ} → Reads base c n → Digits base (c ∷ []) n
digits_first {base} {c} {n} r =
    record {
      each = rw (r.value, lt-ltb n base r.below);
      value = rw r.value (omega arith);
      some = omega arith;
      last = rw r.value r.below;
    }

digits_next : {base c m n : ℕ} {cs : List ℕ} → Digits base cs m → Reads base c n → Digits base (cs ++ (c ∷ [])) (m * base + n)
digits_next {base} {c} {m} {n} {cs} d r =
    record {
      each = all_digits_append base cs (c ∷ []) d.each (digits_first r).each;
      value = value_append 0 base cs (c ∷ []) ∙ rw (d.value, r.value);
      some = simp length-append (omega arith);
      last = rw (last_append cs c) (digits_first r).last;
    }

decimal_digits : {cs : List ℕ} {n : ℕ} → Decimal cs n → Digits 10 cs n
decimal_digits (Decimal.first d) = digits_first (digit_reads d)
decimal_digits (Decimal.next ds d) = digits_next (decimal_digits ds) (digit_reads d)

hex_digits : {cs : List ℕ} {n : ℕ} → Hex cs n → Digits 16 cs n
hex_digits (Hex.first d) = digits_first (hex_reads d)
hex_digits (Hex.next ds d) = digits_next (hex_digits ds) (hex_reads d)

-- every byte of them may stand in a word
digits_in_word : (base : ℕ) (cs : List ℕ) → base ≤ 16 → all_digits base cs ≡ true → All InWord cs
digits_in_word base [] h e = tt
digits_in_word base (c ∷ cs) h e =
    let p = both (ltb (digit_of c) base) (all_digits base cs) e in
    let l = ltb-true (digit_of c) base p.0 in
    (digit_in_word c (omega arith), digits_in_word base cs h p.1)

not_empty : (w : List ℕ) → 0 < length w → is_empty w ≡ false
not_empty [] h = absurd (omega arith)
not_empty (b ∷ w) h = refl

-- ---- a number of the grammar is read
pub record Read (w : List ℕ) (n : ℕ) : Type 0 where
  pub is_number_lem : is_number w ≡ true
  pub value : value_of w ≡ n
  pub is_word : Word w

decimal_read : {w : List ℕ} {n : ℕ} → Digits 10 w n → Read w n
unfolding is_number value_of digit_of
decimal_read {w} {n} d =
    let l : digit_of (last_byte w) < 16 = omega arith in
    let h : is_hex w ≡ false = rw (not_digit (last_byte w) 0x68 l refl, not_digit (last_byte w) 0x48 l refl) in
    record {
      is_number_lem = rw (h, take-length w, lt-ltb 0 (length w) d.some, d.each);
      value = rw (h, take-length w) d.value;
      is_word = record { some = not_empty w d.some; each = digits_in_word 10 w (omega arith) d.each };
    }

-- the byte after the digits is `h` or `H`
hex_read :
    (h : ℕ) → (eqb h 0x68 || eqb h 0x48) ≡ true → InWord h → {cs : List ℕ} {n : ℕ} → Digits 16 cs n
    → Read (cs ++ (h ∷ [])) n
unfolding is_number value_of
hex_read h e i {cs} {n} d =
    let w = cs ++ (h ∷ []) in
    let m : length w - 1 ≡ length cs = simp length-append (omega arith) in
    let t : take (length cs) w ≡ cs = take_at cs (h ∷ []) (length cs) refl in
    record {
      is_number_lem = rw (last_append cs h, e, m, t, lt-ltb 0 (length cs) d.some, d.each);
      value = rw (last_append cs h, e, m, t) d.value;
      is_word =
          record {
            some = not_empty w (simp length-append (omega arith));
            each = all_append InWord cs (h ∷ []) (digits_in_word 16 cs (omega arith) d.each) (i, tt);
          };
    }

pub number_read : {w : List ℕ} {n : ℕ} → Number w n → Read w n
number_read (Number.decimal d) = decimal_read (decimal_digits d)
number_read (Number.hex d) = hex_read 0x68 refl (refl, (refl, refl)) (hex_digits d)
number_read (Number.upper_hex d) = hex_read 0x48 refl (refl, (refl, refl)) (hex_digits d)

-- ---- a word that is read is a number of the grammar
-- R is `Decimal` or `Hex`, which are built up in the same way
module _
    (base : ℕ) (R : List ℕ → ℕ → Type 0) (first : (c : ℕ) → digit_of c < base → R (c ∷ []) (digit_of c))
    (next : (cs : List ℕ) (c m : ℕ) → R cs m → digit_of c < base → R (cs ++ (c ∷ [])) (m * base + digit_of c)) where
  further : (cs ds : List ℕ) (m : ℕ) → R cs m → all_digits base ds ≡ true → R (cs ++ ds) (value_after m base ds)
  further cs [] m r h = rw (append-nil cs) r
  further cs (d ∷ ds) m r h =
      let p = both (ltb (digit_of d) base) (all_digits base ds) h in
      let s = next cs d m r (ltb-true (digit_of d) base p.0) in
      rw (append_assoc cs (d ∷ []) ds) at (further (cs ++ (d ∷ [])) ds (m * base + digit_of d) s p.1)

  built : (cs : List ℕ) → 0 < length cs → all_digits base cs ≡ true → R cs (value_after 0 base cs)
  built [] s h = absurd (omega arith)
  built (c ∷ cs) s h =
      let p = both (ltb (digit_of c) base) (all_digits base cs) h in
      let e : digit_of c ≡ 0 * base + digit_of c = omega arith in
      let r = subst (λ (n : ℕ). R (c ∷ []) n) e (first c (ltb-true (digit_of c) base p.0)) in
      further (c ∷ []) cs (0 * base + digit_of c) r p.1

decimal_of : (cs : List ℕ) → 0 < length cs → all_digits 10 cs ≡ true → Decimal cs (value_after 0 10 cs)
decimal_of = built 10 Decimal (λ c h. Decimal.first (digit_of_lem c h)) (λ cs c m r h. Decimal.next r (digit_of_lem c h))

hex_of_lem : (cs : List ℕ) → 0 < length cs → all_digits 16 cs ≡ true → Hex cs (value_after 0 16 cs)
hex_of_lem = built 16 Hex (λ c h. Hex.first (hex_digit_of c h)) (λ cs c m r h. Hex.next r (hex_digit_of c h))

-- a text is all but its last byte, and its last byte
pub front_last : (w : List ℕ) → 0 < length w → take (length w - 1) w ++ (last_byte w ∷ []) ≡ w
front_last w h =
    let e : suc (length w - 1) ≡ length w = omega arith in
    sym (take-suc w (length w - 1) 0 (omega arith)) ∙ ap (λ (n : ℕ). take n w) e ∙ take-length w

module _ (w : List ℕ) (h : is_number w ≡ true) where
  as_decimal : is_hex w ≡ false → Number w (value_of w)
  unfolding is_number value_of
  as_decimal e =
      let p = both (ltb 0 (length w)) (all_digits 10 w) (rw (e, take-length w) at h) in
      rw (e, take-length w) (Number.decimal (decimal_of w (ltb-true 0 (length w) p.0) p.1))

  as_hex : (k : ℕ) → (eqb k 0x68 || eqb k 0x48) ≡ true → ((cs : List ℕ) (n : ℕ) → Hex cs n → Number (cs ++ (k ∷ [])) n)
      → last_byte w ≡ k → Number w (value_of w)
  unfolding is_number value_of
  as_hex k i make e =
      let cs = take (length w - 1) w in
      let x : is_hex w ≡ true = rw (e, i) in
      let p = both (ltb 0 (length w - 1)) (all_digits 16 cs) (rw x at h) in
      let l = ltb-true 0 (length w - 1) p.0 in
      let q = length-take-le (length w - 1) w (omega arith) in
      let whole : cs ++ (k ∷ []) ≡ w = rw e at (front_last w (omega arith)) in
      rw x (subst (λ (v : List ℕ). Number v (value_after 0 16 cs)) whole (make cs (value_after 0 16 cs) (hex_of_lem cs (omega arith) p.1)))

  pub number_of : Number w (value_of w)
  number_of = pick (eqb (last_byte w) 0x68) (eqb (last_byte w) 0x48) refl refl
    where
      pick : (p q : Bool) → eqb (last_byte w) 0x68 ≡ p → eqb (last_byte w) 0x48 ≡ q → Number w (value_of w)
      pick true q e f = as_hex 0x68 refl (λ cs n d. Number.hex d) (eqb-true (last_byte w) 0x68 e)
      pick false true e f = as_hex 0x48 refl (λ cs n d. Number.upper_hex d) (eqb-true (last_byte w) 0x48 f)
      pick false false e f = as_decimal (rw (e, f))
