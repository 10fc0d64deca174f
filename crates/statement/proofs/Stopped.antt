-- Numbers that stop at 2^32: the value of digits may stop at any digit, and the fields of a record fit exactly if the stopped numbers do.
use Prim.Native.Nat.{ℕ, zero, suc, ◌+◌, ◌*◌, ◌≤◌, ◌<◌}
use mathlib.Core.Path.{◌≡◌, ap, refl, sym, ◌∙◌}
use mathlib.Core.Logic.{◌⊎◌, inl, inr}
use mathlib.Core.Bool.{Bool, true, false, cond, false≢true, ◌&&◌}
use mathlib.Core.List.{List, [], ◌∷◌}
use native.Mathlib.Nat.{mul-suc}
use native.Mathlib.Omega.{arith}
use borrow.Author.Tests.{eqb-true, le-leb, leb-false, leb-true, lt-ltb, le-ltb}
use native.Mathlib.Numerals.{add-one}
use lib.Dec.{eqb, leb, ltb}
use lib.ListN.{drop, drop_of_length-le, get_or, length}
use lib.Seq.{drop-cons}
use Rattle.std.specs.Prelude.{None, Some}
use Rattle.digits.specs.Read.{digit_of}
use Rattle.statement.specs.Found.{number_found}
use Rattle.statement.specs.Line.{all_digits, capped, number_if, number_of, too_big, value_after}

module _ (n : ℕ) where
  pub capped_small : n ≤ too_big → capped n ≡ n
  unfolding capped
  capped_small h = rw (le-leb n too_big h)

  pub capped_big : too_big ≤ n → capped n ≡ too_big
  unfolding capped
  capped_big h = pick (leb n too_big) refl
    where
      pick : (b : Bool) → leb n too_big ≡ b → cond b n too_big ≡ too_big
      pick true e = let l = leb-true n too_big e in let r : n ≡ too_big = omega (arith, h, l) in r
      pick false e = refl

  pub capped_most : capped n ≤ too_big
  unfolding capped
  capped_most = pick (leb n too_big) refl
    where
      pick : (b : Bool) → leb n too_big ≡ b → cond b n too_big ≤ too_big
      pick true e = leb-true n too_big e
      pick false e = omega arith

  -- a stopped number is the number itself, or both are too big
  pub capped_cases : (capped n ≡ n) ⊎ ((capped n ≡ too_big) × (too_big ≤ n))
  capped_cases = pick (leb n too_big) refl
    where
      pick : (b : Bool) → leb n too_big ≡ b → (capped n ≡ n) ⊎ ((capped n ≡ too_big) × (too_big ≤ n))
      pick true e = inl (capped_small (leb-true n too_big e))
      pick false e = let l = leb-false n too_big e in inr (capped_big (omega (arith, l)), omega (arith, l))

-- ---- the value of digits

-- one more digit: what was too big stays too big
stop_step : (base digit m n : ℕ) → 0 < base → capped m ≡ capped n → capped (m * base + digit) ≡ capped (n * base + digit)
stop_step zero digit m n h e = elim h [ ]
stop_step (suc base) digit m n h e = pick (capped_cases m) (capped_cases n)
  where
    grows : (k : ℕ) → too_big ≤ k → capped (k * suc base + digit) ≡ too_big
    grows k l = capped_big (k * suc base + digit) (let f = mul-suc k base in omega (arith, f, l))

    pick : (capped m ≡ m) ⊎ ((capped m ≡ too_big) × (too_big ≤ m)) → (capped n ≡ n) ⊎ ((capped n ≡ too_big) × (too_big ≤ n))
        → capped (m * suc base + digit) ≡ capped (n * suc base + digit)
    pick (inl f) (inl g) = ap (λ (k : ℕ). capped (k * suc base + digit)) (sym f ∙ e ∙ g)
    pick (inl f) (inr g) = grows m (omega (arith, sym f ∙ e ∙ g.0)) ∙ sym (grows n g.1)
    pick (inr f) (inl g) = grows m f.1 ∙ sym (grows n (omega (arith, sym g ∙ sym e ∙ f.0)))
    pick (inr f) (inr g) = grows m f.1 ∙ sym (grows n g.1)

pub stop_value : (base m n : ℕ) (ds : List ℕ) → 0 < base → capped m ≡ capped n
    → capped (value_after m base ds) ≡ capped (value_after n base ds)
stop_value base m n [] h e = e
stop_value base m n (d ∷ ds) h e = stop_value base (m * base + digit_of d) (n * base + digit_of d) ds h (stop_step base (digit_of d) m n h e)

-- ---- the loop that reads digits: those that are left decide whether all are digits, and complete the value
pub record Reads (ds : List ℕ) (base value k : ℕ) : Type 0 where
  pub inside : k ≤ length ds
  pub small : value ≤ too_big
  pub all : all_digits base (drop k ds) ≡ all_digits base ds
  pub whole : capped (value_after value base (drop k ds)) ≡ capped (value_after 0 base ds)

pub read_start : (ds : List ℕ) (base : ℕ) → Reads ds base 0 0
read_start ds base = record { inside = omega arith; small = omega arith; all = refl; whole = refl }

module _ (ds : List ℕ) (base value k : ℕ) (r : Reads ds base value k) where
  pub read_on : 0 < base → k < length ds → digit_of (get_or ds k 0) < base → Reads ds base (capped (value * base + digit_of (get_or ds k 0))) (k + 1)
  read_on z h d =
      let next = value * base + digit_of (get_or ds k 0) in
      let here = drop-cons ds k 0 h in
      let small = capped_most next in
      record {
        inside = omega (arith, h);
        small = small;
        all = rw (add-one k) (sym (rw (here, lt-ltb (digit_of (get_or ds k 0)) base d)) ∙ r.all);
        whole = rw (add-one k) (stop_value base (capped next) next (drop (suc k) ds) z (capped_small (capped next) small) ∙ sym (ap (λ (l : List ℕ). capped (value_after value base l)) here) ∙ r.whole);
      }

  pub read_stop : k < length ds → base ≤ digit_of (get_or ds k 0) → all_digits base ds ≡ false
  read_stop h d = sym r.all ∙ rw (drop-cons ds k 0 h, le-ltb (digit_of (get_or ds k 0)) base d)

  pub read_end : length ds ≤ k → (all_digits base ds ≡ true) × (value ≡ capped (value_after 0 base ds))
  read_end h =
      let e = drop_of_length-le ds {i = k} h in
      (sym r.all ∙ ap (all_digits base) e, sym (capped_small value r.small) ∙ sym (ap (λ (l : List ℕ). capped (value_after value base l)) e) ∙ r.whole)

-- no number, because a digit is not one of the base
pub not_number : (base : ℕ) (ds : List ℕ) → all_digits base ds ≡ false → None ≡ number_found (number_of base ds)
unfolding number_of
not_number base ds e = rw e (pick (ltb 0 (length ds)))
  where
    pick : (b : Bool) → None ≡ number_found (number_if (b && false) (value_after 0 base ds))
    pick true = refl
    pick false = refl

-- the number of digits that all have the base; without digits there is none
pub a_number : (base : ℕ) (ds : List ℕ) (value : ℕ) → eqb (length ds) 0 ≡ false → all_digits base ds ≡ true
    → value ≡ capped (value_after 0 base ds) → Some value ≡ number_found (number_of base ds)
unfolding number_of
a_number base [] value h e v = absurd (false≢true (sym h))
a_number base (d ∷ ds) value h e v = rw (e, v, lt-ltb 0 (length (d ∷ ds)) (omega arith))

pub no_digits : (base : ℕ) (ds : List ℕ) → eqb (length ds) 0 ≡ true → None ≡ number_found (number_of base ds)
unfolding number_of
no_digits base ds h = rw (eqb-true (length ds) 0 h)
