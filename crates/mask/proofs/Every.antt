-- Laws of `&&`, `||` and `all_below`: the whole follows from the parts, and the parts follow from the whole.
use Prim.Native.Nat.{ℕ, zero, suc, ◌+◌, ◌<◌}
use mathlib.Core.Path.{◌≡◌, refl, sym, ap, ◌∙◌}
use mathlib.Core.Bool.{Bool, true, false, ◌&&◌, ◌||◌, and_assoc, and-false, and-true, false≢true, true≢false}
use mathlib.Core.List.{List, [], ◌∷◌}
use lib.ListN.{get_or, length}
use Rattle.std.specs.Prelude.{fold, zip}
use Rattle.std.proofs.lemmas.Slice.Zip.{get_or-zip, length-zip}
use native.Mathlib.Omega.{arith}
use native.Mathlib.Decide.{dec_lt}
use native.Mathlib.Numerals.{add-one}
use Rattle.mask.specs.Every.{all_below}

-- ---- two tests
pub both : (a b : Bool) → (a && b) ≡ true → (a ≡ true) × (b ≡ true)
both true b e = (refl, e)
both false b e = absurd (false≢true e)

pub neither : (a b : Bool) → (a || b) ≡ false → (a ≡ false) × (b ≡ false)
neither true b e = absurd (true≢false e)
neither false b e = (refl, e)

pub and_left : (a b : Bool) → (a && b) ≡ true → a ≡ true
and_left a b e = (both a b e).0

pub and_right : (a b : Bool) → (a && b) ≡ true → b ≡ true
and_right a b e = (both a b e).1

pub and_both : (a b : Bool) → a ≡ true → b ≡ true → (a && b) ≡ true
and_both a b p q = rw (p, q)

-- ---- a test of every number below n
pub all_true : (n : ℕ) (p : ℕ → Bool) → ((k : ℕ) → k < n → p k ≡ true) → all_below n p ≡ true
all_true zero p h = refl
all_true (suc n) p h = and_both (all_below n p) (p n) (all_true n p (λ k l. h k (omega arith))) (h n (omega arith))

-- one more number
pub all_next : (n : ℕ) (p : ℕ → Bool) → (all_below n p && p n) ≡ all_below (n + 1) p
all_next n p = rw add-one

pub all_more : (n : ℕ) (p : ℕ → Bool) → all_below n p ≡ true → p n ≡ true → all_below (n + 1) p ≡ true
all_more n p h k = rw add-one (and_both (all_below n p) (p n) h k)

-- a test of every element of a list, as a fold
all_front : (n : ℕ) (p : ℕ → Bool) → all_below (suc n) p ≡ (p 0 && all_below n (λ k. p (suc k)))
all_front zero p = sym (and-true (p 0))
all_front (suc n) p = rw (all_front n p) (and_assoc (p 0) (all_below n (λ k. p (suc k))) (p (suc n)))

fold_from : {A : Type 0} (z : A) (p : A → Bool) (b : Bool) (xs : List A)
    → fold (λ all x. all && p x) b xs ≡ (b && all_below (length xs) (λ k. p (get_or xs k z)))
fold_from z p b [] = sym (and-true b)
fold_from z p b (x ∷ xs) =
    let rest = λ (k : ℕ). p (get_or xs k z) in
    fold_from z p (b && p x) xs ∙ and_assoc b (p x) (all_below (length xs) rest)
    ∙ ap (λ (c : Bool). b && c) (sym (all_front (length xs) (λ k. p (get_or (x ∷ xs) k z))))

pub all_folded : {A : Type 0} (z : A) (p : A → Bool) (xs : List A) (n : ℕ) → length xs ≡ n
    → fold (λ all x. all && p x) true xs ≡ all_below n (λ k. p (get_or xs k z))
all_folded z p xs n e = rw (← e) (fold_from z p true xs)

-- two tests that agree below n
all_same : (n : ℕ) (p q : ℕ → Bool) → ((k : ℕ) → k < n → p k ≡ q k) → all_below n p ≡ all_below n q
all_same zero p q h = refl
all_same (suc n) p q h = rw (all_same n p q (λ k l. h k (omega arith)), h n (omega arith))

-- a test of the pairs of two lists of the same length, as a fold
pub all_zipped :
    (p : ℕ × ℕ → Bool) (xs ys : List ℕ) (n : ℕ) → length xs ≡ n → length ys ≡ n
    → fold (λ all x. all && p x) true (zip xs ys) ≡ all_below n (λ k. p (get_or xs k 0, get_or ys k 0))
all_zipped p xs ys n l m =
    all_folded (0, 0) p (zip xs ys) n (rw (length-zip xs ys) (omega arith))
    ∙ all_same n (λ k. p (get_or (zip xs ys) k (0, 0))) (λ k. p (get_or xs k 0, get_or ys k 0))
    (λ k h. ap p (get_or-zip xs ys k (0, 0) (omega arith) (omega arith)))

-- one number for which the test fails
pub all_false : (n : ℕ) (p : ℕ → Bool) (k : ℕ) → k < n → p k ≡ false → all_below n p ≡ false
all_false zero p k l h = absurd (omega arith)
all_false (suc n) p k l h = pick (λ m. all_false n p k m h) (dec_lt k n)
  where
    pick : (k < n → all_below n p ≡ false) → Dec (k < n) → (all_below n p && p n) ≡ false
    pick r (yes m) = rw (r m)
    pick r (no m) =
        let e : k ≡ n = omega arith in
        rw (rw e at h) (and-false (all_below n p))

-- if the test holds for all of them, it holds for each
pub all_at : (n : ℕ) (p : ℕ → Bool) → all_below n p ≡ true → (k : ℕ) → k < n → p k ≡ true
all_at zero p h k l = absurd (omega arith)
all_at (suc n) p h k l = pick (λ m. all_at n p (and_left (all_below n p) (p n) h) k m) (dec_lt k n)
  where
    pick : (k < n → p k ≡ true) → Dec (k < n) → p k ≡ true
    pick r (yes m) = r m
    pick r (no m) =
        let e : k ≡ n = omega arith in
        rw e (and_right (all_below n p) (p n) h)
