-- A test of each element of a list and its index, as a chain makes it, is the test of every index.
use Rattle.std.proofs.Common.{◌≡◌, ℕ, zero, suc, ◌<◌, ◌≤◌, Bool, List, length, get_or, take, refl, ◌∙◌, arith, add-one, zero-add}
use Rattle.std.specs.List.{enumerate_from, list_all}
use Rattle.std.proofs.lemmas.List.Folds.{list_all_more}
use Rattle.std.proofs.lemmas.List.FromFn.{get_or-enumerate_from, length-enumerate_from}
use lib.Seq.{take_all}
use Rattle.mask.specs.Every.{all_below}

all_taken :
    (test : ℕ → ℕ → Bool) (xs : List ℕ) (n : ℕ) → n ≤ length xs
    → list_all (λ (p : ℕ × ℕ). test p.0 p.1) (take n (enumerate_from 0 xs)) ≡ all_below n (λ k. test k (get_or xs k 0))
all_taken test xs zero h = refl
all_taken test xs (suc n) h =
    let p : ℕ × ℕ → Bool = λ p. test p.0 p.1 in
    let ys = enumerate_from 0 xs in
    let l : n < length ys = omega (arith, length-enumerate_from 0 xs) in
    let g = get_or-enumerate_from 0 xs n (0, 0) (omega arith) in
    let m = list_all_more p ys n (0, 0) l in
    rw (add-one n) at m ∙ rw (g, all_taken test xs n (omega arith), zero-add)

pub all_enumerated :
    (test : ℕ → ℕ → Bool) (xs : List ℕ) (n : ℕ) → length xs ≡ n
    → list_all (λ (p : ℕ × ℕ). test p.0 p.1) (enumerate_from 0 xs) ≡ all_below n (λ k. test k (get_or xs k 0))
all_enumerated test xs n h =
    let t = take_all n (enumerate_from 0 xs) (omega (arith, length-enumerate_from 0 xs)) in
    rw t at (all_taken test xs n (omega arith))
