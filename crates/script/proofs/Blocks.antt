-- The open blocks as numbers: how many of them are repeats, and that no block is open exactly if the innermost number is 0.
use Rattle.std.proofs.Common.{◌≡◌, ℕ, suc, ◌+◌, Bool, true, false, cond, List, [], ◌∷◌, length, refl, ◌∙◌, sym, arith, eqb}
use Rattle.std.specs.Prelude.{◌≤◌, count_by, fold, reverse, take}
use Rattle.std.proofs.lemmas.List.{take_all}
use Rattle.std.proofs.lemmas.List.Recursion.{is_count_by}
use Rattle.std.proofs.lemmas.List.Sums.{sum_by-take-le}
use borrow.Author.Tests.{ne_eqb}
use Rattle.script.specs.Blocks.{open_number, open_numbers}
use Rattle.script.specs.Refusals.{innermost, open_repeat, repeats_in}
use Rattle.script.specs.declared.open_blocks.Open.{Open}
use Rattle.script.specs.declared.open_blocks.Open.TheVariants.{Repeat, If, Else}

pub innermost_empty : (bs : List Open) → eqb (length bs) 0 ≡ eqb (innermost (open_numbers bs)) 0
innermost_empty [] = refl
innermost_empty (Repeat ∷ bs) = ne_eqb (suc (length bs)) 0 (λ e. omega arith)
innermost_empty (If ∷ bs) = ne_eqb (suc (length bs)) 0 (λ e. omega arith)
innermost_empty (Else ∷ bs) = ne_eqb (suc (length bs)) 0 (λ e. omega arith)

abbrev pub is_repeat : Open → Bool
is_repeat b = eqb (open_number b) open_repeat

one_more : (t : Bool) (n : ℕ) → cond t (suc n) n ≡ cond t (1 + n) n
one_more true n = omega arith
one_more false n = refl

counted : (bs : List Open) → repeats_in (open_numbers bs) ≡ count_by is_repeat bs
counted bs = is_count_by (λ xs. repeats_in (open_numbers xs)) is_repeat refl (λ x xs. one_more (is_repeat x) (repeats_in (open_numbers xs))) bs

onto : (bs above : List Open)
    → repeats_in (open_numbers (fold (λ r b. b ∷ r) above bs)) ≡ repeats_in (open_numbers bs) + repeats_in (open_numbers above)
onto [] above = omega arith
onto (b ∷ bs) above = onto bs (b ∷ above) ∙ pick (is_repeat b) (repeats_in (open_numbers bs)) (repeats_in (open_numbers above))
  where
    pick : (t : Bool) (m n : ℕ) → m + cond t (suc n) n ≡ cond t (suc m) m + n
    pick true m n = omega arith
    pick false m n = refl

-- the repeats, counted from the outermost block on
repeats_counted : (bs : List Open) → count_by is_repeat bs ≡ repeats_in (open_numbers (reverse bs))
repeats_counted bs = let all = onto bs [] in sym (counted bs) ∙ omega arith

-- no part of the blocks has more repeats than all of them
pub repeats_within : (bs : List Open) (n : ℕ) → count_by is_repeat (take n bs) ≤ repeats_in (open_numbers (reverse bs))
repeats_within bs n = rw (repeats_counted bs) at (sum_by-take-le (λ b. cond (is_repeat b) 1 0) bs n)

-- the blocks up to the last are all of them
pub repeats_all : (bs : List Open) (n : ℕ) → length bs ≤ n → count_by is_repeat (take n bs) ≡ repeats_in (open_numbers (reverse bs))
repeats_all bs n h = rw (take_all n bs h) (repeats_counted bs)
