-- Laws of `run`: where it stops, and that it continues byte by byte. The loops that look for the end of a word or of a line use them.
use Prim.Native.Nat.{ℕ, suc, ◌+◌, ◌≤◌, ◌<◌}
use mathlib.Core.Path.{◌≡◌, ap, refl, ◌∙◌}
use mathlib.Core.Bool.{Bool, true, false, cond, not}
use mathlib.Core.List.{List, [], ◌∷◌}
use native.Mathlib.Numerals.{one-add}
use borrow.Author.Tests.{ltb-false}
use lib.Dec.{ltb}
use native.Mathlib.Omega.{arith}
use lib.ListN.{drop, get_or, length, length-drop}
use lib.Seq.{drop-cons}
use Rattle.std.specs.Prelude.{None, Some, position, unwrap_or}
use Rattle.std.specs.List.{prefix_len}
use Rattle.statement.specs.Line.{is_blank, not_blank, run}

pub run_most : (p : ℕ → Bool) (s : List ℕ) → run p s ≤ length s
run_most p [] = omega arith
run_most p (b ∷ bs) = pick (run_most p bs) (p b)
  where
    pick : run p bs ≤ length bs → (t : Bool) → cond t (suc (run p bs)) 0 ≤ suc (length bs)
    pick m true = omega arith
    pick m false = omega arith

-- the code finds the end of a run by `position`, with the negated test
module _ (p q : ℕ → Bool) (negated : (b : ℕ) → not (q b) ≡ p b) where
  prefix_run : (s : List ℕ) → prefix_len (λ b. not (q b)) s ≡ run p s
  prefix_run [] = refl
  prefix_run (b ∷ bs) = rw (negated b, prefix_run bs, one-add)

  pub position_run : (s : List ℕ) → unwrap_or (position q s) (length s) ≡ run p s
  position_run s = rw (prefix_run s) (pick (ltb (run p s) (length s)) refl)
    where
      pick : (t : Bool) → ltb (run p s) (length s) ≡ t → unwrap_or (cond t (Some (run p s)) None) (length s) ≡ run p s
      pick true e = refl
      pick false e = let l = ltb-false (run p s) (length s) e in let m = run_most p s in let r : length s ≡ run p s = omega (arith, l, m) in r

  pub position_is : (s : List ℕ) → position q s ≡ cond (ltb (run p s) (length s)) (Some (run p s)) None
  position_is s = rw (prefix_run s)

not_not : (b : Bool) → not (not b) ≡ b
not_not true = refl
not_not false = refl

pub blank_run : (s : List ℕ) → unwrap_or (position (λ b. not (is_blank b)) s) (length s) ≡ run is_blank s
blank_run = position_run is_blank (λ b. not (is_blank b)) (λ b. not_not (is_blank b))

pub blank_position : (s : List ℕ)
    → position (λ b. not (is_blank b)) s ≡ cond (ltb (run is_blank s) (length s)) (Some (run is_blank s)) None
blank_position = position_is is_blank (λ b. not (is_blank b)) (λ b. not_not (is_blank b))

pub word_run : (s : List ℕ) → unwrap_or (position is_blank s) (length s) ≡ run not_blank s
word_run = position_run not_blank is_blank (λ b. refl)

module _ (p : ℕ → Bool) (s : List ℕ) where
  -- at a byte that passes it
  pub run_on : (k : ℕ) → k < length s → p (get_or s k 0) ≡ true → run p (drop k s) ≡ suc (run p (drop (suc k) s))
  run_on k h e = ap (run p) (drop-cons s k 0 h) ∙ rw e

  -- a run does not leave the text
  pub run_inside : (k : ℕ) → k ≤ length s → k + run p (drop k s) ≤ length s
  run_inside k h = let m = run_most p (drop k s) in let l = length-drop k s in omega (arith, m, l)
