-- Laws of `slice`: its length, its elements, and that a slice of the whole list is the list.
use Prim.Native.Nat.{ℕ, zero, suc, ◌+◌, ◌<◌}
use mathlib.Core.Path.{◌≡◌, refl, ap, ◌∙◌}
use mathlib.Core.List.{List, [], ◌∷◌}
use lib.ListN.{get_or, length}
use native.Mathlib.Omega.{arith}
use Rattle.lists.specs.Slice.{slice}

pub slice_length : {A : Type 0} (z : A) (n at : ℕ) (xs : List A) → length (slice z n at xs) ≡ n
slice_length z zero at xs = refl
slice_length z (suc n) at xs = ap suc (slice_length z n (suc at) xs)

pub slice_at : {A : Type 0} (z : A) (n at : ℕ) (xs : List A) (k : ℕ) → k < n → get_or (slice z n at xs) k z ≡ get_or xs (at + k) z
slice_at z zero at xs k l = absurd (omega arith)
slice_at z (suc n) at xs zero l = ap (λ (i : ℕ). get_or xs i z) (omega arith)
slice_at z (suc n) at xs (suc k) l =
    slice_at z n (suc at) xs k (omega arith) ∙ ap (λ (i : ℕ). get_or xs i z) (omega arith)

-- an element in front of the list moves the start by one
pub slice_after : {A : Type 0} (z : A) (n at : ℕ) (x : A) (xs : List A) → slice z n (suc at) (x ∷ xs) ≡ slice z n at xs
slice_after z zero at x xs = refl
slice_after z (suc n) at x xs = ap (◌∷◌ (get_or xs at z)) (slice_after z n (suc at) x xs)

pub slice_whole : {A : Type 0} (z : A) (n : ℕ) (xs : List A) → length xs ≡ n → slice z n 0 xs ≡ xs
slice_whole z zero [] e = refl
slice_whole z zero (x ∷ xs) e = absurd (omega arith)
slice_whole z (suc n) [] e = absurd (omega arith)
slice_whole z (suc n) (x ∷ xs) e = ap (◌∷◌ x) (slice_after z n 0 x xs ∙ slice_whole z n xs (omega arith))
