-- A list of n equal values has this value at every place, also after its end if it is the default. A slice that has the same
-- value at every place is such a list.
use Prim.Native.Nat.{ℕ, zero, suc, ◌+◌, ◌<◌}
use mathlib.Core.Path.{◌≡◌, refl, sym, ◌∙◌}
use mathlib.Core.List.{List}
use lib.ListN.{get_or, length-replicate, replicate}
use lib.Seq.{ext_get_or}
use Rattle.lists.specs.Slice.{slice}
use Rattle.lists.proofs.Slice.{slice_at, slice_length}

pub replicate_at : {A : Type 0} (z : A) (n k : ℕ) → get_or (replicate n z) k z ≡ z
replicate_at z zero k = refl
replicate_at z (suc n) zero = refl
replicate_at z (suc n) (suc k) = replicate_at z n k

pub slice_replicate : {A : Type 0} (z : A) (n at : ℕ) (xs : List A) → ((k : ℕ) → k < n → get_or xs (at + k) z ≡ z)
    → slice z n at xs ≡ replicate n z
slice_replicate z n at xs h =
    ext_get_or z (slice z n at xs) (replicate n z) (slice_length z n at xs ∙ sym (length-replicate n z)) (λ k l.
    let m : k < n = rw (slice_length z n at xs) at l in
    slice_at z n at xs k m ∙ h k m ∙ sym (replicate_at z n k))
