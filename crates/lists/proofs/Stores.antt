-- A list starts with bs, and the rest is that of xs. A store right after bs adds one element to bs and leaves the rest.
use Prim.Native.Nat.{ℕ, suc, ◌<◌}
use mathlib.Core.Path.{◌≡◌}
use mathlib.Core.List.{List, [], ◌∷◌, ◌++◌}
use lib.ListN.{length, drop, set}
use lib.Seq.{append_snoc, drop-cons, set-append_seam}

pub stored :
    (bs xs ys : List ℕ) (v : ℕ) → ys ≡ bs ++ drop (length bs) xs → length bs < length xs
    → set ys (length bs) v ≡ (bs ++ (v ∷ [])) ++ drop (suc (length bs)) xs
stored bs xs ys v e h = rw (e, drop-cons xs (length bs) 0 h, set-append_seam, append_snoc)
