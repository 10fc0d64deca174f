-- What holds for every element and for the default holds for the element at any place, also after the end of the list.
use Prim.Native.Nat.{ℕ, zero, suc}
use mathlib.Core.List.{List, [], ◌∷◌}
use lib.ListN.{get_or}
use Rattle.lists.specs.All.{All}

pub at_any : {A : Type 0} (P : A → Type 0) {z : A} → P z → (xs : List A) → All P xs → (k : ℕ) → P (get_or xs k z)
at_any P h [] t k = h
at_any P h (x ∷ xs) t zero = t.0
at_any P h (x ∷ xs) t (suc k) = at_any P h xs t.1 k
