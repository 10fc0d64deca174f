-- If every element of a list passes the test of its place, this is still so after a store of a value that passes the test
-- there. A store after the end of the list changes nothing.
use Prim.Native.Nat.{ℕ, zero, suc}
use mathlib.Core.Path.{◌≡◌}
use mathlib.Core.Bool.{Bool, true}
use mathlib.Core.List.{List, [], ◌∷◌}
use lib.ListN.{get_or, set}
use Rattle.mask.proofs.Every.{all_at, all_true}
use Rattle.mask.specs.Every.{all_below}

at_place : (p : ℕ → ℕ → Bool) (xs : List ℕ) (i v k : ℕ)
    → p i v ≡ true → p k (get_or xs k 0) ≡ true → p k (get_or (set xs i v) k 0) ≡ true
at_place p [] i v k new old = old
at_place p (x ∷ xs) zero v zero new old = new
at_place p (x ∷ xs) zero v (suc k) new old = old
at_place p (x ∷ xs) (suc i) v zero new old = old
at_place p (x ∷ xs) (suc i) v (suc k) new old = at_place (λ j. p (suc j)) xs i v k new old

pub all_stored : (n : ℕ) (p : ℕ → ℕ → Bool) (xs : List ℕ) (i v : ℕ)
    → p i v ≡ true → all_below n (λ k. p k (get_or xs k 0)) ≡ true → all_below n (λ k. p k (get_or (set xs i v) k 0)) ≡ true
all_stored n p xs i v new h =
    all_true n (λ k. p k (get_or (set xs i v) k 0))
    (λ k l. at_place p xs i v k new (all_at n (λ j. p j (get_or xs j 0)) h k l))
