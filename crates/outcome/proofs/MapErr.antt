-- What `map_err` was given, from what it returns. Q is what the closure says of the error that it makes.
use Rattle.std.proofs.Common.{◌≡◌, Err, Ok, refl}
use Rattle.std.specs.Prelude.{IsErrAnd, MatchResult, Result}
use Rattle.std.proofs.lemmas.Result.{err_from_is_err_and}

module _ {A B C : Type 0} where
  pub mapped_err : (r : Result A B) (s : Result A C) (e : C) (Q : B → C → Type 0)
      → MatchResult r (λ x. s ≡ Ok x) (λ k. IsErrAnd s (Q k)) → s ≡ Err e → (k : B) × (r ≡ Err k) × Q k e
  mapped_err (Ok x) s e Q h i = cc
  mapped_err (Err k) s e Q h i = let p = err_from_is_err_and s h in (k, refl, let same : p.0 ≡ e = cc in rw same at p.2)

  pub mapped_ok : (r : Result A B) (s : Result A C) (x : A) (Q : B → C → Type 0)
      → MatchResult r (λ x. s ≡ Ok x) (λ k. IsErrAnd s (Q k)) → s ≡ Ok x → r ≡ Ok x
  mapped_ok (Ok y) s x Q h i = cc
  mapped_ok (Err k) s x Q h i = let p = err_from_is_err_and s h in cc
