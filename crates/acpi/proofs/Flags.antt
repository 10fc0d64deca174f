-- A test of every element of a list, as the test of every number below its length.
use Rattle.std.proofs.Common.{◌≡◌, ℕ, zero, suc, ◌-◌, Bool, true, false, ◌&&◌, List, [], ◌∷◌, drop, take, length, length-drop, get_or, refl, ap, sym, ◌∙◌, arith}
use Rattle.std.specs.List.{list_all}
use Rattle.std.proofs.lemmas.List.{get_or-drop}
use lib.Dec.{ltb}
use lib.Seq.{take_all}
use Rattle.mask.specs.Every.{all_below}
use Rattle.acpi.specs.Saved.{acpi_size, levels_saved}

first_apart : (n : ℕ) (p : ℕ → Bool) → all_below (suc n) p ≡ (p 0 && all_below n (λ k. p (suc k)))
first_apart zero p = elim (p 0) as (λ b. (true && b) ≡ (b && true)) [ true ↦ refl | false ↦ refl ]
first_apart (suc n) p =
    ap (λ b. b && p (suc n)) (first_apart n p) ∙ assoc (p 0) (all_below n (λ k. p (suc k))) (p (suc n))
  where
    assoc : (a b c : Bool) → ((a && b) && c) ≡ (a && (b && c))
    assoc true b c = refl
    assoc false b c = refl

each_below : (p : ℕ → Bool) (xs : List ℕ) → list_all p xs ≡ all_below (length xs) (λ k. p (get_or xs k 0))
each_below p [] = refl
each_below p (x ∷ xs) =
    ap (λ b. p x && b) (each_below p xs) ∙ sym (first_apart (length xs) (λ k. p (get_or (x ∷ xs) k 0)))

pub levels_tested :
    (bytes : List ℕ) → length bytes ≡ acpi_size → list_all (λ b. ltb b 2) (take (length bytes - 37) (drop 37 bytes)) ≡ levels_saved bytes
levels_tested bytes n =
    let size : length (drop 37 bytes) ≡ 8 = length-drop 37 bytes ∙ omega (arith, n) in
    let rest : take (length bytes - 37) (drop 37 bytes) ≡ drop 37 bytes = take_all (length bytes - 37) (drop 37 bytes) (omega (arith, n, size)) in
    rw rest (each_below (λ b. ltb b 2) (drop 37 bytes) ∙ rw size (simp get_or-drop))
