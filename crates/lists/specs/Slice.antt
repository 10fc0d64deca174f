-- `slice z n at xs`: the n elements of the list from place `at` on. After the end of the list they are z.
use Rattle.std.specs.Prelude.{ℕ, zero, suc, List, [], ◌∷◌, get_or}

abbrev pub slice : {A : Type 0} → A → ℕ → ℕ → List A → List A
slice z zero at xs = []
slice z (suc n) at xs = get_or xs at z ∷ slice z n (suc at) xs
