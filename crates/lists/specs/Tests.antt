-- Lists of tests: whether all of them hold, and which is the first that holds.
use Rattle.std.specs.Prelude.{ℕ, zero, suc, Bool, true, false, cond, ◌&&◌, List, [], ◌∷◌}

abbrev pub all_hold : List Bool → Bool
all_hold [] = true
all_hold (b ∷ bs) = b && all_hold bs

-- the place of the first test that holds, counted from `at`; 0 if none holds
abbrev pub first_from : ℕ → List Bool → ℕ
first_from at [] = 0
first_from at (b ∷ bs) = cond b at (first_from (suc at) bs)

-- the same, counted from 1
abbrev pub first_holding : List Bool → ℕ
first_holding = first_from 1

-- the test at a place, counted from 1; false at 0 and after the last
abbrev pub holds_at : List Bool → ℕ → Bool
holds_at bs zero = false
holds_at [] (suc k) = false
holds_at (b ∷ bs) (suc zero) = b
holds_at (b ∷ bs) (suc (suc k)) = holds_at bs (suc k)
