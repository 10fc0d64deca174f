-- A list of tests holds exactly if each test holds. If `first_holding` finds a test, this test holds and none before it does.
use Prim.Native.Nat.{ℕ, zero, suc, ◌+◌, ◌≤◌, ◌<◌}
use mathlib.Core.Path.{◌≡◌, refl, ◌∙◌}
use mathlib.Core.Bool.{Bool, true, false}
use mathlib.Core.List.{List, [], ◌∷◌}
use lib.ListN.{length}
use native.Mathlib.Omega.{arith}
use Rattle.lists.specs.All.{All}
use Rattle.lists.specs.Tests.{all_hold, first_from, first_holding, holds_at}

-- the test at place k + 1, counted from 1, holds, and none before it does
pub record FirstAt (bs : List Bool) (k : ℕ) : Type 0 where
  pub holds : holds_at bs (suc k) ≡ true
  pub none_before : (j : ℕ) → j < k → holds_at bs (suc j) ≡ false

pub first_from_lem : (bs : List Bool) (at k : ℕ) → 0 < at → first_from at bs ≡ at + k → FirstAt bs k
first_from_lem [] at k p e = absurd (omega (arith, e))
first_from_lem (true ∷ bs) at k p e =
    let z : k ≡ 0 = omega (arith, e) in
    rw z (record { holds = refl; none_before = λ j l. absurd (omega arith) })
first_from_lem (false ∷ bs) at zero p e = absurd (not_at bs (suc at) (omega arith) (omega (arith, e)))
  where
    not_at : (cs : List Bool) (from : ℕ) → at < from → first_from from cs ≡ at → ⊥
    not_at [] from l h = omega (arith, h)
    not_at (true ∷ cs) from l h = omega (arith, h)
    not_at (false ∷ cs) from l h = not_at cs (suc from) (omega arith) h
first_from_lem (false ∷ bs) at (suc k) p e =
    let r = first_from_lem bs (suc at) k (omega arith) (e ∙ omega arith) in
    record { holds = r.holds; none_before = before r.none_before }
  where
    before : ((j : ℕ) → j < k → holds_at bs (suc j) ≡ false) → (j : ℕ) → j < suc k → holds_at (false ∷ bs) (suc j) ≡ false
    before f zero l = refl
    before f (suc j) l = f j (omega arith)

-- a place that `first_holding` returns is the place of the first test that holds
pub first_holds : (bs : List Bool) (k : ℕ) → first_holding bs ≡ suc k → FirstAt bs k
first_holds bs k e = first_from_lem bs 1 k (omega arith) (e ∙ omega arith)

-- if it returns 0, no test holds
pub none_from : (bs : List Bool) (at : ℕ) → 0 < at → first_from at bs ≡ 0 → (k : ℕ) → holds_at bs (suc k) ≡ false
none_from [] at p h k = refl
none_from (true ∷ bs) at p h k = absurd (omega (arith, h))
none_from (false ∷ bs) at p h zero = refl
none_from (false ∷ bs) at p h (suc k) = none_from bs (suc at) (omega arith) h k

pub none_holds : (bs : List Bool) → first_holding bs ≡ 0 → (k : ℕ) → holds_at bs k ≡ false
none_holds bs e zero = refl
none_holds bs e (suc k) = none_from bs 1 (omega arith) e k

-- a place that it returns is in the list
from_at_most : (bs : List Bool) (at : ℕ) → first_from (suc at) bs ≤ at + length bs
from_at_most [] at = omega arith
from_at_most (true ∷ bs) at = omega arith
from_at_most (false ∷ bs) at = let h = from_at_most bs (suc at) in omega (arith, h)

pub first_at_most : (bs : List Bool) → first_holding bs ≤ length bs
first_at_most bs = let h = from_at_most bs 0 in omega (arith, h)

-- a list of tests holds exactly if each test holds
pub all_hold_lem : (bs : List Bool) → All (λ b. b ≡ true) bs → all_hold bs ≡ true
all_hold_lem [] t = refl
all_hold_lem (b ∷ bs) t = rw t.0 (all_hold_lem bs t.1)

pub all_held : (bs : List Bool) → all_hold bs ≡ true → All (λ b. b ≡ true) bs
all_held [] h = tt
all_held (true ∷ bs) h = (refl, all_held bs h)
all_held (false ∷ bs) h = let z : ◌≡◌ {A = ℕ} 0 1 = cc in absurd (omega arith)

pub each_holds : (bs : List Bool) → all_hold bs ≡ true → (k : ℕ) → k < length bs → holds_at bs (suc k) ≡ true
each_holds [] h k l = absurd (omega (arith, l))
each_holds (true ∷ bs) h zero l = refl
each_holds (true ∷ bs) h (suc k) l = each_holds bs h k (omega (arith, l))
each_holds (false ∷ bs) h k l = let z : ◌≡◌ {A = ℕ} 0 1 = cc in absurd (omega arith)
