-- The refusal that the scan gives, record by record: it is the least fault of the first record that has one, or refusal 7 if no
-- record has a fault and a block is still open. By induction on the list of records.
use Prim.Native.Nat.{ℕ, zero, suc, ◌+◌, ◌%◌, ◌≤◌, ◌<◌}
use mathlib.Core.Path.{◌≡◌, refl, sym, ◌∙◌}
use mathlib.Core.Bool.{Bool, true, false, cond, not, true≢false}
use mathlib.Core.List.{List, [], ◌∷◌}
use mathlib.Core.Logic.{◌⊎◌, inl, inr}
use borrow.Author.Tests.{eqb-true, le-ltb, ltb-false, ne_eqb, not-false}
use lib.Dec.{eqb, ltb}
use lib.ListN.{length}
use native.Mathlib.Omega.{arith}
use Rattle.lists.proofs.Tests.{first_from_lem, none_from}
use Rattle.lists.specs.All.{All}
use Rattle.lists.specs.Tests.{first_from, holds_at}
use Rattle.mask.proofs.Branch.{branch}
use Rattle.mask.proofs.Every.{neither}
use Rattle.outcome.specs.Refusal.{refusal}
use Rattle.record.specs.declared.Record.{Record}
use Rattle.script.specs.Faults.{FirstFaultAt, GoodLength, NoFault, fault_at, faults, has_fault, open_at_end}
use Rattle.script.specs.Records.{record_count}
use Rattle.script.specs.Refusals.{bad_length, first_fault, innermost, open_after, outer, record_fault}

-- ---- one record
-- the first test from `at` on is 0, for none, or at least `at`
from_least : (bs : List Bool) (at : ℕ) → (first_from at bs ≡ 0) ⊎ (at ≤ first_from at bs)
from_least [] at = inl refl
from_least (true ∷ bs) at = inr (omega arith)
from_least (false ∷ bs) at = later (from_least bs (suc at))
  where
    later : (first_from (suc at) bs ≡ 0) ⊎ (suc at ≤ first_from (suc at) bs)
        → (first_from (suc at) bs ≡ 0) ⊎ (at ≤ first_from (suc at) bs)
    later (inl z) = inl z
    later (inr l) = inr (omega arith)

module _ (blocks : List ℕ) (r : Record) where
  -- a record without a fault
  none_has : record_fault blocks r ≡ 0 → (n : ℕ) → has_fault n blocks r ≡ false
  unfolding record_fault
  none_has h zero = refl
  none_has h (suc zero) = refl
  none_has h (suc (suc k)) = none_from (faults blocks r) 2 (omega arith) h k

  -- a record with a fault has the one that is found, and none with a lower number
  record Least (n : ℕ) : Type 0 where
    has : has_fault n blocks r ≡ true
    least : (m : ℕ) → m < n → has_fault m blocks r ≡ false

  found : (n : ℕ) → first_from 2 (faults blocks r) ≡ n → 2 ≤ n → Least n
  found zero e l = absurd (omega arith)
  found (suc zero) e l = absurd (omega arith)
  found (suc (suc j)) e l =
      let q = first_from_lem (faults blocks r) 2 j (omega arith) (e ∙ omega arith) in
      record { has = q.holds; least = lower q.none_before }
    where
      lower : ((i : ℕ) → i < j → holds_at (faults blocks r) (suc i) ≡ false) → (m : ℕ) → m < suc (suc j) → has_fault m blocks r ≡ false
      lower f zero l = refl
      lower f (suc zero) l = refl
      lower f (suc (suc i)) l = f i (omega arith)

  one_has : (record_fault blocks r ≡ 0) ⊎ Least (record_fault blocks r)
  unfolding record_fault
  one_has = pick (from_least (faults blocks r) 2)
    where
      pick : (first_from 2 (faults blocks r) ≡ 0) ⊎ (2 ≤ first_from 2 (faults blocks r))
          → (first_from 2 (faults blocks r) ≡ 0) ⊎ Least (first_from 2 (faults blocks r))
      pick (inl z) = inl z
      pick (inr l) = inr (found (first_from 2 (faults blocks r)) refl l)

  -- the numbers of faults are 2 to 6
  bounded : (n : ℕ) → has_fault n blocks r ≡ true → (2 ≤ n) × (n ≤ 6)
  bounded zero h = absurd (true≢false (sym h))
  bounded (suc zero) h = absurd (true≢false (sym h))
  bounded (suc (suc zero)) h = (omega arith, omega arith)
  bounded (suc (suc (suc zero))) h = (omega arith, omega arith)
  bounded (suc (suc (suc (suc zero)))) h = (omega arith, omega arith)
  bounded (suc (suc (suc (suc (suc zero))))) h = (omega arith, omega arith)
  bounded (suc (suc (suc (suc (suc (suc zero)))))) h = (omega arith, omega arith)
  bounded (suc (suc (suc (suc (suc (suc (suc n))))))) h = absurd (true≢false (sym h))

-- ---- a list of records
-- the numbers of faults in a list are 2 to 6, too
pub fault_bounded : (n k : ℕ) (blocks : List ℕ) (rs : List Record) → fault_at n blocks rs k ≡ true → (2 ≤ n) × (n ≤ 6)
fault_bounded n k blocks [] h = absurd (true≢false (sym h))
fault_bounded n zero blocks (r ∷ rs) h = bounded blocks r n h
fault_bounded n (suc k) blocks (r ∷ rs) h = fault_bounded n k (open_after blocks r.kind) rs h

-- some record is the first with a fault, or no record has one
pub record FirstFault (blocks : List ℕ) (rs : List Record) : Type 0 where
  pub number : ℕ
  pub at : ℕ
  pub first : FirstFaultAt number blocks rs at

pub first_or_none : (rs : List Record) (blocks : List ℕ) → FirstFault blocks rs ⊎ NoFault blocks rs
first_or_none [] blocks = inr (λ n k. refl)
first_or_none (r ∷ rs) blocks = pick (one_has blocks r) (first_or_none rs (open_after blocks r.kind))
  where
    pick : (record_fault blocks r ≡ 0) ⊎ Least blocks r (record_fault blocks r)
        → FirstFault (open_after blocks r.kind) rs ⊎ NoFault (open_after blocks r.kind) rs
        → FirstFault blocks (r ∷ rs) ⊎ NoFault blocks (r ∷ rs)
    pick (inr l) later = inl
        (record {
          number = record_fault blocks r;
          at = 0;
          first = record { has = l.has; least = l.least; earliest = λ m j p. absurd (omega arith) };
        })
    pick (inl z) (inl f) = inl
        (record {
          number = f.number;
          at = suc f.at;
          first = record { has = f.first.has; least = f.first.least; earliest = earlier };
        })
      where
        earlier : (m j : ℕ) → j < suc f.at → fault_at m blocks (r ∷ rs) j ≡ false
        earlier m zero p = none_has blocks r z m
        earlier m (suc j) p = f.first.earliest m j (omega arith)
    pick (inl z) (inr none) = inr all
      where
        all : (n k : ℕ) → fault_at n blocks (r ∷ rs) k ≡ false
        all n zero = none_has blocks r z n
        all n (suc k) = none n k

-- the refusal of a list whose first fault is n, at record k
module _ (n : ℕ) where
  pub first_refused :
      (rs : List Record) (blocks : List ℕ) (place k : ℕ) → FirstFaultAt n blocks rs k
      → first_fault blocks place rs ≡ refusal n (place + k)
  first_refused [] blocks place k f = absurd (true≢false (sym f.has))
  first_refused (r ∷ rs) blocks place zero f = pick (one_has blocks r)
    where
      pick : (record_fault blocks r ≡ 0) ⊎ Least blocks r (record_fault blocks r)
          → first_fault blocks place (r ∷ rs) ≡ refusal n (place + 0)
      pick (inl z) = absurd (true≢false (sym f.has ∙ none_has blocks r z n))
      pick (inr l) =
          let not_less : record_fault blocks r < n → ⊥ = λ p. true≢false (sym l.has ∙ f.least (record_fault blocks r) p) in
          let not_more : n < record_fault blocks r → ⊥ = λ p. true≢false (sym f.has ∙ l.least n p) in
          let e : record_fault blocks r ≡ n = omega arith in
          let b = (bounded blocks r n f.has).0 in
          let here : place + 0 ≡ place = omega arith in
          rw (e, ne_eqb n 0 (λ z. omega arith), here)
  first_refused (r ∷ rs) blocks place (suc k) f =
      pick (one_has blocks r)
      (first_refused rs (open_after blocks r.kind) (suc place) k
      (record { has = f.has; least = f.least; earliest = λ m j p. f.earliest m (suc j) (omega arith) }))
    where
      pick : (record_fault blocks r ≡ 0) ⊎ Least blocks r (record_fault blocks r)
          → first_fault (open_after blocks r.kind) (suc place) rs ≡ refusal n (suc place + k)
          → first_fault blocks place (r ∷ rs) ≡ refusal n (place + suc k)
      pick (inr l) i = absurd (true≢false (sym l.has ∙ f.earliest (record_fault blocks r) 0 (omega arith)))
      pick (inl z) i = let later : suc place + k ≡ place + suc k = omega arith in rw (z, i, later)

-- the refusal of a list without a fault: 7 if a block is still open
pub none_refused :
    (rs : List Record) (blocks : List ℕ) (place : ℕ) → NoFault blocks rs
    → first_fault blocks place rs ≡ cond (eqb (innermost (open_at_end blocks rs)) 0) (refusal 0 0) (refusal 7 (place + length rs))
none_refused [] blocks place none = let e : place + 0 ≡ place = omega arith in rw e
none_refused (r ∷ rs) blocks place none =
    pick (one_has blocks r) (none_refused rs (open_after blocks r.kind) (suc place) (λ n k. none n (suc k)))
  where
    pick : (record_fault blocks r ≡ 0) ⊎ Least blocks r (record_fault blocks r)
        → first_fault (open_after blocks r.kind) (suc place) rs
        ≡ cond (eqb (innermost (open_at_end (open_after blocks r.kind) rs)) 0) (refusal 0 0) (refusal 7 (suc place + length rs))
        → first_fault blocks place (r ∷ rs)
        ≡ cond (eqb (innermost (open_at_end (open_after blocks r.kind) rs)) 0) (refusal 0 0) (refusal 7 (place + suc (length rs)))
    pick (inr l) i = absurd (true≢false (sym l.has ∙ none (record_fault blocks r) 0))
    pick (inl z) i = let later : suc place + length rs ≡ place + suc (length rs) = omega arith in rw (z, i, later)

-- ---- no block is open exactly if the innermost is 0: an open block is 4, 5 or 6
abbrev Positive : List ℕ → Type 0
Positive blocks = All (λ b. 0 < b) blocks

positive_outer : (blocks : List ℕ) → Positive blocks → Positive (outer blocks)
positive_outer [] p = tt
positive_outer (b ∷ bs) p = p.1

positive_after : (blocks : List ℕ) (kind : ℕ) → Positive blocks → Positive (open_after blocks kind)
positive_after blocks kind p =
    branch Positive (eqb kind 4) (omega arith, p)
    (branch Positive (eqb kind 5) (omega arith, p)
    (branch Positive (eqb kind 6) (omega arith, positive_outer blocks p)
    (branch Positive (eqb kind 7) (positive_outer blocks p) p)))

positive_end : (rs : List Record) (blocks : List ℕ) → Positive blocks → Positive (open_at_end blocks rs)
positive_end [] blocks p = p
positive_end (r ∷ rs) blocks p = positive_end rs (open_after blocks r.kind) (positive_after blocks r.kind p)

innermost_zero : (blocks : List ℕ) → Positive blocks → innermost blocks ≡ 0 → blocks ≡ []
innermost_zero [] p z = refl
innermost_zero (b ∷ bs) p z = let l = p.0 in absurd (omega arith)

pub closed : (rs : List Record) → innermost (open_at_end [] rs) ≡ 0 → open_at_end [] rs ≡ []
closed rs z = innermost_zero (open_at_end [] rs) (positive_end rs [] tt) z

-- ---- the length
pub good_length_lem : (script : List ℕ) → bad_length script ≡ false → GoodLength script
good_length_lem script h =
    let d = neither (not (eqb (length script % 12) 0)) (ltb 1024 (record_count script)) h in
    let z = eqb-true (length script % 12) 0 (not-false (eqb (length script % 12) 0) d.0) in
    let l = ltb-false 1024 (record_count script) d.1 in
    (z, omega arith)

pub length_good : (script : List ℕ) → GoodLength script → bad_length script ≡ false
length_good script g =
    let z = g.0 in
    let l = g.1 in
    rw (z, le-ltb 1024 (record_count script) (omega arith))
