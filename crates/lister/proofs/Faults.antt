-- `script_fault` finds nothing exactly if a script meets none of refusals 1 to 4. If the compiler gives one of them or none, it finds the same,
-- because the compiler looks for the same faults of a record first, and then for 5 and 6.
use Prim.Native.Nat.{ℕ, zero, suc, ◌%◌, ◌≤◌}
use mathlib.Core.Path.{◌≡◌, refl, ◌∙◌, ap}
use mathlib.Core.Bool.{Bool, true, false, cond, not}
use mathlib.Core.List.{List, [], ◌∷◌}
use borrow.Author.Tests.{eqb-false, eqb-true, ne_eqb, not-false}
use lib.Dec.{eqb}
use lib.ListN.{length}
use native.Mathlib.Omega.{arith}
use Rattle.lists.proofs.Tests.{none_from}
use Rattle.lists.specs.All.{All}
use Rattle.mask.proofs.Every.{neither}
use Rattle.outcome.specs.Refusal.{Refusal, refusal}
use Rattle.record.specs.declared.Record.{Record}
use Rattle.script.specs.Records.{record_count, records_of}
use Rattle.script.specs.Refusals.{bad_fields, bad_kind, bad_length, first_fault, innermost, misplaced, open_after, record_fault, script_refusal, too_deep, too_many_words, wrong_mark}
use Rattle.script.specs.Scan.{shape_fault}
use Rattle.script.proofs.Flat.{stops}
use Rattle.script.proofs.Scanning.{fault_parts}
use Rattle.lister.specs.Listing.{first_wrong, script_fault}
use Rattle.lister.specs.ListingCorrect.{GoodRecord, NoneOf1To4}

-- ---- one record
pub good_record : (r : Record) → shape_fault r ≡ 0 → GoodRecord r
unfolding shape_fault
good_record r h =
    let none = none_from (wrong_mark r ∷ bad_kind r ∷ bad_fields r ∷ []) 2 (omega arith) h in
    record { good_mark = none 0; good_kind = none 1; good_fields = none 2 }

no_fault_of : (r : Record) → GoodRecord r → shape_fault r ≡ 0
unfolding shape_fault
no_fault_of r g = rw (g.good_mark, g.good_kind, g.good_fields)

-- ---- the records
-- no record has a fault of its own
abbrev pub Faultless : List Record → Type 0
Faultless = All (λ r. shape_fault r ≡ 0)

pub faultless : (rs : List Record) → All GoodRecord rs → Faultless rs
faultless [] t = tt
faultless (r ∷ rs) t = (no_fault_of r t.0, faultless rs t.1)

none_wrong : (rs : List Record) (place : ℕ) → (first_wrong place rs).number ≡ 0 → All GoodRecord rs
none_wrong [] place h = tt
none_wrong (r ∷ rs) place h =
    let n = shape_fault r in
    let s = stops (eqb n 0) (first_wrong (suc place) rs) (refusal n place) (eqb-false n 0) h in
    (good_record r (eqb-true n 0 s.0), none_wrong rs (suc place) s.1)

all_good : (rs : List Record) (place : ℕ) → All GoodRecord rs → first_wrong place rs ≡ refusal 0 0
all_good [] place t = refl
all_good (r ∷ rs) place t = rw (no_fault_of r t.0) (all_good rs (suc place) t.1)

-- ---- the script
pub none_of : (script : List ℕ) → (script_fault script).number ≡ 0 → NoneOf1To4 script
unfolding script_fault
none_of script h = pick (bad_length script) refl h
  where
    pick : (b : Bool) → bad_length script ≡ b → (cond b (refusal 1 0) (first_wrong 0 (records_of script))).number ≡ 0 → NoneOf1To4 script
    pick true e f = absurd (omega arith)
    pick false e f = record { good_length = e; good_records = none_wrong (records_of script) 0 f }

module _ (script : List ℕ) (none : NoneOf1To4 script) where
  pub no_refusal_lem : script_fault script ≡ refusal 0 0
  unfolding script_fault
  no_refusal_lem = rw none.good_length (all_good (records_of script) 0 none.good_records)

  pub whole : length script % 12 ≡ 0
  whole =
      let n = neither (not (eqb (length script % 12) 0)) _ none.good_length in
      eqb-true (length script % 12) 0 (not-false (eqb (length script % 12) 0) n.0)

-- ---- the compiler
-- one record, with what both find in the records after it
one_more :
    (s n place : ℕ) (m d : Bool) (a b : Refusal) → n ≡ cond (eqb s 0) (cond m 5 (cond d 6 0)) s → (b.number ≤ 4 → a ≡ b)
    → (cond (eqb n 0) b (refusal n place)).number ≤ 4 → cond (eqb s 0) a (refusal s place) ≡ cond (eqb n 0) b (refusal n place)
one_more zero n place true d a b e f l = absurd (omega (arith, rw e at l))
one_more zero n place false true a b e f l = absurd (omega (arith, rw e at l))
one_more zero n place false false a b e f l = rw e (f (rw e at l))
one_more (suc s) n place m d a b e f l = let z = ne_eqb (suc s) 0 (λ z. omega arith) in rw (e, z, z)

same_fault :
    (rs : List Record) (blocks : List ℕ) (place : ℕ) → (first_fault blocks place rs).number ≤ 4
    → first_wrong place rs ≡ first_fault blocks place rs
same_fault [] blocks place l = pick (eqb (innermost blocks) 0) l
  where
    pick : (b : Bool) → (cond b (refusal 0 0) (refusal 7 place)).number ≤ 4 → refusal 0 0 ≡ cond b (refusal 0 0) (refusal 7 place)
    pick true l = refl
    pick false l = absurd (omega arith)
same_fault (r ∷ rs) blocks place l =
    let later = open_after blocks r.kind in
    one_more (shape_fault r) (record_fault blocks r) place (misplaced blocks r.kind) (too_deep blocks r.kind) (first_wrong (suc place) rs)
    (first_fault later (suc place) rs) (fault_parts blocks r) (same_fault rs later (suc place)) l

pub as_the_compiler_lem : (script : List ℕ) → (script_refusal script).number ≤ 4 → script_fault script ≡ script_refusal script
unfolding script_fault script_refusal
as_the_compiler_lem script l =
    pick (bad_length script) (eqb (first_fault [] 0 rs).number 0) (too_many_words script) (eqb-true (first_fault [] 0 rs).number 0) l
  where
    rs : List Record
    rs = records_of script

    pick : (a t b : Bool) → (t ≡ true → (first_fault [] 0 rs).number ≡ 0)
        → (cond a (refusal 1 0) (cond t (cond b (refusal 8 (record_count script)) (refusal 0 0)) (first_fault [] 0 rs))).number ≤ 4
        → cond a (refusal 1 0) (first_wrong 0 rs)
        ≡ cond a (refusal 1 0) (cond t (cond b (refusal 8 (record_count script)) (refusal 0 0)) (first_fault [] 0 rs))
    pick true t b z l = refl
    pick false true true z l = absurd (omega arith)
    pick false true false z l =
        let e = z refl in
        let s = same_fault rs [] 0 (omega (arith, e)) in
        all_good rs 0 (none_wrong rs 0 (ap (λ (f : Refusal). f.number) s ∙ e))
    pick false false b z l = same_fault rs [] 0 l

pub compiled : (script : List ℕ) → (script_refusal script).number ≡ 0 → NoneOf1To4 script
compiled script h =
    let s = as_the_compiler_lem script (omega (arith, h)) in
    none_of script (ap (λ (f : Refusal). f.number) s ∙ h)
