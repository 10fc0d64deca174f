-- Why a script is refused: its length, the first record with a wrong mark, kind or field and the least of these numbers, or a buffer that is too
-- short. The first wrong record is looked for from the first record on, so all records before it are good.
use Prim.Native.Nat.{ℕ, suc, ◌+◌, ◌≤◌}
use mathlib.Core.Path.{◌≡◌, refl}
use mathlib.Core.Bool.{Bool, true, false, cond}
use mathlib.Core.List.{List, [], ◌∷◌}
use native.Mathlib.Omega.{arith}
use borrow.Author.Tests.{eqb-false, eqb-true, ltb-false, ltb-true, ne_eqb}
use lib.Dec.{eqb, ltb}
use lib.ListN.{length}
use Rattle.lists.specs.Tests.{first_from}
use Rattle.outcome.specs.Refusal.{Refusal, refusal}
use Rattle.record.specs.declared.Record.{Record}
use Rattle.script.specs.Records.{records_of}
use Rattle.script.specs.Refusals.{bad_fields, bad_kind, bad_length, script_refusal, wrong_mark}
use Rattle.script.specs.Scan.{shape_fault}
use Rattle.lister.specs.Listing.{answer, first_wrong, list_refusal, list_result, listing, refused_at, script_fault, text_after}
use Rattle.lister.specs.ListingCorrect.{Accepted, FirstWrongRecord, Refused, WrongRecord}
use Rattle.lister.proofs.Faults.{as_the_compiler_lem, good_record, none_of}

-- ---- one record
wrong_record_lem : (r : Record) → (shape_fault r ≡ 0 → ⊥) → WrongRecord r (shape_fault r)
unfolding shape_fault
wrong_record_lem r n = pick (wrong_mark r) (bad_kind r) (bad_fields r) refl refl refl n
  where
    pick : (a b c : Bool) → wrong_mark r ≡ a → bad_kind r ≡ b → bad_fields r ≡ c → (first_from 2 (a ∷ b ∷ c ∷ []) ≡ 0 → ⊥)
        → WrongRecord r (first_from 2 (a ∷ b ∷ c ∷ []))
    pick true b c p q s n = WrongRecord.mark p
    pick false true c p q s n = WrongRecord.kind p q
    pick false false true p q s n = WrongRecord.fields p q s
    pick false false false p q s n = absurd (n refl)

-- ---- the first wrong record
record Found (rs : List Record) (place : ℕ) (f : Refusal) : Type 0 where
  after : ℕ
  first : FirstWrongRecord rs f.number after
  placed : f.place ≡ place + after

found : (rs : List Record) (place : ℕ) → ((first_wrong place rs).number ≡ 0 → ⊥) → Found rs place (first_wrong place rs)
found [] place n = absurd (n refl)
found (r ∷ rs) place n = pick (eqb (shape_fault r) 0) refl (found rs (suc place)) n
  where
    pick : (t : Bool) → eqb (shape_fault r) 0 ≡ t
        → (((first_wrong (suc place) rs).number ≡ 0 → ⊥) → Found rs (suc place) (first_wrong (suc place) rs))
        → ((cond t (first_wrong (suc place) rs) (refusal (shape_fault r) place)).number ≡ 0 → ⊥)
        → Found (r ∷ rs) place (cond t (first_wrong (suc place) rs) (refusal (shape_fault r) place))
    pick true q next m =
        let i = next m in
        let p = i.placed in
        let good = good_record r (eqb-true (shape_fault r) 0 q) in
        record { after = suc i.after; first = FirstWrongRecord.later good i.first; placed = omega (arith, p) }
    pick false q next m = record { after = 0; first = FirstWrongRecord.here (wrong_record_lem r m); placed = omega arith }

module _ (script buffer : List ℕ) where
  -- ---- refusals 1 to 4
  at_fault : ((script_fault script).number ≡ 0 → ⊥) → Refused script buffer (refused_at (script_fault script).number (script_fault script).place)
  unfolding script_fault
  at_fault n = pick (bad_length script) refl n
    where
      pick : (b : Bool) → bad_length script ≡ b → ((cond b (refusal 1 0) (first_wrong 0 (records_of script))).number ≡ 0 → ⊥)
          → Refused script buffer
          (refused_at (cond b (refusal 1 0) (first_wrong 0 (records_of script))).number
          (cond b (refusal 1 0) (first_wrong 0 (records_of script))).place)
      pick true e m = Refused.wrong_length e
      pick false e m =
          let f = found (records_of script) 0 m in
          let p = f.placed in
          let z : (first_wrong 0 (records_of script)).place ≡ f.after = omega (arith, p) in
          rw z (Refused.wrong_record e f.first)

  -- ---- the laws
  pub why_refused : ((list_result script buffer).refusal ≡ 0 → ⊥) → Refused script buffer (list_result script buffer)
  unfolding list_result list_refusal
  why_refused n = pick (eqb (script_fault script).number 0) refl (ltb (length buffer) (length (listing script))) refl n
    where
      pick : (a : Bool) → eqb (script_fault script).number 0 ≡ a → (b : Bool) → ltb (length buffer) (length (listing script)) ≡ b
          → ((cond a (cond b (refusal 34 0) (refusal 0 0)) (script_fault script)).number ≡ 0 → ⊥)
          → Refused script buffer (answer (cond a (cond b (refusal 34 0) (refusal 0 0)) (script_fault script)) (length (listing script)))
      pick true p true q m =
          Refused.no_room (none_of script (eqb-true (script_fault script).number 0 p)) (ltb-true (length buffer) (length (listing script)) q)
      pick true p false q m = absurd (m refl)
      pick false p b q m = rw p (at_fault m)

  pub unchanged : ((list_result script buffer).refusal ≡ 0 → ⊥) → text_after script buffer ≡ buffer
  unfolding list_result text_after
  unchanged n = rw (ne_eqb (list_refusal script buffer).number 0 n)

  -- refusals 1 to 4 of the compiler
  pub same_refusal_lem : ((script_refusal script).number ≡ 0 → ⊥) → (script_refusal script).number ≤ 4
      → list_result script buffer ≡ refused_at (script_refusal script).number (script_refusal script).place
  unfolding list_result list_refusal
  same_refusal_lem n l = let z = ne_eqb (script_refusal script).number 0 n in rw (as_the_compiler_lem script l, z, z)

  pub accepted : (list_result script buffer).refusal ≡ 0 → Accepted script buffer
  unfolding list_result list_refusal
  accepted h = pick (eqb (script_fault script).number 0) refl (ltb (length buffer) (length (listing script))) refl h
    where
      pick : (a : Bool) → eqb (script_fault script).number 0 ≡ a → (b : Bool) → ltb (length buffer) (length (listing script)) ≡ b
          → (cond a (cond b (refusal 34 0) (refusal 0 0)) (script_fault script)).number ≡ 0 → Accepted script buffer
      pick true p true q h = absurd (omega arith)
      pick true p false q h =
          record {
            none_of1_to4 = none_of script (eqb-true (script_fault script).number 0 p);
            room = ltb-false (length buffer) (length (listing script)) q;
          }
      pick false p b q h = absurd (eqb-false (script_fault script).number 0 p h)
