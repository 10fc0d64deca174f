-- The records of a script, measured and put one after the other by the loops of `measure` and `put_listing`.
use Prim.Native.Nat.{ℕ, suc, ◌+◌, ◌-◌, ◌*◌, ◌≤◌, ◌<◌}
use mathlib.Core.Path.{◌≡◌, refl, ap, sym, ◌∙◌}
use mathlib.Core.Bool.{Bool, true, false, cond, ◌||◌}
use mathlib.Core.List.{List, [], ◌∷◌, ◌++◌, append_assoc}
use native.Mathlib.Numerals.{add-one}
use native.Mathlib.Omega.{arith}
use borrow.Author.Tests.{eqb-true, ne_eqb}
use lib.Dec.{eqb}
use lib.ListN.{length, length-append}
use Rattle.digits.proofs.Writes.{writes_none, writes_twice}
use Rattle.digits.specs.Written.{writes}
use Rattle.digits.specs.declared.Writer.{Writer}
use Rattle.outcome.specs.Refusal.{Refusal, refusal}
use Rattle.record.specs.Record.{record_at, record_size}
use Rattle.record.specs.declared.Record.{Record}
use Rattle.script.proofs.Records.{after_last_lem, few_records_lem, from_here}
use Rattle.script.specs.Records.{record_count, records_from, records_of}
use Rattle.script.specs.Refusals.{bad_length}
use Rattle.script.specs.Scan.{shape_fault}
use Rattle.lister.specs.Listing.{ListResult, depth_after, first_wrong, line_text, listing, listing_from, measured, refused_at, script_fault}
use Rattle.lister.proofs.Lengths.{line_most}

-- the records from place k on
abbrev pub left : (script : List ℕ) (k : ℕ) → List Record
left script k = records_from (record_count script - k) k script

-- record k, and those after it
next : (script : List ℕ) (k : ℕ) (r : Record) → k < record_count script → r ≡ record_at script (record_size * k)
    → left script k ≡ r ∷ left script (k + 1)
next script k r h q = rw (from_here script (record_count script) k h, q)

-- at most one block more is open after a record
depth_most : (depth kind : ℕ) → depth_after depth kind ≤ suc depth
unfolding depth_after
depth_most depth kind = pick (eqb kind 4 || eqb kind 5) (eqb kind 7)
  where
    pick : (a b : Bool) → cond a (suc depth) (cond b (depth - 1) depth) ≤ suc depth
    pick true b = omega arith
    pick false true = omega arith
    pick false false = omega arith

-- ---- the length is the sum of the lengths of the lines. So far it is below 100 for each record
pub record Measuring (script : List ℕ) (depth sum k : ℕ) : Type 0 where
  pub good : bad_length script ≡ false
  pub few : record_count script ≤ 1024
  pub inside : k ≤ record_count script
  pub shallow : depth ≤ k
  pub short : sum ≤ 100 * k
  pub fault : first_wrong 0 (records_of script) ≡ first_wrong k (left script k)
  pub given : sum + length (listing_from depth (left script k)) ≡ length (listing script)

pub measuring : (script : List ℕ) → bad_length script ≡ false → Measuring script 0 0 0
unfolding records_of listing
measuring script h =
    let e : record_count script - 0 ≡ record_count script = omega arith in
    record {
      good = h;
      few = few_records_lem script h;
      inside = omega arith;
      shallow = omega arith;
      short = omega arith;
      fault = rw e;
      given = rw e (omega arith);
    }

-- a refusal of the records is the answer
wrong_at : (script : List ℕ) (n place : ℕ) → bad_length script ≡ false → first_wrong 0 (records_of script) ≡ refusal n place → (n ≡ 0 → ⊥)
    → refused_at n place ≡ measured script
unfolding measured script_fault
wrong_at script n place h e z = rw (h, e, ne_eqb n 0 z)

pub wrong_length_lem : (script : List ℕ) → bad_length script ≡ true → refused_at 1 0 ≡ measured script
unfolding measured script_fault
wrong_length_lem script h = rw h

module _ {script : List ℕ} {depth sum k : ℕ} (g : Measuring script depth sum k) where
  pub wrong_record_lem : (r : Record) (n : ℕ) → k < record_count script → r ≡ record_at script (record_size * k) → n ≡ shape_fault r → (n ≡ 0 → ⊥)
      → refused_at n k ≡ measured script
  wrong_record_lem r n h q e z =
      wrong_at script n k g.good (g.fault ∙ ap (first_wrong k) (next script k r h q) ∙ (rw (← e, ne_eqb n 0 z))) z

  -- with the next line, the length is far below the limit
  pub room : (depth : ℕ) (r : Record) {long : ℕ} → long ≡ length (line_text depth r) + 1 → sum + long ≤ 102500
  room d r e = let m = line_most d r in omega (arith, e, m, g.short, g.few, g.inside)

  pub measured_more : (r : Record) (long later : ℕ) → k < record_count script → r ≡ record_at script (record_size * k) → shape_fault r ≡ 0
      → long ≡ length (line_text depth r) + 1 → later ≡ depth_after depth r.kind → Measuring script later (sum + long) (k + 1)
  measured_more r long later h q z el ed =
      let here = next script k r h q in
      let m = line_most depth r in
      let d = depth_most depth r.kind in
      let rest = listing_from (depth_after depth r.kind) (left script (k + 1)) in
      let a = length-append (line_text depth r) (0x0A ∷ rest) in
      let t : sum + length (line_text depth r ++ (0x0A ∷ rest)) ≡ length (listing script) = rw here at g.given in
      record {
        good = g.good;
        few = g.few;
        inside = omega arith;
        shallow = omega (arith, ed, d, g.shallow);
        short = omega (arith, el, m, g.short);
        fault = g.fault ∙ ap (first_wrong k) here ∙ (rw (z, add-one k));
        given = rw ed (omega (arith, el, a, t));
      }

  pub measured_all : record_count script ≤ k → ◌≡◌ {A = ListResult} (record { refusal = 0; place = 0; length = sum }) (measured script)
  unfolding measured script_fault
  measured_all h =
      let none = after_last_lem script (record_count script) k h in
      let f = rw none at g.fault in
      let t = rw none at g.given in
      let e : length (listing script) ≡ sum = omega arith in
      rw (g.good, f, e)

-- ---- putting: with the lines that are left, the text is complete
pub record Putting (script : List ℕ) (start text : Writer) (depth k : ℕ) : Type 0 where
  pub few : record_count script ≤ 1024
  pub inside : k ≤ record_count script
  pub shallow : depth ≤ k
  pub clean : (first_wrong k (left script k)).number ≡ 0
  pub given : writes (listing_from depth (left script k)) text ≡ writes (listing script) start

-- a script without a fault has a good length, and no record with a fault
without_fault : (script : List ℕ) → (script_fault script).number ≡ 0
    → (bad_length script ≡ false) × ((first_wrong 0 (records_of script)).number ≡ 0)
unfolding script_fault
without_fault script h = pick (bad_length script) h
  where
    pick : (b : Bool) → (cond b (refusal 1 0) (first_wrong 0 (records_of script))).number ≡ 0
        → (b ≡ false) × ((first_wrong 0 (records_of script)).number ≡ 0)
    pick true e = absurd (omega (arith, e))
    pick false e = (refl, e)

pub putting : (script : List ℕ) (text : Writer) → (script_fault script).number ≡ 0 → Putting script text text 0 0
unfolding records_of listing
putting script text h =
    let w = without_fault script h in
    let e : record_count script - 0 ≡ record_count script = omega arith in
    record {
      few = few_records_lem script w.0;
      inside = omega arith;
      shallow = omega arith;
      clean = rw e w.1;
      given = rw e;
    }

module _ {script : List ℕ} {start text : Writer} {depth k : ℕ} (g : Putting script start text depth k) where
  pub right_record : (r : Record) → k < record_count script → r ≡ record_at script (record_size * k) → shape_fault r ≡ 0
  right_record r h q = pick (eqb (shape_fault r) 0) (eqb-true (shape_fault r) 0) _ (rw (next script k r h q) at g.clean)
    where
      pick : (b : Bool) → (b ≡ true → shape_fault r ≡ 0) → (f : Refusal) → (cond b f (refusal (shape_fault r) k)).number ≡ 0 → shape_fault r ≡ 0
      pick true t f e = t refl
      pick false t f e = e

  pub put_more : (r : Record) (now : Writer) (later : ℕ) → k < record_count script → r ≡ record_at script (record_size * k)
      → now ≡ writes (line_text depth r ++ (0x0A ∷ [])) text → later ≡ depth_after depth r.kind → Putting script start now later (k + 1)
  put_more r now later h q e ed =
      let here = next script k r h q in
      let z = right_record r h q in
      let d = depth_most depth r.kind in
      let rest = listing_from (depth_after depth r.kind) (left script (k + 1)) in
      let c : (first_wrong k (r ∷ left script (k + 1))).number ≡ 0 = rw here at g.clean in
      let t : writes (line_text depth r ++ (0x0A ∷ rest)) text ≡ writes (listing script) start = rw here at g.given in
      record {
        few = g.few;
        inside = omega arith;
        shallow = omega (arith, ed, d, g.shallow);
        clean = rw (z, ← (add-one k)) at c;
        given = rw (ed, e, writes_twice, append_assoc) t;
      }

  pub put_all : record_count script ≤ k → text ≡ writes (listing script) start
  put_all h = sym (writes_none text) ∙ (rw (after_last_lem script (record_count script) k h) at g.given)
