-- The loop of the scan. A record is checked by itself, then by the repeats around it, then by its place. Before each record
-- `ScanInvariant` holds: the fault and the words of the whole script follow from the records that are left. A fault ends the scan with
-- its number and place, a record without a fault keeps the invariant, and after the last record only an open block is a fault.
use Prim.Native.Nat.{ℕ, suc, ◌+◌, ◌-◌, ◌*◌, ◌≤◌, ◌<◌}
use mathlib.Core.Path.{◌≡◌, refl, sym, ap, ◌∙◌}
use mathlib.Core.Bool.{Bool, true, false, cond, ◌&&◌, ◌||◌, or-true}
use mathlib.Core.List.{List, [], ◌∷◌}
use native.Mathlib.Numerals.{add-one}
use native.Mathlib.Omega.{arith}
use borrow.Author.Tests.{ne_eqb, le-leb, le-ltb, lt-leb, lt-ltb, eqb-false, eqb-true}
use lib.Dec.{eqb, leb}
use lib.ListN.{length}
use Rattle.lists.proofs.Tests.{none_from}
use Rattle.record.specs.Record.{record_at, record_size}
use Rattle.record.specs.declared.Record.{Record}
use Rattle.script.specs.Records.{record_count, records_from, records_of}
use Rattle.script.specs.Refusals.{bad_fields, bad_kind, first_fault, emits_word, innermost, misplaced, open_after, record_fault, repeats_in, too_deep, script_refusal, too_many_words, word_count, words_in, wrong_mark, bad_length}
use Rattle.outcome.specs.Refusal.{Refusal, refusal}
use Rattle.script.specs.Scan.{ScanResult, full, place_fault, records_scan, refusal_at, script_scan, shape_fault}
use Rattle.script.proofs.Records.{after_last_lem, from_here}

-- ---- the fault of a record, from the record itself and from the open blocks
pub fault_parts : (blocks : List ℕ) (r : Record) →
    record_fault blocks r
    ≡ cond (eqb (shape_fault r) 0) (cond (misplaced blocks r.kind) 5 (cond (too_deep blocks r.kind) 6 0)) (shape_fault r)
unfolding record_fault shape_fault
fault_parts blocks r = pick (wrong_mark r) (bad_kind r) (bad_fields r) (cond (misplaced blocks r.kind) 5 (cond (too_deep blocks r.kind) 6 0))
  where
    pick : (a b c : Bool) (n : ℕ) →
        cond a 2 (cond b 3 (cond c 4 n)) ≡ cond (eqb (cond a 2 (cond b 3 (cond c 4 0))) 0) n (cond a 2 (cond b 3 (cond c 4 0)))
    pick true b c n = refl
    pick false true c n = refl
    pick false false true n = refl
    pick false false false n = refl

-- ---- the fault of a record, check by check
module _ (blocks : List ℕ) (r : Record) where
  pub shape_first : (n : ℕ) → n ≡ shape_fault r → (n ≡ 0 → ⊥) → record_fault blocks r ≡ n
  shape_first n e z = fault_parts blocks r ∙ (rw (← e, ne_eqb n 0 z))

  pub place_next : (n : ℕ) → shape_fault r ≡ 0 → n ≡ place_fault blocks r.kind → (n ≡ 0 → ⊥) → record_fault blocks r ≡ n
  place_next n s e z =
      fault_parts blocks r
      ∙ (rw s (pick (misplaced blocks r.kind) (full (length blocks) r.kind) (eqb r.kind 4 && leb 8 (repeats_in blocks)) e))
    where
      pick : (m f t : Bool) → n ≡ cond m 5 (cond f 6 0) → cond m 5 (cond (f || t) 6 0) ≡ n
      pick true f t q = sym q
      pick false true t q = sym q
      pick false false t q = absurd (z q)

  -- a record that has no fault by itself and by its place has none, if it is no repeat inside 8 repeats
  pub good : shape_fault r ≡ 0 → place_fault blocks r.kind ≡ 0 → (r.kind ≡ 4 → repeats_in blocks < 8) → record_fault blocks r ≡ 0
  good s p few =
      let q = none_from (misplaced blocks r.kind ∷ full (length blocks) r.kind ∷ []) 5 (omega arith) p in
      fault_parts blocks r ∙ (rw (s, q 0, q 1, pick (eqb r.kind 4) refl))
    where
      pick : (b : Bool) → eqb r.kind 4 ≡ b → (b && leb 8 (repeats_in blocks)) ≡ false
      pick true e = lt-leb 8 (repeats_in blocks) (few (eqb-true r.kind 4 e))
      pick false e = refl

-- a repeat is never misplaced, so one inside 8 repeats is refused for its depth
pub ninth_repeat : (blocks : List ℕ) (r : Record) → shape_fault r ≡ 0 → r.kind ≡ 4 → 8 ≤ repeats_in blocks → record_fault blocks r ≡ 6
ninth_repeat blocks r s e l =
    fault_parts blocks r ∙ (rw (s, e, le-leb 8 (repeats_in blocks) l, or-true (leb 16 (length blocks))))

-- ---- the loop invariant: what holds before record k of `count` records
pub record ScanInvariant (bytes : List ℕ) (count : ℕ) (blocks : List ℕ) (words k : ℕ) : Type 0 where
  pub fault : first_fault [] 0 (records_from count 0 bytes) ≡ first_fault blocks k (records_from (count - k) k bytes)
  pub given : words + word_count blocks (records_from (count - k) k bytes) ≡ suc (word_count [] (records_from count 0 bytes))
  pub few : words ≤ suc k

-- the invariant holds before the first record
pub starts : (bytes : List ℕ) (count : ℕ) → ScanInvariant bytes count [] 1 0
starts bytes count =
    let z : count - 0 ≡ count = omega arith in
    record { fault = rw z; given = rw z (omega arith); few = omega arith }

counted : (b : Bool) (words w t : ℕ) → words + cond b (suc w) w ≡ t → (words + cond b 1 0) + w ≡ t
counted true words w t h = omega arith
counted false words w t h = omega arith

pub at_most_one : (b : Bool) → cond b 1 0 ≤ 1
at_most_one true = omega arith
at_most_one false = omega arith

-- ---- what the scan returns, and how the invariant goes from one record to the next
scan_faulted : (bytes : List ℕ) (count number k : ℕ) → count ≡ record_count bytes
    → first_fault [] 0 (records_from count 0 bytes) ≡ refusal number k → (number ≡ 0 → ⊥) → refusal_at number k ≡ records_scan bytes
unfolding records_scan records_of
scan_faulted bytes count number k e f z = rw (rw e at f, ne_eqb number 0 z)

module _ (bytes : List ℕ) (count : ℕ) (blocks : List ℕ) (words k : ℕ) (g : ScanInvariant bytes count blocks words k) where
  -- a fault ends the scan with its number and place
  pub faulty : (r : Record) (n : ℕ) → count ≡ record_count bytes → k < count → r ≡ record_at bytes (record_size * k)
      → record_fault blocks r ≡ n → (n ≡ 0 → ⊥) → refusal_at n k ≡ records_scan bytes
  faulty r n c h q e z =
      scan_faulted bytes count n k c (g.fault ∙ ap (first_fault blocks k) (from_here bytes count k h) ∙ (rw (rw q at e, ne_eqb n 0 z))) z

  -- a record without a fault keeps the invariant
  pub further : (r : Record) (later : List ℕ) → k < count → r ≡ record_at bytes (record_size * k)
      → record_fault blocks r ≡ 0 → later ≡ open_after blocks r.kind
      → ScanInvariant bytes count later (words + cond (emits_word blocks r.kind) 1 0) (k + 1)
  further r later h q z e = record {
    fault = g.fault ∙ ap (first_fault blocks k) here ∙ (rw (z, add-one k, e));
    given =
        rw e
        (counted (emits_word blocks r.kind) words
        (word_count (open_after blocks r.kind) (records_from (count - (k + 1)) (k + 1) bytes)) _
        (ap (λ (l : List Record). words + word_count blocks l) (sym here) ∙ g.given));
    few = omega (arith, g.few, at_most_one (emits_word blocks r.kind));
  }
    where
      here : records_from (count - k) k bytes ≡ r ∷ records_from (count - (k + 1)) (k + 1) bytes
      here = rw (from_here bytes count k h, q)

  pub scan_unended : k ≡ count → count ≡ record_count bytes → (innermost blocks ≡ 0 → ⊥)
      → refusal_at 7 count ≡ records_scan bytes
  scan_unended h e z =
      let f = rw (after_last_lem bytes count k (omega arith)) at g.fault in
      rw h at (scan_faulted bytes count 7 k e (f ∙ (rw (ne_eqb (innermost blocks) 0 z))) (λ q. omega arith))

  pub scan_done : count ≤ k → count ≡ record_count bytes → innermost blocks ≡ 0
      → ◌≡◌ {A = ScanResult} (record { number = 0; place = 0; words = words }) (records_scan bytes)
  unfolding records_scan records_of
  scan_done h e z =
      let f = rw (after_last_lem bytes count k h) at g.fault in
      let n = rw (after_last_lem bytes count k h) at g.given in
      let w : words ≡ word_count [] (records_from count 0 bytes) = omega arith in
      rw (w, ← e, f, z)

-- if a list of records has no fault, the place is 0 too
pub clean : (rs : List Record) (blocks : List ℕ) (place : ℕ) → (first_fault blocks place rs).number ≡ 0
    → first_fault blocks place rs ≡ refusal 0 0
clean [] blocks place h = pick (eqb (innermost blocks) 0) h
  where
    pick : (b : Bool) → (cond b (refusal 0 0) (refusal 7 place)).number ≡ 0 → cond b (refusal 0 0) (refusal 7 place) ≡ refusal 0 0
    pick true e = refl
    pick false e = absurd (omega arith)
clean (r ∷ rs) blocks place h =
    pick (eqb (record_fault blocks r) 0) refl (first_fault (open_after blocks r.kind) (suc place) rs)
    (clean rs (open_after blocks r.kind) (suc place)) h
  where
    pick : (b : Bool) → eqb (record_fault blocks r) 0 ≡ b → (f : Refusal) → (f.number ≡ 0 → f ≡ refusal 0 0)
        → (cond b f (refusal (record_fault blocks r) place)).number ≡ 0 → cond b f (refusal (record_fault blocks r) place) ≡ refusal 0 0
    pick true t f k e = k e
    pick false t f k e = absurd (eqb-false (record_fault blocks r) 0 t e)

-- ---- refusals 1 and 8, which come before and after those of the records
pub scan_length : (bytes : List ℕ) → bad_length bytes ≡ true
    → refusal_at 1 0 ≡ script_scan bytes
unfolding script_scan script_refusal
scan_length bytes h = rw h

module _ (bytes : List ℕ) (s : ScanResult) (e : s ≡ records_scan bytes) (h : bad_length bytes ≡ false) where
  number_is : s.number ≡ (first_fault [] 0 (records_of bytes)).number
  unfolding records_scan
  number_is = ap (λ (x : ScanResult). x.number) e

  pub words_are : s.number ≡ 0 → s.words ≡ words_in bytes
  unfolding records_scan
  words_are z = ap (λ (x : ScanResult). x.words) e ∙ (rw (sym number_is ∙ z))

  pub scan_refused : (s.number ≡ 0 → ⊥) → s ≡ script_scan bytes
  unfolding records_scan script_scan script_refusal
  scan_refused z =
      let n : eqb (first_fault [] 0 (records_of bytes)).number 0 ≡ false = rw number_is at (ne_eqb s.number 0 z) in
      e ∙ (rw (h, n, n))

  pub scan_long : s.number ≡ 0 → 1024 < s.words
      → refusal_at 8 (record_count bytes) ≡ script_scan bytes
  unfolding script_scan script_refusal
  scan_long z l =
      let w : too_many_words bytes ≡ true = rw (words_are z) at (lt-ltb 1024 s.words l) in
      rw (h, sym number_is ∙ z, w)

  pub scan_whole : s.number ≡ 0 → s.words ≤ 1024 → s ≡ script_scan bytes
  unfolding records_scan script_scan script_refusal
  scan_whole z l =
      let w : too_many_words bytes ≡ false = rw (words_are z) at (le-ltb 1024 s.words l) in
      let f = clean (records_of bytes) [] 0 (sym number_is ∙ z) in
      e ∙ (rw (h, f, w))
