-- A text is accepted exactly if it is in the grammar and has none of the refusals 30, 32 and 33, and then its records are written. No line is
-- bad exactly if the text is in the grammar and has none of 30 and 32, and 33 compares the number of records with the room in the buffer.
use Prim.Native.Nat.{ℕ, ◌*◌, ◌/◌, ◌≤◌}
use mathlib.Core.Path.{◌≡◌, refl}
use mathlib.Core.Bool.{Bool, true, false, cond}
use mathlib.Core.List.{List}
use borrow.Author.Tests.{eqb-false, eqb-true, le-ltb, ltb-false, ne_eqb}
use lib.Dec.{eqb}
use lib.ListN.{length}
use native.Mathlib.Omega.{arith}
use Rattle.outcome.specs.Refusal.{refusal}
use Rattle.record.specs.declared.Record.{Record}
use Rattle.assembler.specs.Assemble.{assemble_result, bad_line, no_room, records_after, text_records, text_refusal}
use Rattle.assembler.specs.Grammar.{Text}
use Rattle.assembler.specs.TextCorrect.{Accepted, NoRefusal, TextCorrect, Written}
use Rattle.assembler.proofs.NoBadLine.{good_text, no_bad_line}
use Rattle.assembler.proofs.Refusing.{why_refused}
use Rattle.assembler.proofs.ScriptRecords.{are_script_lem}
use Rattle.assembler.proofs.TextLines.{divided, one_division_lem, one_reading_lem, text_of, text_read}

-- ---- 33: the buffer has room for the records, counted in records or in bytes
room : (text buffer : List ℕ) → 12 * length (text_records text) ≤ length buffer → no_room text buffer ≡ false
room text buffer h = le-ltb (length buffer / 12) (length (text_records text)) (omega arith)

has_room : (text buffer : List ℕ) → no_room text buffer ≡ false → 12 * length (text_records text) ≤ length buffer
has_room text buffer h = let l = ltb-false (length buffer / 12) (length (text_records text)) h in omega arith

-- ---- what is in the grammar and has none of the refusals is accepted
accepts : (text buffer : List ℕ) (rs : List Record) → Text text rs → NoRefusal text rs buffer → Written text rs buffer
unfolding assemble_result records_after text_refusal
accepts text buffer rs t n =
    let r = text_read t in
    let good = no_bad_line text n.short_lines r.0 (rw r.1 n.numbers_fit) in
    let space = room text buffer (rw r.1 n.room) in
    record { answer = rw (good, space, r.1); after = rw (good, space, r.1) }

-- ---- what is accepted is in the grammar and has none of the refusals
none_refused :
    (text buffer : List ℕ) → (assemble_result text buffer).refusal ≡ 0 → ((bad_line text).number ≡ 0) × (no_room text buffer ≡ false)
unfolding assemble_result text_refusal
none_refused text buffer h = pick (eqb (bad_line text).number 0) (no_room text buffer) refl h
  where
    pick : (p q : Bool) → eqb (bad_line text).number 0 ≡ p → (cond p (cond q (refusal 33 0) (refusal 0 0)) (bad_line text)).number ≡ 0
        → ((bad_line text).number ≡ 0) × (q ≡ false)
    pick true true e h = absurd (omega arith)
    pick true false e h = (eqb-true (bad_line text).number 0 e, refl)
    pick false q e h = absurd (eqb-false (bad_line text).number 0 e h)

accepted : (text buffer : List ℕ) → (assemble_result text buffer).refusal ≡ 0 → Accepted text buffer
unfolding text_records
accepted text buffer h =
    let n = none_refused text buffer h in
    let g = good_text text n.0 in
    let t = text_of text g.are_lines in
    let space = has_room text buffer n.1 in
    let r : NoRefusal text (text_records text) buffer = record { short_lines = g.short; numbers_fit = g.fit; room = space } in
    record { records = text_records text; in_grammar = t; no_refusal = r; written = accepts text buffer (text_records text) t r }

-- ---- a refused text leaves the buffer as it was
unchanged : (text buffer : List ℕ) → ((assemble_result text buffer).refusal ≡ 0 → ⊥) → records_after text buffer ≡ buffer
unfolding assemble_result records_after
unchanged text buffer n = rw (ne_eqb (text_refusal text buffer).number 0 n)

pub text_correct : TextCorrect
text_correct = record {
  divided = divided;
  one_division = λ text ls d. one_division_lem d;
  accepted = accepted;
  accepts = accepts;
  one_reading = λ text rs ss a b. one_reading_lem a b;
  are_script = λ text rs t f. are_script_lem t f;
  refused = λ text buffer n. (why_refused text buffer n, unchanged text buffer n);
}
