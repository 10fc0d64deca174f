-- The answer of `assemble` from what `read_lines` found: a bad line, too little room, or records that were written.
use Prim.Native.Nat.{ℕ, suc, ◌*◌, ◌/◌, ◌≤◌, ◌<◌}
use mathlib.Core.Path.{◌≡◌, ap, refl, sym, ◌∙◌}
use mathlib.Core.Bool.{Bool, true, false, cond}
use mathlib.Core.List.{List, [], ◌∷◌, ◌++◌}
use borrow.Author.Tests.{eqb-false, le-ltb, lt-ltb, ne_eqb}
use lib.Dec.{eqb}
use lib.ListN.{drop, length, take}
use lib.Seq.{take_at}
use Rattle.compiler.proofs.Image.{image_length}
use Rattle.outcome.specs.Number as number
use Rattle.outcome.specs.Refusal.{Refusal, refusal}
use Rattle.record.specs.Record.{record_size}
use Rattle.record.specs.declared.Record.{Record}
use Rattle.statement.specs.Line.{line_fault}
use Rattle.assembler.specs.Assemble.{AssembleResult, answer, assemble_result, bad_line, check_result, first_bad_line, lines_of, no_room, record_bytes, records_after, text_records, text_refusal, with_records}

-- number 0 means that no line is bad, and the place is 0 too
none_bad : (place : ℕ) (ls : List (List ℕ)) → (first_bad_line place ls).number ≡ 0 → first_bad_line place ls ≡ refusal 0 0
none_bad place [] e = refl
none_bad place (l ∷ ls) e = pick (eqb (line_fault l) 0) refl (none_bad (suc place) ls) e
  where
    pick : (t : Bool) → eqb (line_fault l) 0 ≡ t → ((first_bad_line (suc place) ls).number ≡ 0 → first_bad_line (suc place) ls ≡ refusal 0 0)
        → (cond t (first_bad_line (suc place) ls) (refusal (line_fault l) place)).number ≡ 0
        → cond t (first_bad_line (suc place) ls) (refusal (line_fault l) place) ≡ refusal 0 0
    pick true q next f = next f
    pick false q next f = absurd (eqb-false (line_fault l) 0 q f)

module _ (text buffer : List ℕ) (r : AssembleResult) (e : r ≡ check_result text) where
  bad_number : r.refusal ≡ (bad_line text).number
  unfolding check_result
  bad_number = ap (λ (x : AssembleResult). x.refusal) e

  bad_refusal : eqb (bad_line text).number 0 ≡ false → text_refusal text buffer ≡ bad_line text
  unfolding text_refusal
  bad_refusal m = rw m

  -- a line is bad
  pub refuses : (r.refusal ≡ 0 → ⊥) → (r ≡ assemble_result text buffer) × (buffer ≡ records_after text buffer)
  unfolding check_result assemble_result records_after
  refuses n =
      let m = ne_eqb (bad_line text).number 0 (λ z. n (bad_number ∙ z)) in
      let t = bad_refusal m in
      (e ∙ sym (ap (λ (f : Refusal). answer f (length (text_records text))) t), rw (t, m))

  module _ (z : r.refusal ≡ 0) where
    good : bad_line text ≡ refusal 0 0
    unfolding bad_line
    good = none_bad 0 (lines_of text) (sym bad_number ∙ z)

    pub counted : r.records ≡ length (text_records text)
    unfolding check_result
    counted = ap (λ (x : AssembleResult). x.records) e ∙ rw good

    pub all_good : (bad_line text).number ≡ 0
    all_good = ap (λ (x : Refusal). x.number) good

    -- there is too little room
    pub lacks_room : length buffer / record_size < r.records
        → (record { refusal = number.records_too_short; place = 0; records = 0 } ≡ assemble_result text buffer) × (buffer ≡ records_after text buffer)
    unfolding assemble_result records_after text_refusal
    lacks_room h =
        let t = lt-ltb (length buffer / record_size) (length (text_records text)) (rw counted at h) in
        (rw (good, t), rw (good, t))

    pub has_room : (b : List ℕ) → r.records ≤ length b / record_size → no_room text b ≡ false
    has_room b h = le-ltb (length b / record_size) (length (text_records text)) (rw counted at h)

    -- the records were written
    pub writes : r.records ≤ length buffer / record_size → (after : List ℕ) → after ≡ with_records (text_records text) buffer
        → (r ≡ assemble_result text buffer) × (after ≡ records_after text buffer)
    unfolding check_result assemble_result records_after text_refusal
    writes h after w =
        let t = has_room buffer h in
        (e ∙ rw (good, t), rw (good, t) w)

-- kept records are copied
pub kept_records : (rs : List Record) (kept buffer after : List ℕ) (n : ℕ) → n ≡ length rs
    → after ≡ take (record_size * n) (with_records rs kept) ++ drop (record_size * n) buffer → after ≡ with_records rs buffer
unfolding with_records
kept_records rs kept buffer after n h e =
    let l = image_length rs in
    e ∙ rw (h, take_at (record_bytes rs) (drop (record_size * length rs) kept) (record_size * length rs) l)
