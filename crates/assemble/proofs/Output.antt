-- The first 12 bytes for each record in the buffer are the output: the records are written to its front, and there are none after a refusal.
use Prim.Native.Nat.{ℕ, ◌*◌, ◌≤◌}
use mathlib.Core.Path.{◌≡◌, ap, refl, sym}
use mathlib.Core.Bool.{Bool, true, false}
use mathlib.Core.List.{List}
use native.Mathlib.Omega.{arith}
use borrow.Author.Tests.{eqb-true}
use lib.Dec.{eqb}
use lib.ListN.{drop, length, take}
use lib.Seq.{length-take-le, take_at}
use Rattle.assembler.proofs.TextCorrect.{text_correct}
use Rattle.assembler.specs.Assemble.{AssembleResult, assemble_result, record_bytes, records_after, text_records, text_refusal, with_records}
use Rattle.compiler.proofs.Image.{image_length}
use Rattle.record.specs.Record.{record_size}
use Rattle.refusal_text.specs.Refused.{Put}
use Rattle.assemble.specs.Output.{Answered, output}

module _ (text buffer : List ℕ) where
  -- the buffer has room for the records of an accepted text; a refused one has none
  pub fits : record_size * (assemble_result text buffer).records ≤ length buffer
  unfolding assemble_result
  fits = pick (eqb (text_refusal text buffer).number 0) refl
    where
      pick : (b : Bool) → eqb (text_refusal text buffer).number 0 ≡ b → record_size * (assemble_result text buffer).records ≤ length buffer
      pick true e =
          let a = text_correct.accepted text buffer (eqb-true (text_refusal text buffer).number 0 e) in
          let n = ap (λ (r : AssembleResult). r.records) a.written.answer in
          omega (arith, a.no_refusal.room, n)
      pick false e = rw e (omega arith)

  front : take (record_size * (assemble_result text buffer).records) (records_after text buffer) ≡ output text buffer
  unfolding assemble_result records_after with_records output
  front = pick (eqb (text_refusal text buffer).number 0) refl
    where
      pick : (b : Bool) → eqb (text_refusal text buffer).number 0 ≡ b
          → take (record_size * (assemble_result text buffer).records) (records_after text buffer) ≡ output text buffer
      pick true e =
          let rs = text_records text in
          rw e (take_at (record_bytes rs) (drop (record_size * length rs) buffer) (record_size * length rs) (image_length rs))
      pick false e = rw e

  -- the first n bytes of the buffer after the call
  put : (after : List ℕ) (n : ℕ) → after ≡ records_after text buffer → length after ≡ length buffer
      → n ≡ record_size * (assemble_result text buffer).records → Put (output text buffer) after n
  put after n e l k =
      let inside : n ≤ length after = omega (arith, k, l, fits) in
      record { inside = inside; counted = sym (length-take-le n after inside); bytes = rw (k, e) front }

  pub answered : (after : List ℕ) (r : AssembleResult) → after ≡ records_after text buffer → length after ≡ length buffer
      → r ≡ assemble_result text buffer
      → Answered text buffer after (record { refusal = r.refusal; place = r.place; length = record_size * r.records })
  unfolding assemble_result
  answered after r e l a =
      record {
        number = ap (λ (x : AssembleResult). x.refusal) a;
        place = ap (λ (x : AssembleResult). x.place) a;
        written = put after _ e l (ap (λ (x : AssembleResult). record_size * x.records) a);
      }
