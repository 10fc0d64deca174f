-- `assemble` refuses a text with a bad line and a buffer that is too short. Otherwise it copies the kept records, or reads the lines again into the buffer.
use Prim.Native.Nat.{ℕ, ◌/◌, ◌≤◌}
use mathlib.Core.Path.{◌≡◌, ap, refl, sym, ◌∙◌}
use lib.ListN.{length, length-replicate, replicate}
use Rattle.record.specs.Record.{record_size}
use native.Mathlib.Omega.{arith}
use Rattle.std.proofs.lemmas.Result.{err_from_is_err_and}
use Rattle.std.specs.Prelude.{Err}
use Rattle.outcome.proofs.Numbers.{refusal_number_above}
use Rattle.assembler.specs.Assemble.{AssembleResult, text_records}
use Rattle.assembler.specs.Assembled.{assembled}
use Rattle.assembler.proofs.Assembling.{all_good, counted, has_room, kept_records, lacks_room, refuses, writes}
use Rattle.assembler.proofs.assemble.Goals as goal

pub returns-in_err-count : goal.returns-in_err-count
returns-in_err-count c =
    let p = err_from_is_err_and c.from_residual.result c.from_residual.ensures.1 in
    let r = c.in_err-count.field-0.0 in
    rw (p.1, p.2)
    (refuses c.args.text.now c.args.records.now (assembled (Err r)) c.in_err-count.ensures.answered (refusal_number_above r.kind))

pub returns-then-records-count : goal.returns-then-records-count
returns-then-records-count c =
    let a = c.args in
    lacks_room a.text.now a.records.now _ c.in_ok-count.ensures.answered refl c.if-records-count.true

pub returns-then-count-le-MOST_KEPT : goal.returns-then-count-le-MOST_KEPT
returns-then-count-le-MOST_KEPT c =
    let a = c.args in
    let r = c.in_ok-count.ensures in
    let room = c.if-records-count.false in
    let few = c.if-count-le-MOST_KEPT.true in
    let size : length {A = ℕ} (replicate 12288 0) ≡ 12288 = length-replicate {A = ℕ} 12288 0 in
    let kept = r.written (all_good a.text.now a.records.now _ r.answered refl)
    (has_room a.text.now a.records.now _ r.answered refl (replicate 12288 0) (omega (arith, few, size))) in
    writes a.text.now a.records.now _ r.answered refl room _
    (kept_records (text_records a.text.now) _ a.records.now _ c.in_ok-count.count
    (counted a.text.now a.records.now _ r.answered refl)
    (rw kept at c.copy.ensures))

pub returns : goal.returns
returns c =
    let a = c.args in
    let r = c.in_ok-count.ensures in
    let s = c.read_lines-2 in
    let same = s.ensures.answered ∙ sym r.answered in
    let good : (assembled s.result).refusal ≡ 0 = ap (λ (x : AssembleResult). x.refusal) same in
    let room : (assembled s.result).records ≤ length a.records.now / record_size = rw same c.if-records-count.false in
    writes a.text.now a.records.now (assembled s.result) s.ensures.answered good room _
    (s.ensures.written (all_good a.text.now a.records.now (assembled s.result) s.ensures.answered good)
    (has_room a.text.now a.records.now (assembled s.result) s.ensures.answered good a.records.now room))
