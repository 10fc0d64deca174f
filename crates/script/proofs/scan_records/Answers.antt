-- `scan_records` returns `records_scan`: the fault of the first record that has one, an open block after the last record, or the words.
use Rattle.std.proofs.Common.{rules, ◌≡◌, ◌<◌, ◌+◌, sym, arith, ◌∙◌, take}
use Rattle.std.proofs.lemmas.Grind.{common_steps}
use Rattle.std.specs.Prelude.{count_by}
use borrow.Author.Tests.{eqb-false, eqb-true}
use Rattle.outcome.proofs.Numbers.{refusal_number_above}
use Rattle.script.specs.Blocks.{open_numbers}
use Rattle.script.specs.Refusals.{innermost, repeats_in}
use Rattle.script.proofs.Blocks.{innermost_empty, is_repeat, repeats_all, repeats_within}
use Rattle.script.proofs.Scanning.{faulty, further, good, ninth_repeat, place_next, scan_done, scan_unended, shape_first}
use Rattle.script.proofs.scan_records.Goals as goal
use Rattle.script.proofs.scan_records.Goals.{then-eq+else-loop-block-test, else-eq}

pub returns-in-Err : goal.returns-in-Err
returns-in-Err c =
    let at_record = shape_first (open_numbers c.loop-place.blocks) _ _ c.in-Err.ensures.fault (refusal_number_above _) in
    faulty _ _ _ _ _ c.loop-place.invariant _ _ c.requires.whole c.loop-place-test.true c.read-r.ensures at_record (refusal_number_above _)

pub returns-in-Err-enter : goal.returns-in-Err-enter
returns-in-Err-enter c =
    let e = rw c.in-Ok.ensures.kind at c.in-Err-enter.ensures.fault in
    let at_place = place_next (open_numbers c.loop-place.blocks) _ _ (sym c.in-Ok.ensures.fault) e (refusal_number_above _) in
    faulty _ _ _ _ _ c.loop-place.invariant _ _ c.requires.whole c.loop-place-test.true c.read-r.ensures at_place (refusal_number_above _)

pub returns-then-repeats-eq-MOST_REPEATS : goal.returns-then-repeats-eq-MOST_REPEATS
returns-then-repeats-eq-MOST_REPEATS c =
    let four : c.read-r.result.kind ≡ 4 = search rules in
    let items = c.as_slice-block-items.result.now in
    let seen : c.loop-block.repeats + c.from-repeats.result ≡ count_by is_repeat (take (c.loop-block.block-index + 1) items) = grind (arith, common_steps) in
    let within = rw c.as_slice-block-items.ensures at (repeats_within items (c.loop-block.block-index + 1)) in
    let ninth = ninth_repeat (open_numbers c.loop-place.blocks) _ (sym c.in-Ok.ensures.fault) four (omega arith) in
    faulty _ _ _ _ _ c.loop-place.invariant _ _ c.requires.whole c.loop-place-test.true c.read-r.ensures ninth (λ q. omega arith)

pub loop-place-preserved : goal.loop-place-preserved
loop-place-preserved c =
    let few : c.read-r.result.kind ≡ 4 → repeats_in (open_numbers c.loop-place.blocks) < 8 =
    elim c.if-eq.branch [
      | then-eq+else-loop-block-test w ↦ λ four.
          let counted = rw w.as_slice-block-items.ensures at (repeats_all w.as_slice-block-items.result.now _ w.loop-block-test.false) in
          omega (arith, w.loop-block.invariant.0, w.loop-block.invariant.1)
      | else-eq w ↦ λ four. absurd (grind (arith, common_steps))
    ] in
    let e = rw c.in-Ok.ensures.kind at c.in-Ok-enter.ensures in
    let passed = good (open_numbers c.loop-place.blocks) c.read-r.result (sym c.in-Ok.ensures.fault) (sym e.fault) few in
    rw e.words (further _ _ _ _ _ c.loop-place.invariant _ _ c.loop-place-test.true c.read-r.ensures passed e.blocks)

pub returns-else-is_empty : goal.returns-else-is_empty
returns-else-is_empty c =
    let still_open = eqb-false (innermost (open_numbers c.loop-place.blocks)) 0 (sym (innermost_empty c.loop-place.blocks) ∙ sym c.is_empty.ensures ∙ c.if-is_empty.false) in
    scan_unended _ _ _ _ _ c.loop-place.invariant (omega arith) c.requires.whole still_open

pub returns-then-is_empty : goal.returns-then-is_empty
returns-then-is_empty c =
    let closed = eqb-true (innermost (open_numbers c.loop-place.blocks)) 0 (sym (innermost_empty c.loop-place.blocks) ∙ sym c.is_empty.ensures ∙ c.if-is_empty.true) in
    scan_done _ _ _ _ _ c.loop-place.invariant c.loop-place-test.false c.requires.whole closed
