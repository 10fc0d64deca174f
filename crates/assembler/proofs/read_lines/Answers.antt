-- `read_lines` reads line after line and keeps `Reading`. It stops at a bad line or at the end of the text.
use Prim.Native.Nat.{◌+◌}
use mathlib.Core.Path.{◌≡◌, ap, refl, sym, ◌∙◌}
use Rattle.std.proofs.Common.{rules}
use Rattle.std.specs.Prelude.{None, Ok, Option, Some}
use Rattle.std.proofs.lemmas.Result.{err_from_is_err_and}
use Rattle.outcome.proofs.MapErr.{mapped_err, mapped_ok}
use Rattle.outcome.proofs.Numbers.{refusal_number_above}
use Rattle.record.specs.declared.Record.{Record}
use Rattle.statement.specs.Found.{line_read}
use native.Mathlib.Omega.{arith}
use Rattle.statement.proofs.Runs.{run_inside}
use Rattle.statement.specs.Line.{LineResult, line_result, not_semicolon, run}
use Rattle.assembler.specs.Assemble.{before_comment, put_statements}
use Rattle.assembler.proofs.Lines.{line_in, next_after}
use Rattle.assembler.proofs.Writing.{Reading, ends, goes_on, starts, stops}
use Rattle.assembler.proofs.read_lines.Goals as goal
use Rattle.assembler.proofs.read_lines.Goals.{in-Some, in_default}

-- a line that is read has no fault
no_fault : (found : Option Record) → (line_read (Ok found)).fault ≡ 0
no_fault None = refl
no_fault (Some r) = refl

pub loop-at-init : goal.loop-at-init
loop-at-init c = starts _ _

pub line_end-end-requires : goal.line_end-end-requires
line_end-end-requires c =
    let text = c.args.text.now in
    let l = c.loop-at in
    let i = run_inside before_comment text l.at l.invariant.inside in
    omega (arith, i, c.comment_start-comment.ensures)

pub slice_bounds-read-end : goal.slice_bounds-read-end
slice_bounds-read-end c =
    let text = c.args.text.now in
    let l = c.loop-at in
    let comment = c.comment_start-comment in
    let end = c.line_end-end in
    let i = line_in text l.at comment.result end.result l.invariant.inside comment.ensures end.ensures in
    i.inside

pub read-requires : goal.read-requires
read-requires c =
    let text = c.args.text.now in
    let l = c.loop-at in
    let comment = c.comment_start-comment in
    let end = c.line_end-end in
    let i = line_in text l.at comment.result end.result l.invariant.inside comment.ensures end.ensures in
    i.commented ∙ ap (run not_semicolon) (sym i.line)

pub returns-in_err-found : goal.returns-in_err-found
returns-in_err-found c =
    let text = c.args.text.now in
    let l = c.loop-at in
    let comment = c.comment_start-comment in
    let end = c.line_end-end in
    let i = line_in text l.at comment.result end.result l.invariant.inside comment.ensures end.ensures in
    let p = err_from_is_err_and c.from_residual.result c.from_residual.ensures.1 in
    let m = mapped_err c.read.result _ c.in_err-found.field-0.0 _ c.map_err.ensures.cases c.in_err-found.was in
    let made : c.in_err-found.field-0.0 ≡ record { kind = m.0; line = l.line } = search rules in
    let fault = rw m.1 at c.read.ensures in
    rw (p.1, p.2, made)
    (stops text _ l.records l.at l.line l.written l.invariant c.loop-at-test.true _ (fault ∙ ap line_result i.line) (refusal_number_above m.0))

pub loop-at-smaller : goal.loop-at-smaller
loop-at-smaller c =
    let text = c.args.text.now in
    let l = c.loop-at in
    let comment = c.comment_start-comment in
    let end = c.line_end-end in
    let i = line_in text l.at comment.result end.result l.invariant.inside comment.ensures end.ensures in
    let n = c.next_line-at in
    let further = next_after text l.at end.result n.result (omega (arith, i.starts, i.ordered)) c.loop-at-test.true n.ensures.0 n.ensures.1 in
    omega (arith, further, n.ensures.0)

pub loop-at-preserved : goal.loop-at-preserved
loop-at-preserved c =
    let text = c.args.text.now in
    let l = c.loop-at in
    let comment = c.comment_start-comment in
    let end = c.line_end-end in
    let i = line_in text l.at comment.result end.result l.invariant.inside comment.ensures end.ensures in
    let n = c.next_line-at in
    let further = next_after text l.at end.result n.result (omega (arith, i.starts, i.ordered)) c.loop-at-test.true n.ensures.0 n.ensures.1 in
    let o = mapped_ok c.read.result _ c.in_ok-found.found _ c.map_err.ensures.cases c.in_ok-found.was in
    let answer = rw o at c.read.ensures in
    let reads : Option Record → LineResult = λ found. line_read (Ok found) in
    let next : (found : Option Record) → c.in_ok-found.found ≡ found
    → Reading text c.args.records.now (put_statements (reads found).statements l.written (reads found).found l.records) n.result (l.line + 1) (l.written + (reads found).statements) =
    λ found is.
    goes_on text _ l.records l.at l.line l.written l.invariant c.loop-at-test.true (reads found)
    (sym (ap reads is) ∙ answer ∙ ap line_result i.line) (no_fault found) n.result n.ensures.0 further (n.ensures.1 ∙ i.rest) in
    elim c.match-found.branch [
      | in-Some w ↦ rw (w.records-is, w.put.ensures, w.written-is) (next (Some w.in-Some.r) w.in-Some.is)
      | in_default w ↦
          let z : l.written + 0 ≡ l.written = omega arith in
          rw (w.records-is, w.written-is) (rw z at (next None w.in_default.is))
    ]

pub returns : goal.returns
returns c =
    let l = c.loop-at in
    ends c.args.text.now _ l.records l.at l.line l.written l.invariant c.loop-at-test.false
