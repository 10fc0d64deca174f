-- `find_line` goes from line to line. At each turn the line that it looks for is one of those that are left.
use mathlib.Core.Logic.{inl, inr}
use native.Mathlib.Omega.{arith}
use Rattle.statement.proofs.Runs.{run_inside}
use Rattle.assembler.specs.Assemble.{not_line_feed}
use Rattle.assembler.proofs.FindLine.{seek_end, seek_on, seek_start}
use Rattle.assembler.proofs.find_line.Goals as goal
use Rattle.assembler.proofs.find_line.Goals.{else-loop-k-test, then-loop-k-test+then-text-at}

pub loop-k-init : goal.loop-k-init
loop-k-init c = seek_start c.args.text.now c.args.place

pub line_end-requires : goal.line_end-requires
line_end-requires c = c.loop-k.invariant.inside

pub next_line-at-requires : goal.next_line-at-requires
next_line-at-requires c =
    let text = c.args.text.now in
    let l = c.loop-k in
    let i = run_inside not_line_feed text l.at l.invariant.inside in
    omega (arith, i, c.line_end.ensures)

pub loop-k-preserved : goal.loop-k-preserved
loop-k-preserved c =
    let a = c.args in
    let l = c.loop-k in
    let end = c.line_end in
    let next = c.next_line-at in
    seek_on a.text.now a.place l.at l._k l.invariant end.result next.result (omega arith)
    (omega (arith, c.if-text-at.false))
    end.ensures
    next.ensures.0
    next.ensures.1

pub line_end-to-requires : goal.line_end-to-requires
line_end-to-requires c = c.loop-k.invariant.inside

pub returns : goal.returns
returns c =
    let a = c.args in
    let l = c.loop-k in
    let to = c.line_end-to in
    seek_end a.text.now a.place l.at l._k l.invariant to.result
    (elim c.loop-k-test.branch [ else-loop-k-test w ↦ inl (omega arith) | then-loop-k-test+then-text-at w ↦ inr (omega arith) ])
    to.ensures
