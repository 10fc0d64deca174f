-- `fill_targets` finds the target of every record. Each kind of record keeps the loop invariant `Filling`.
use Rattle.std.proofs.Common.{arith, sym, ◌∙◌}
use Rattle.compiler.proofs.Filling.{begins, elsed, if_ended, passed, plain, repeat_ended, repeated, room, tested}
use Rattle.compiler.proofs.fill_targets.Goals as goal
use Rattle.compiler.proofs.fill_targets.Goals.{in-Write, in-Repeat, in-If, in-Else, in-End, then-is_some, else-is_some}

pub loop-k-init : goal.loop-k-init
loop-k-init c = rw c.new-open.ensures (begins _ _ c.requires.accepted c.requires.empty)

pub push-requires : goal.push-requires
push-requires c = (omega arith, room c.loop-k.invariant c.loop-k-test.true (rw (sym (c.in-Repeat.ensures ∙ c.kind_at.ensures))))

pub push-requires-in-If : goal.push-requires-in-If
push-requires-in-If c = (omega arith, room c.loop-k.invariant c.loop-k-test.true (rw (sym (c.in-If.ensures ∙ c.kind_at.ensures))))

pub loop-k-preserved : goal.loop-k-preserved
loop-k-preserved c =
    let g = c.loop-k.invariant in
    let t = c.loop-k-test.true in
    elim c.match-kind_of.branch [
      | in-Write w ↦
          let l = plain c.kind_of.result w.in-Write.is in
          rw (w.targets-is, w.open-is, w.place-is) (passed g t (omega (arith, l, c.kind_of.ensures, c.kind_at.ensures)))
      | in-Repeat w ↦
          rw (w.targets-is, w.open-is, w.place-is, w.push.ensures) (repeated g t (sym (w.in-Repeat.ensures ∙ c.kind_at.ensures)))
      | in-If w ↦
          rw (w.targets-is, w.open-is, w.place-is, w.push-in-If.ensures) (tested g t (sym (w.in-If.ensures ∙ c.kind_at.ensures)))
      | in-Else w ↦
          let popped = rw w.unwrap-test.ensures at w.pop.ensures.some in
          rw (w.targets-is, w.open-is, w.place-is, w.push-in-Else.ensures)
          (elsed (rw popped at g) t (sym (w.in-Else.ensures ∙ c.kind_at.ensures)))
      | in-End w ↦
          let popped = rw w.unwrap-opened.ensures at w.pop-in-End.ensures.some in
          let e = sym (w.in-End.ensures ∙ c.kind_at.ensures) in
          rw (w.targets-is, w.unwrap_or.ensures, w.open-is, w.place-is)
          (elim w.if-is_some.branch [
            | then-is_some v ↦ rw v.place-is (repeat_ended (rw popped at g) t e (sym v.if-is_some.ensures))
            | else-is_some v ↦ rw v.place-is (if_ended (rw popped at g) t e (sym v.if-is_some.ensures))
          ])
    ]
