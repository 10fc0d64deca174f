-- `walk_script` walks through the script as `script_walk` does. Each record keeps the loop invariant `Walking`. Each turn counts a step, except at the
-- end of an if, which moves on to a later place.
use Rattle.std.proofs.Common.{◌≡◌, ap, refl, sym, ◌∙◌, arith, add-zero, drop}
use Rattle.device.specs.Event.{apply_event}
use Rattle.device.specs.Dispatch.{device_access}
use Rattle.device.specs.declared.AccessResult as code
use Rattle.script.specs.Kinds.{kind_number}
use Rattle.semantics.specs.World.{after_next_event}
use Rattle.step.proofs.Events.{next_none, next_there}
use Rattle.interpreter.proofs.Answers.{accesses, answer_effect, read_kind}
use Rattle.interpreter.proofs.Ready.{script_ready}
use Rattle.interpreter.proofs.Walking.{
  accessed,
  counter_used,
  delay_ready,
  delayed,
  else_passed,
  few_used,
  free_counter,
  full,
  halted,
  if_ended,
  known,
  read_room,
  repeated,
  spent,
  starts,
  turn_ended,
}
use Rattle.interpreter.proofs.walk.walk_script.Goals as goal
use Rattle.interpreter.proofs.walk.walk_script.Goals.{
  else-taken-events,
  in-Delay,
  in-Else,
  in-End-2,
  in-Repeat,
  in-Write,
  then-taken-events,
}

-- ---- before the loop, and at the end of the script
pub loop-steps-init : goal.loop-steps-init
loop-steps-init c = starts _ _ _ _ _ _ _ c.requires.0 c.requires.1 refl

pub returns-then-count-place : goal.returns-then-count-place
returns-then-count-place c = halted c.loop-steps.invariant _ c.loop-steps-test.true c.if-count-place.true c.walk_result.ensures

-- ---- the record, its entry in the table, and its kind
pub bounds-partners-place : goal.bounds-partners-place
bounds-partners-place c = let few = (script_ready c.args.script.now c.requires.0).few in omega (arith, c.if-count-place.false, few)

pub kind_of-kind-requires : goal.kind_of-kind-requires
kind_of-kind-requires c =
    let few = (script_ready c.args.script.now c.requires.0).few in
    known c.loop-steps.invariant c.read-r.result _ c.if-count-place.false few c.read-r.ensures refl

-- ---- the log is full
pub returns-then-log_full : goal.returns-then-log_full
returns-then-log_full c =
    let few = (script_ready c.args.script.now c.requires.0).few in
    let f = rw c.kind_of-kind.ensures at (sym c.log_full.ensures ∙ c.if-log_full.true) in
    full c.loop-steps.invariant c.read-r.result _ c.if-count-place.false few c.read-r.ensures refl _ c.loop-steps-test.true f
    c.walk_result-then-log_full.ensures

-- ---- it accesses the device, after the next event
pub apply_answer-position-requires : goal.apply_answer-position-requires
apply_answer-position-requires c =
    let few = (script_ready c.args.script.now c.requires.0).few in
    let f = sym c.log_full.ensures ∙ c.if-log_full.false in
    record {
      near = omega (arith, c.if-count-place.false, few);
      inside = c.loop-steps.invariant.holds.inside;
      reads = λ k. read_room _ _ _ (read_kind c.kind_of-kind.result c.word_kind.result c.word_kind.ensures k) f;
    }

-- ---- it is a delay
pub tick_event-requires : goal.tick_event-requires
tick_event-requires c =
    let few = (script_ready c.args.script.now c.requires.0).few in
    delay_ready c.loop-steps.invariant c.read-r.result _ c.if-count-place.false few c.read-r.ensures refl (sym c.kind_of-kind.ensures ∙ ap kind_number c.in-Delay.is)

pub overflow_add-position : goal.overflow_add-position
overflow_add-position c = let few = (script_ready c.args.script.now c.requires.0).few in omega (arith, c.if-count-place.false, few)

-- ---- it is a repeat
pub enter-next-requires : goal.enter-next-requires
enter-next-requires c =
    let few = (script_ready c.args.script.now c.requires.0).few in
    let free = free_counter c.loop-steps.invariant c.read-r.result _ c.if-count-place.false few c.read-r.ensures refl (sym c.kind_of-kind.ensures ∙ ap kind_number c.in-Repeat.is) in
    (omega (arith, c.if-count-place.false, few), λ l. absurd (omega (arith, free, l)))

-- ---- it is the end of an if
pub overflow_add-position-in-End : goal.overflow_add-position-in-End
overflow_add-position-in-End c = let few = (script_ready c.args.script.now c.requires.0).few in omega (arith, c.if-count-place.false, few)

pub loop-steps-smaller-in-End : goal.loop-steps-smaller-in-End
loop-steps-smaller-in-End c =
    let few = (script_ready c.args.script.now c.requires.0).few in
    omega (arith, c.loop-steps-test.true, c.if-count-place.false, few)

pub loop-steps-preserved-in-End : goal.loop-steps-preserved-in-End
loop-steps-preserved-in-End c =
    let few = (script_ready c.args.script.now c.requires.0).few in
    rw add-zero at
    (if_ended c.loop-steps.invariant c.read-r.result _ c.if-count-place.false few c.read-r.ensures refl c.loop-steps-test.true (sym c.kind_of-kind.ensures ∙ ap kind_number c.in-End.is) c.if-partner-eq0.true)

-- ---- it is the end of a repeat
pub loop_end-next-requires : goal.loop_end-next-requires
loop_end-next-requires c =
    let few = (script_ready c.args.script.now c.requires.0).few in
    let g = c.loop-steps.invariant in (
      omega (arith, c.if-count-place.false, few),
      counter_used g c.read-r.result _ c.if-count-place.false few c.read-r.ensures refl (sym c.kind_of-kind.ensures ∙ ap kind_number c.in-End.is) c.if-partner-eq0.false,
      few_used g c.read-r.result _ c.if-count-place.false few c.read-r.ensures refl,
    )

-- ---- each record that counts a step keeps the invariant
pub loop-steps-preserved : goal.loop-steps-preserved
loop-steps-preserved c =
    let g = c.loop-steps.invariant in
    let few = (script_ready c.args.script.now c.requires.0).few in
    let q = c.read-r.result in
    let l = c.loop-steps-test.true in
    let m = c.if-count-place.false in
    let k = c.kind_of-kind.ensures in
    elim c.match-kind.branch [
      | in-Write w ↦
          let arrived : w.if-taken-events.last.device
          ≡ after_next_event c.loop-steps.last.device (drop c.loop-steps.position.taken c.args.events.now) =
          elim w.if-taken-events.branch [
            | then-taken-events v ↦
                ap (λ (r : code.AccessResult). r.device) v.last-is ∙ v.apply_event-last.ensures ∙ sym (next_there _ _ _ v.if-taken-events.true)
            | else-taken-events v ↦ ap (λ (r : code.AccessResult). r.device) v.last-is ∙ sym (next_none _ _ _ v.if-taken-events.false)
          ] in
          let done = w.access-last.ensures ∙ ap (device_access _) w.access_of.ensures in
          let full = rw k at (sym c.log_full.ensures ∙ c.if-log_full.false) in
          rw (w.log-is, w.last-is, w.position-is, w.counters-is)
          (accessed g q _ m few c.read-r.ensures refl l _ _ _ _ arrived done
          (answer_effect c.kind_of-kind.result w.word_kind.result k w.word_kind.ensures w.in-Write.is
          (rw w.number-in-Write.ensures at w.apply_answer-position.ensures))
          w.apply_answer-position.auto.log (accesses c.kind_of-kind.result k w.in-Write.is) full)
      | in-Delay w ↦
          rw (w.log-is, w.last-is, w.position-is, w.counters-is)
          (delayed g q _ m few c.read-r.ensures refl l (sym k ∙ ap kind_number w.in-Delay.is) _
          (w.apply_event-last-in-Delay.ensures ∙ ap (apply_event _) w.tick_event.ensures))
      | in-Repeat w ↦
          let e = w.enter-next.ensures in
          rw (w.log-is, w.last-is, w.position-is, w.counters-is, e.0, e.1)
          (repeated g q _ m few c.read-r.ensures refl l (sym k ∙ ap kind_number w.in-Repeat.is))
      | in-Else w ↦
          rw (w.log-is, w.last-is, w.position-is, w.counters-is)
          (else_passed g q _ m few c.read-r.ensures refl l (sym k ∙ ap kind_number w.in-Else.is))
      | in-End-2 w ↦
          let e = w.loop_end-next.ensures in
          rw (w.log-is, w.last-is, w.position-is, w.counters-is, e.0, e.1)
          (turn_ended g q _ m few c.read-r.ensures refl l (sym k ∙ ap kind_number w.in-End.is) w.if-partner-eq0.false)
    ]

-- ---- the budget is spent
pub returns : goal.returns
returns c = spent c.loop-steps.invariant _ c.loop-steps-test.false c.walk_result-2.ensures
