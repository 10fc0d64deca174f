-- `run_words` ends as `image_run` does. The loop invariant (LoopInvariant.antt): the run from the current state, with the rest
-- of the budget, ends as the whole run does. Each word that neither faults nor halts keeps it, by the contract of the
-- function that executes it.
use Rattle.std.proofs.Common.{◌≡◌, ◌<◌, ap, refl, sym, ◌∙◌, arith, rules, drop, length}
use Rattle.device.specs.Event.{apply_event}
use Rattle.device.specs.Dispatch.{device_access}
use Rattle.record.specs.Record.{most_records}
use Rattle.record.specs.WordKinds.{word_kind_number}
use Rattle.device.specs.declared.AccessResult as code
use Rattle.step.proofs.EachKind.{after_delay_by, answered}
use Rattle.step.proofs.Events.{next_none, next_there}
use Rattle.step.proofs.CounterArray.{counters_array}
use Rattle.step.proofs.Faults.{control_ready, delay_ready, access_word, control_word, log_ready}
use Rattle.step.specs.Represents.{run_state}
use Rattle.semantics.specs.World.{after_next_event}
use Rattle.sequencer.proofs.LoopInvariant.{faulted, further, halted, fetched, place_beyond, spent, starts}
use Rattle.sequencer.proofs.run_words.Goals as goal
use Rattle.sequencer.proofs.run_words.Goals.{in-Enter, in-Delay, in-Write, then-taken-events, else-taken-events}

-- ---- before the loop
pub loop-steps-init : goal.loop-steps-init
loop-steps-init c =
    let l : length c.args.sequencer.counters ≡ 8 = search rules in
    starts _ _ c.args.sequencer _ _ _ _ _ c.start-position.ensures (counters_array c.args.sequencer l c.requires.1)

-- ---- the place is beyond the last word
pub returns-then-words-position : goal.returns-then-words-position
returns-then-words-position c =
    place_beyond _ c.loop-steps.invariant c.loop-steps-test.true c.if-words-position.true c.run_result.ensures

-- ---- the word faults
pub returns-in-Err : goal.returns-in-Err
returns-in-Err c =
    let k = fetched c.if-words-position.false c.read-word.ensures c.in-Err.ensures.0 in
    faulted _ c.loop-steps.invariant c.loop-steps-test.true k c.in-Err.ensures.1 c.run_result-in-Err.ensures

-- ---- it halts
pub returns-in-Halt : goal.returns-in-Halt
returns-in-Halt c =
    let k = fetched c.if-words-position.false c.read-word.ensures c.in-Ok.ensures.0 in
    let h = sym c.in-Ok.ensures.1 ∙ ap word_kind_number c.in-Halt.is in
    halted _ c.loop-steps.invariant c.loop-steps-test.true k h c.run_result-in-Halt.ensures

-- ---- it is a control word
pub execute_control-next-requires : goal.execute_control-next-requires
execute_control-next-requires c =
    let g = c.loop-steps.invariant.holds in
    let small : c.loop-steps.position.place < most_records = omega (arith, c.if-words-position.false, c.requires.0) in
    let control = (control_word c.in-Enter.is).0 in
    control_ready _ _ c.loop-steps.position c.in-Ok.kind c.read-word.result c.in-Ok.ensures.1 c.in-Ok.ensures.0 small (omega (arith, g.used, g.few)) control

-- ---- it is a delay
pub tick_event-requires : goal.tick_event-requires
tick_event-requires c =
    delay_ready _ _ c.loop-steps.position c.read-word.result c.in-Ok.ensures.0 (sym c.in-Ok.ensures.1 ∙ ap word_kind_number c.in-Delay.is)

-- ---- it accesses the device, after the next event
pub apply_answer-position-requires : goal.apply_answer-position-requires
apply_answer-position-requires c = record {
  near = omega (arith, c.if-words-position.false, c.requires.0);
  inside = c.loop-steps.invariant.holds.inside;
  reads = log_ready _ c.loop-steps.position c.in-Ok.kind c.read-word.result c.loop-steps.log c.in-Ok.ensures.1 c.in-Ok.ensures.0;
}

-- ---- each word that neither faults nor halts keeps the invariant
pub loop-steps-preserved : goal.loop-steps-preserved
loop-steps-preserved c =
    let g = c.loop-steps.invariant in
    let word = c.read-word.result in
    let k = fetched c.if-words-position.false c.read-word.ensures c.in-Ok.ensures.0 in
    let kind = c.in-Ok.ensures.1 in
    elim c.match-kind.branch [
      | in-Enter w ↦
          let n = (control_word w.in-Enter.is).1 in
          rw (w.log-is, w.last-is, w.position-is, w.counters-is)
          (further _ _ g c.loop-steps-test.true k (λ h. n (kind ∙ h)) (w.execute_control-next.ensures _ _ _) refl)
      | in-Delay w ↦
          let d = sym kind ∙ ap word_kind_number w.in-Delay.is in
          let ticked = w.apply_event-last.ensures ∙ ap (apply_event _) w.tick_event.ensures in
          let state = run_state c.loop-steps.last.device c.loop-steps.position c.loop-steps.counters in
          rw (w.log-is, w.last-is, w.position-is, w.counters-is)
          (further _ _ g c.loop-steps-test.true k (λ h. omega (arith, d, h)) (after_delay_by word state _ d ticked _ _) refl)
      | in-Write w ↦
          let a = access_word w.in-Write.is in
          let arrived : w.if-taken-events.last.device
          ≡ after_next_event c.loop-steps.last.device (drop c.loop-steps.position.taken c.args.events.now) =
          elim w.if-taken-events.branch [
            | then-taken-events v ↦
                ap (λ (r : code.AccessResult). r.device) v.last-is ∙ v.apply_event-last-then-taken-events.ensures
                ∙ sym (next_there _ _ _ v.if-taken-events.true)
            | else-taken-events v ↦ ap (λ (r : code.AccessResult). r.device) v.last-is ∙ sym (next_none _ _ _ v.if-taken-events.false)
          ] in
          let done = w.access-last.ensures ∙ ap (device_access _) w.access_of.ensures in
          let ready = log_ready _ c.loop-steps.position c.in-Ok.kind word c.loop-steps.log kind c.in-Ok.ensures.0 in
          rw (w.log-is, w.last-is, w.position-is, w.counters-is)
          (further _ _ g c.loop-steps-test.true k (λ h. a.1 (kind ∙ h))
          (answered c.in-Ok.kind word _ _ _ _ _ _ _ kind a.0 ready w.apply_answer-position.ensures _ _ _ _ arrived done (sym w.number-in-Write.ensures) refl) w.apply_answer-position.auto.log)
    ]

-- ---- the budget is spent
pub returns : goal.returns
returns c = spent _ c.loop-steps.invariant c.loop-steps-test.false c.run_result-2.ensures
