-- Resuming a run adds to it. The whole run is the first one and then b more steps from where that stopped (`run_in_two`). The second call makes
-- the same steps: it is not refused, it starts from the same place, counters, device and events, and its log has the room that was left
-- (`second_start`). Its entries and accesses follow those of the first run (`run_after`).
use Prim.Native.Nat.{ℕ, zero, suc, ◌+◌, ◌-◌, ◌≤◌}
use mathlib.Core.Path.{◌≡◌, refl, ap, sym, ◌∙◌}
use mathlib.Core.Bool.{Bool, true, false, cond}
use mathlib.Core.List.{List, [], ◌∷◌, ◌++◌, append_assoc}
use native.Mathlib.Decide.{ℕ_discrete}
use native.Mathlib.Omega.{arith}
use borrow.Author.Tests.{eq-eqb, le-ltb, ltb-false, ne_eqb}
use lib.Dec.{eqb, ltb}
use lib.ListN.{drop, length, length-append, length-drop, take}
use lib.Seq.{drop-drop}
use Rattle.device.specs.Device.{device_in_range}
use Rattle.device.specs.Event.{is_event}
use Rattle.device.specs.declared.Device.{Device}
use Rattle.mask.proofs.Branch.{branch}
use Rattle.outcome.specs.Refusal.{Refusal, refusal}
use Rattle.script.specs.Refusals.{innermost}
use Rattle.semantics.proofs.Events.{OneEach, after_delay_one, after_test_one, after_write_one, read_one}
use Rattle.semantics.specs.World.{World, start_world}
use Rattle.sequencer.proofs.Answers.{allowed}
use Rattle.sequencer.proofs.Range.{Keeps, never_logs_beyond, run_from_keeps, run_in_range, run_in_two, step_not_19}
use Rattle.sequencer.specs.Run.{
  RunEnd,
  bad_image,
  bad_state,
  events_refusal,
  first_bad_event,
  follow,
  image_run,
  log_after,
  run_answer,
  run_from,
  run_refusal,
  run_result,
}
use Rattle.step.proofs.CounterArray.{counters_back}
use Rattle.step.specs.Sequencer.{counters_of, sequencer_at, sequencer_in_range}
use Rattle.step.specs.Step.{Machine, Step, continues, execute, faults, halts, log_filled, machine, next_step}
use Rattle.step.specs.declared.Sequencer.{Sequencer}
use Rattle.correct.specs.ResumeCorrect.{AccessesAddUp, AddUp, ResumeCorrect, events_left, room_left}
use Rattle.correct.proofs.Fills.{events_left_lem, front, rest}
use Rattle.correct.proofs.EarlierEntries.{end_after, run_again}

-- ---- each access takes one event, as long as there are any
takes_one : (all : List ℕ) (room : ℕ) → Keeps room (λ m. OneEach all m.world)
unfolding execute
takes_one all room words r m c h =
    let P : Machine → Type 0 = λ n. OneEach all n.world in
    let w = m.world in
    branch P (eqb r.kind 1) (after_write_one all r.port r.width r.value w h)
    (branch P (eqb r.kind 2) (read_one all r.port r.width w h)
    (branch P (eqb r.kind 3) (after_delay_one all r.value w h)
    (branch P (eqb r.kind 4) (branch P (eqb r.value 0) h h)
    (branch P (eqb r.kind 5) (branch P (eqb (innermost m.counters - 1) 0) h h)
    (branch P (eqb r.kind 6) (after_test_one all r.port r.width w h) h)))))

run_takes_one :
    (image : List ℕ) (d : Device) (s : Sequencer) (events : List ℕ) (budget room : ℕ)
    → OneEach events (image_run image d s events budget room).machine.world
unfolding image_run
run_takes_one image d s events budget room =
    run_from_keeps image room (λ m. OneEach events m.world) (takes_one events room) budget 0
    (machine s.place (counters_of s) (start_world d events)) refl

few_left : (all : List ℕ) (w : World) → OneEach all w → length w.events ≤ length all
few_left all w h = omega (arith, ap length h ∙ length-drop (length w.accesses) all)

-- ---- a run that ends with 19 has made as many steps as its budget
module _ (image : List ℕ) (room : ℕ) where
  spent_steps : (left steps : ℕ) (m : Machine) → (run_from image room left steps m).outcome ≡ 19 → (run_from image room left steps m).steps ≡ steps + left
  spent_steps zero steps m h = omega arith
  spent_steps (suc left) steps m h = pick (λ n. spent_steps left (suc steps) n) (next_step image room m) refl h
    where
      near : Machine → RunEnd
      near = run_from image room left (suc steps)

      pick : ((n : Machine) → (near n).outcome ≡ 19 → (near n).steps ≡ suc steps + left) → (s : Step) → next_step image room m ≡ s
          → (follow near steps m s).outcome ≡ 19 → (follow near steps m s).steps ≡ steps + suc left
      pick i (continues n) p z = omega (arith, i n z)
      pick i halts p z = absurd (omega (arith, z))
      pick i (faults f) p z = absurd (step_not_19 image room m f p z)

-- ---- a run that ends with 19 is not refused
abbrev Refuses19 : Refusal → Type 0
Refuses19 f = f.number ≡ 19 → ⊥

bad_not_19 : (k : ℕ) (events : List ℕ) → Refuses19 (first_bad_event k events)
bad_not_19 k [] h = omega (arith, h)
bad_not_19 k (e ∷ es) h = branch Refuses19 (is_event e) (bad_not_19 (suc k) es) (λ z. omega (arith, z)) h

refusal_not_19 : (image : List ℕ) (d : Device) (s : Sequencer) (events : List ℕ) → Refuses19 (run_refusal image d s events)
unfolding run_refusal events_refusal
refusal_not_19 image d s events =
    branch Refuses19 (bad_image image) (λ h. omega (arith, h))
    (branch Refuses19 (bad_state d s) (λ h. omega (arith, h))
    (branch Refuses19 (ltb 4096 (length events)) (λ h. omega (arith, h)) (bad_not_19 0 events)))

pub not_refused :
    (image : List ℕ) (d : Device) (s : Sequencer) (events : List ℕ) (a : ℕ) (log : List ℕ) → (run_answer image d s events a log).outcome ≡ 19
    → (run_refusal image d s events).number ≡ 0
unfolding run_answer
not_refused image d s events a log h = pick (ℕ_discrete (run_refusal image d s events).number 0)
  where
    pick : Dec ((run_refusal image d s events).number ≡ 0) → (run_refusal image d s events).number ≡ 0
    pick (yes z) = z
    pick (no n) = absurd (refusal_not_19 image d s events (rw (ne_eqb (run_refusal image d s events).number 0 n) at h))

-- ---- nor is the second run: the events that are left are good
good_left : (j k n : ℕ) (events : List ℕ) → (first_bad_event j events).number ≡ 0 → (first_bad_event k (drop n events)).number ≡ 0
good_left j k n [] h = pick n
  where
    pick : (n : ℕ) → (first_bad_event k (drop n [])).number ≡ 0
    pick zero = refl
    pick (suc n) = refl
good_left j k n (e ∷ es) h = pick (is_event e) refl n h (λ z. good_left (suc j) (suc k) 0 es z) (λ i z. good_left (suc j) k i es z)
  where
    pick : (b : Bool) → is_event e ≡ b → (n : ℕ) → (cond b (first_bad_event (suc j) es) (refusal 12 j)).number ≡ 0
        → ((first_bad_event (suc j) es).number ≡ 0 → (first_bad_event (suc k) (drop 0 es)).number ≡ 0)
        → ((i : ℕ) → (first_bad_event (suc j) es).number ≡ 0 → (first_bad_event k (drop i es)).number ≡ 0)
        → (first_bad_event k (drop n (e ∷ es))).number ≡ 0
    pick false q n z f g = absurd (omega (arith, z))
    pick true q zero z f g = rw q (f z)
    pick true q (suc n) z f g = g n z

events_good : (n : ℕ) (events : List ℕ) → (events_refusal events).number ≡ 0 → (events_refusal (drop n events)).number ≡ 0
unfolding events_refusal
events_good n events h = pick (ltb 4096 (length events)) refl h
  where
    pick : (b : Bool) → ltb 4096 (length events) ≡ b → (cond b (refusal 12 4096) (first_bad_event 0 events)).number ≡ 0
        → (cond (ltb 4096 (length (drop n events))) (refusal 12 4096) (first_bad_event 0 (drop n events))).number ≡ 0
    pick true q z = absurd (omega (arith, z))
    pick false q z =
        let few = ltb-false 4096 (length events) q in
        let l : ltb 4096 (length (drop n events)) ≡ false = le-ltb 4096 (length (drop n events)) (omega (arith, few, length-drop n events)) in
        rw l (good_left 0 0 n events z)

none_refused :
    (image : List ℕ) (d : Device) (s : Sequencer) (events : List ℕ) → bad_image image ≡ false → device_in_range d ≡ true
    → sequencer_in_range s ≡ true → (events_refusal events).number ≡ 0 → (run_refusal image d s events).number ≡ 0
unfolding run_refusal
none_refused image d s events good h k all = rw (good, h, k, all)

-- ---- the answer and the log of a run that is not refused
module _ (image : List ℕ) (d : Device) (s : Sequencer) (events : List ℕ) (budget : ℕ) (log : List ℕ) (z : (run_refusal image d s events).number ≡ 0) where
  answer_is : run_answer image d s events budget log ≡ run_result events (image_run image d s events budget (length log))
  unfolding run_answer
  answer_is = rw (eq-eqb (run_refusal image d s events).number 0 z)

  log_is : log_after image d s events budget log ≡ log_filled (image_run image d s events budget (length log)).machine.world.logged log
  unfolding log_after
  log_is = rw (eq-eqb (run_refusal image d s events).number 0 z)

-- the log after the whole run, in its two parts
log_joined :
    (front' later lent : List ℕ)
    → log_filled (front' ++ later) lent
    ≡ take (length front') (log_filled front' lent) ++ log_filled later (drop (length front') (log_filled front' lent))
log_joined front' later lent =
    rw (
      front front' lent,
      rest front' lent,
      append_assoc front' later,
      length-append front' later,
      drop-drop (length later) (length front') lent,
    )

-- ---- the two runs, if they are not refused
module _ (image : List ℕ) (d : Device) (s : Sequencer) (events : List ℕ) (a b : ℕ) (log : List ℕ) where
  abbrev first : RunEnd
  first = image_run image d s events a (length log)

  abbrev stopped : Machine
  stopped = first.machine

  abbrev entries : List ℕ
  entries = stopped.world.logged

  abbrev left : List ℕ
  left = drop (length events - length stopped.world.events) events

  abbrev free : List ℕ
  free = drop (length entries) (log_filled entries log)

  abbrev second : RunEnd
  second = image_run image stopped.world.device (sequencer_at stopped.place stopped.counters) left b (length free)

  left_is : left ≡ stopped.world.events
  left_is =
      events_left_lem events stopped.world.events (length stopped.world.accesses) (run_takes_one image d s events a (length log))

  room_is : length entries + length free ≡ length log
  room_is =
      let l = ap length (rest entries log) ∙ length-drop (length entries) log in
      let m = never_logs_beyond image d s events a (length log) in
      omega (arith, l, m)

  -- the second run starts where the first one stopped, with no entries and no accesses
  second_start :
      second
      ≡ run_from image (length free) b 0 (machine stopped.place stopped.counters (start_world stopped.world.device stopped.world.events))
  unfolding image_run
  second_start = rw (counters_back stopped.place stopped.counters, left_is)

  module _ (spent : first.outcome ≡ 19) where
    first_steps : first.steps ≡ a
    unfolding image_run
    first_steps = omega (arith, spent_steps image (length log) a 0 (machine s.place (counters_of s) (start_world d events)) spent)

    in_parts : image_run image d s events (a + b) (length log) ≡ run_from image (length log) b a stopped
    unfolding image_run
    in_parts =
        let none : 0 + a ≡ a = omega arith in
        rw none at (run_in_two image (length log) a b 0 (machine s.place (counters_of s) (start_world d events)) spent)

    whole_is : image_run image d s events (a + b) (length log) ≡ end_after a entries stopped.world.accesses second
    whole_is =
        in_parts ∙ run_again image (length log) (length free) a b stopped room_is
        ∙ ap (end_after a entries stopped.world.accesses) (sym second_start)

    sums : AddUp (run_result events first) (run_result left second) (run_result events (image_run image d s events (a + b) (length log)))
        (log_filled entries log) (log_filled second.machine.world.logged free)
        (log_filled (image_run image d s events (a + b) (length log)).machine.world.logged log)
    sums = rw whole_is (record {
      same_outcome = refl;
      same_place = refl;
      same_device = refl;
      same_sequencer = refl;
      steps_added = omega (arith, first_steps);
      taken_added =
          omega (
            arith,
            ap length left_is,
            few_left events stopped.world (run_takes_one image d s events a (length log)),
            few_left left second.machine.world
                (run_takes_one image stopped.world.device (sequencer_at stopped.place stopped.counters) left b (length free)),
          );
      logged_added = length-append entries second.machine.world.logged;
      same_log = log_joined entries second.machine.world.logged log;
    })

    accesses_sum : AccessesAddUp first second (image_run image d s events (a + b) (length log))
    accesses_sum = ap (λ (e : RunEnd). e.machine.world.accesses) whole_is

pub resume_correct : ResumeCorrect
resume_correct = record {
  budgets_add = λ image d s events a b log spent.
      let z = not_refused image d s events a log spent in
      let g = allowed image d s events z in
      let ended = answer_is image d s events a log z in
      let filled = log_is image d s events a log z in
      let r = run_result events (image_run image d s events a (length log)) in
      let in-range = rw ended at (run_in_range image d s events a log g.device_good g.sequencer_good) in
      let z' = none_refused image r.device r.sequencer (events_left r events) g.image_good in-range.0 in-range.1
      (events_good r.taken events g.events_good) in
      let log' = room_left r (log_filled (image_run image d s events a (length log)).machine.world.logged log) in
      rw (
        ended,
        filled,
        answer_is image d s events (a + b) log z,
        log_is image d s events (a + b) log z,
        answer_is image r.device r.sequencer (events_left r events) b log' z',
        log_is image r.device r.sequencer (events_left r events) b log' z',
      )
      (sums image d s events a b log (rw ended at spent), accesses_sum image d s events a b log (rw ended at spent));
}
