-- The run of an image, its refusals and its endings. `run_answer` and `log_after` define the call `sequencer::run`.
-- See docs/CHIP.md, "Runs" and "Refusals".
use Rattle.std.specs.Prelude.{ℕ, zero, suc, ◌-◌, ◌%◌, Bool, cond, not, ◌&&◌, ◌||◌, List, [], ◌∷◌, eqb, ltb, length}
use Rattle.device.specs.Device.{device_in_range}
use Rattle.device.specs.Event.{is_event}
use Rattle.device.specs.declared.Device.{Device}
use Rattle.record.specs.Record.{most_records, record_size}
use Rattle.outcome.specs.Ending as ending
use Rattle.outcome.specs.Number as number
use Rattle.outcome.specs.Refusal.{Refusal, refusal}
use Rattle.semantics.specs.World.{start_world}
use Rattle.step.specs.Sequencer.{counters_of, sequencer_at, sequencer_in_range}
use Rattle.step.specs.Step.{Machine, Step, faults, log_filled, continues, halts, machine, next_step}
use Rattle.step.specs.Word.{image_words}
use Rattle.step.specs.declared.Sequencer.{Sequencer}

-- the end of a run: the outcome, the number of steps, and the machine
pub record RunEnd : Type 0 where
  pub outcome : ℕ
  pub steps : ℕ
  pub machine : Machine

abbrev pub run_end : ℕ → ℕ → Machine → RunEnd
run_end o n m = record { outcome = o; steps = n; machine = m }

-- after a step: the rest of the run, or its end. "Steps: one per word executed, halt included." "A faulting word does
-- nothing, takes no event and counts no step. Halt stays on its own word."
abbrev pub follow : (Machine → RunEnd) → ℕ → Machine → Step → RunEnd
follow rest steps m (continues n) = rest n
follow rest steps m halts = run_end ending.halted (suc steps) m
follow rest steps m (faults f) = run_end f steps m

-- the run of an image from a machine: `room` is the length of the log, `left` the rest of the budget, `steps` the number of
-- steps so far. "Budget is looked at first": "19 budget spent"
abbrev pub run_from : List ℕ → (room left steps : ℕ) → Machine → RunEnd
run_from image room zero steps m = run_end ending.budget_spent steps m
run_from image room (suc left) steps m = follow (run_from image room left (suc steps)) steps m (next_step image room m)

-- ---- refusals
-- "A run ends with 0 halted, 19 budget spent, or a fault: 20 [..]"; the numbers between 0 and 19 are refusals
abbrev pub is_refusal : ℕ → Bool
is_refusal outcome = not (eqb outcome ending.halted) && ltb outcome ending.budget_spent

-- refusal 10: "image empty, no multiple of 12, or over 1,024 words (0)"
abbrev pub bad_image : List ℕ → Bool
bad_image image = eqb (length image) 0 || (not (eqb (length image % record_size) 0) || ltb most_records (image_words image))

-- refusal 11: "device or sequencer state out of range (0)"
abbrev pub bad_state : Device → Sequencer → Bool
bad_state d s = not (device_in_range d && sequencer_in_range s)

-- refusal 12: "bad event (the first's place; always 4,096 if over 4,096 events)"
abbrev pub first_bad_event : ℕ → List ℕ → Refusal
first_bad_event place [] = refusal 0 0
first_bad_event place (e ∷ es) = cond (is_event e) (first_bad_event (suc place) es) (refusal number.bad_event place)

abbrev pub most_events : ℕ
most_events = 4096

unfoldable pub events_refusal : List ℕ → Refusal
events_refusal events = cond (ltb most_events (length events)) (refusal number.bad_event most_events) (first_bad_event 0 events)

-- the order: "Runs: 10, 11, 12."
unfoldable pub run_refusal : List ℕ → Device → Sequencer → List ℕ → Refusal
run_refusal image d s events =
    cond (bad_image image) (refusal number.bad_image 0) (cond (bad_state d s) (refusal number.bad_state 0) (events_refusal events))

-- ---- the call
-- the answer of a run in the numbers of document 01: `outcome` is the ending or the number of a refusal, `place` the place of a refusal, 0 for an
-- ending
pub record RunResult : Type 0 where
  pub outcome : ℕ
  pub place : ℕ
  pub steps : ℕ
  pub taken : ℕ
  pub logged : ℕ
  pub sequencer : Sequencer
  pub device : Device

-- the run from the place and the counters of s: "A run may start from a stopped state."
unfoldable pub image_run : List ℕ → Device → Sequencer → List ℕ → (budget room : ℕ) → RunEnd
image_run image d s events budget room =
    run_from image room budget 0 (machine s.place (counters_of s) (start_world d events))

abbrev pub run_result : List ℕ → RunEnd → RunResult
run_result events e = record {
  outcome = e.outcome;
  place = 0;
  steps = e.steps;
  taken = length events - length e.machine.world.events;
  logged = length e.machine.world.logged;
  sequencer = sequencer_at e.machine.place e.machine.counters;
  device = e.machine.world.device;
}

-- "A refusal's other numbers are 0, events taken too; the sequencer is as given."
abbrev pub refused_run : Refusal → Device → Sequencer → RunResult
refused_run f d s = record {
  outcome = f.number;
  place = f.place;
  steps = 0;
  taken = 0;
  logged = 0;
  sequencer = s;
  device = d;
}

unfoldable pub run_answer : List ℕ → Device → Sequencer → List ℕ → ℕ → List ℕ → RunResult
run_answer image d s events budget log =
    cond (eqb (run_refusal image d s events).number 0)
    (run_result events (image_run image d s events budget (length log)))
    (refused_run (run_refusal image d s events) d s)

-- the log after the call; a refusal leaves it unchanged
unfoldable pub log_after : List ℕ → Device → Sequencer → List ℕ → ℕ → List ℕ → List ℕ
log_after image d s events budget log =
    cond (eqb (run_refusal image d s events).number 0)
    (log_filled (image_run image d s events budget (length log)).machine.world.logged log) log
