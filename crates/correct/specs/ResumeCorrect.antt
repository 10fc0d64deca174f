-- Resuming a run adds to it: a run that has spent its budget a, resumed with budget b, gives what one run with budget a + b gives.
-- The customer's sentence: "Going on with a budget of a and then b must equal one run with a + b (steps, events taken and values logged
-- added), where that sum fits the budget's number, the second call gets the events and the log room left, and the first ended with 19."
-- The theorem is about the definitions of the call `sequencer::run`, `run_answer` and `log_after`. It holds for all budgets; the code's budget is
-- a 32-bit number, so it is about the code wherever a + b fits. The proof is `resume_correct` in proofs/ResumeCorrect.antt.
-- See docs/CHIP.md, "Resuming a run".
use Rattle.std.specs.Prelude.{ℕ, ◌+◌, ◌≡◌, List, ◌++◌, drop, length, take}
use Rattle.device.specs.declared.Device.{Device}
use Rattle.outcome.specs.Ending as ending
use Rattle.sequencer.specs.Run.{RunEnd, image_run, log_after, run_answer}
use Rattle.sequencer.specs.Run.{RunResult}
use Rattle.step.specs.declared.Sequencer.{Sequencer}

-- "the second call gets the events and the log room left": the events that the first run did not take, and the log after the first run from its
-- first free entry on
abbrev pub events_left : RunResult → List ℕ → List ℕ
events_left first events = drop first.taken events

abbrev pub room_left : RunResult → List ℕ → List ℕ
room_left first log = drop first.logged log

-- two runs, one after the other, add up to the whole run. `first_log` and `whole_log` are the log after the first and after the whole run,
-- `second_log` is the part that the second run had, after it
pub record AddUp (first second whole : RunResult) (first_log second_log whole_log : List ℕ) : Type 0 where
  pub same_outcome : whole.outcome ≡ second.outcome
  pub same_place : whole.place ≡ second.place
  pub same_device : whole.device ≡ second.device
  pub same_sequencer : whole.sequencer ≡ second.sequencer
  pub steps_added : whole.steps ≡ first.steps + second.steps
  pub taken_added : whole.taken ≡ first.taken + second.taken
  pub logged_added : whole.logged ≡ first.logged + second.logged
  pub same_log : whole_log ≡ take first.logged first_log ++ second_log

-- the list of accesses of the whole run is that of the first run, then that of the second one
abbrev pub AccessesAddUp : (first second whole : RunEnd) → Type 0
AccessesAddUp first second whole =
    whole.machine.world.accesses ≡ first.machine.world.accesses ++ second.machine.world.accesses

pub record ResumeCorrect : Type 0 where
  pub budgets_add :
      (image : List ℕ) (d : Device) (s : Sequencer) (events : List ℕ) (a b : ℕ) (log : List ℕ)
      → (let first = run_answer image d s events a log in
      let first_log = log_after image d s events a log in
      let events' = events_left first events in
      let log' = room_left first first_log in
      first.outcome ≡ ending.budget_spent
      → AddUp first (run_answer image first.device first.sequencer events' b log') (run_answer image d s events (a + b) log) first_log
      (log_after image first.device first.sequencer events' b log') (log_after image d s events (a + b) log)
      × AccessesAddUp (image_run image d s events a (length log))
      (image_run image first.device first.sequencer events' b (length log')) (image_run image d s events (a + b) (length log)))
