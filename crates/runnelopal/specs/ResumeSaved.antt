-- Resuming a run adds to it, for runs on saved bytes: the exported call that has spent its budget a, made again with budget b on the bytes that it
-- left, the events that it did not take and the rest of its log, gives what one call with budget a + b gives. This is `ResumeCorrect` of `correct`, with
-- the saved device and the saved sequencer between the two runs. The proof is `resume_saved` in proofs/ResumeSaved.antt.
-- See docs/CHIP.md, "Resuming a run".
use Rattle.std.specs.Prelude.{ℕ, ◌+◌, ◌≡◌, List, ◌++◌, drop, take}
use Rattle.outcome.specs.Ending as ending
use Rattle.sequencer.specs.Run.{run_answer}
use Rattle.sequencer.specs.Run.{RunResult}
use Rattle.sequencer_state.specs.State.{sequencer_bytes, sequencer_from}
use Rattle.state.specs.State.{device_from, state_bytes}
use Rattle.runnelopal.specs.Calls.{AfterRun, saved_run}

-- two calls, one after the other, add up to the whole one: the same answer, the same bytes, and the log in two parts
pub record SavedAddUp (first second whole : AfterRun) : Type 0 where
  pub same_outcome : whole.answer.outcome ≡ second.answer.outcome
  pub same_place : whole.answer.place ≡ second.answer.place
  pub same_outputs : whole.answer.outputs ≡ second.answer.outputs
  pub steps_added : whole.answer.steps ≡ first.answer.steps + second.answer.steps
  pub taken_added : whole.answer.taken ≡ first.answer.taken + second.answer.taken
  pub logged_added : whole.answer.logged ≡ first.answer.logged + second.answer.logged
  pub same_device : whole.device ≡ second.device
  pub same_sequencer : whole.sequencer ≡ second.sequencer
  pub same_log : whole.log ≡ take first.answer.logged first.log ++ second.log

-- saving and loading gives the device and the sequencer of r back. This holds if their fields fit their types, which the code ensures (`load_back` of
-- `state` and of `sequencer_state`)
pub record LoadsBack (r : RunResult) : Type 0 where
  pub device_back : device_from (state_bytes r.device) ≡ r.device
  pub sequencer_back : sequencer_from (sequencer_bytes r.sequencer) ≡ r.sequencer

pub record ResumeSaved : Type 0 where
  pub budgets_add :
      (image device sequencer events : List ℕ) (a b : ℕ) (log : List ℕ)
      → (let first = saved_run image device sequencer events a log in
      first.answer.outcome ≡ ending.budget_spent → LoadsBack (run_answer image (device_from device) (sequencer_from sequencer) events a log)
      → SavedAddUp first
      (saved_run image first.device first.sequencer (drop first.answer.taken events) b (drop first.answer.logged first.log))
      (saved_run image device sequencer events (a + b) log))
