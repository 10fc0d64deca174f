-- The exported calls on saved bytes: whether bytes are a valid device or sequencer, and runs from a saved device and a saved sequencer. What a single
-- access or event returns and leaves in the bytes is in `state/specs/Call.antt`. See bindings/c/runnelopal.h and docs/STATE.md.
use Rattle.std.specs.Prelude.{ℕ, Bool, cond, ◌&&◌, List, eqb}
use Rattle.access.specs.declared.Access.{Access}
use Rattle.device.specs.Device.{device_in_range}
use Rattle.device.specs.declared.Device.{Device}
use Rattle.interpreter.specs.Interpret.{InterpretResult, interpret_log, interpret_result}
use Rattle.outcome.specs.Number as number
use Rattle.outcome.specs.Refusal.{Refusal, refusal}
use Rattle.script.specs.Refusals.{script_refusal}
use Rattle.sequencer.specs.Run.{RunResult, bad_image, is_refusal, log_after, run_answer}
use Rattle.sequencer_state.specs.State.{holds_sequencer, saved as sequencer_saved, sequencer_from}
use Rattle.state.specs.State.{device_from, holds_device, saved as device_saved}
use Rattle.step.specs.Sequencer.{sequencer_in_range}
use Rattle.step.specs.declared.Sequencer.{Sequencer}
use Rattle.runnelopal.specs.Answers.{
  exported_interpret,
  exported_outputs,
  outputs_refused,
  refused_answer,
  exported_run,
  exported_sequencer,
  sequencer_refused,
}
use Rattle.runnelopal.specs.declared.answer.OutputsAnswer.{OutputsAnswer}
use Rattle.runnelopal.specs.declared.answer.RunAnswer.{RunAnswer}
use Rattle.runnelopal.specs.declared.answer.SequencerAnswer.{SequencerAnswer}

abbrev pub access_of : Bool → (width port value : ℕ) → Access
access_of write w p v = record { write = write; width = w; port = p; value = v }

-- ---- valid bytes: those that are not refused with 11
abbrev pub valid_device : List ℕ → Bool
valid_device bytes = holds_device bytes && device_in_range (device_from bytes)

abbrev pub valid_sequencer : List ℕ → Bool
valid_sequencer bytes = holds_sequencer bytes && sequencer_in_range (sequencer_from bytes)

abbrev pub saved_outputs : List ℕ → OutputsAnswer
saved_outputs bytes = cond (valid_device bytes) (exported_outputs (device_from bytes)) (outputs_refused number.bad_state)

abbrev pub saved_sequencer_answer : List ℕ → SequencerAnswer
saved_sequencer_answer bytes = cond (valid_sequencer bytes) (exported_sequencer (sequencer_from bytes)) (sequencer_refused number.bad_state)

-- ---- a run from saved bytes
-- everything that a run returns and leaves: its answer, the bytes of the device and of the sequencer, and the log
pub record AfterRun : Type 0 where
  pub answer : RunAnswer
  pub device : List ℕ
  pub sequencer : List ℕ
  pub log : List ℕ

abbrev pub after_run : RunAnswer → (device sequencer log : List ℕ) → AfterRun
after_run a device sequencer log = record { answer = a; device = device; sequencer = sequencer; log = log }

-- the bytes after a run; a refused run leaves them unchanged
abbrev pub device_after : (outcome : ℕ) → Device → List ℕ → List ℕ
device_after outcome d bytes = cond (is_refusal outcome) bytes (device_saved d bytes)

abbrev pub sequencer_after : (outcome : ℕ) → Sequencer → List ℕ → List ℕ
sequencer_after outcome s bytes = cond (is_refusal outcome) bytes (sequencer_saved s bytes)

-- the run from the device and the sequencer that the bytes hold. r is its result, and log' the log after it
abbrev pub ran_from : RunResult → (device sequencer log' : List ℕ) → AfterRun
ran_from r device sequencer log' =
    after_run (exported_run r) (device_after r.outcome r.device device) (sequencer_after r.outcome r.sequencer sequencer) log'

unfoldable pub held_run : (image device sequencer events : List ℕ) → ℕ → List ℕ → AfterRun
held_run image device sequencer events budget log =
    ran_from (run_answer image (device_from device) (sequencer_from sequencer) events budget log) device sequencer
    (log_after image (device_from device) (sequencer_from sequencer) events budget log)

-- bytes that hold no device, or no sequencer, are refused with 11. The order: "Runs: 10, 11, 12."
abbrev pub unheld_refusal : (image : List ℕ) → Refusal
unheld_refusal image = cond (bad_image image) (refusal number.bad_image 0) (refusal number.bad_state 0)

unfoldable pub saved_run : (image device sequencer events : List ℕ) → ℕ → List ℕ → AfterRun
saved_run image device sequencer events budget log =
    cond (holds_device device && holds_sequencer sequencer) (held_run image device sequencer events budget log)
    (after_run (refused_answer (unheld_refusal image)) device sequencer log)

-- ---- a script, interpreted on a saved device
pub record AfterInterpret : Type 0 where
  pub answer : RunAnswer
  pub device : List ℕ
  pub log : List ℕ

abbrev pub after_interpret : RunAnswer → (device log : List ℕ) → AfterInterpret
after_interpret a device log = record { answer = a; device = device; log = log }

abbrev pub interpreted_on : InterpretResult → (device log' : List ℕ) → AfterInterpret
interpreted_on r device log' = after_interpret (exported_interpret r) (device_after r.outcome r.device device) log'

unfoldable pub held_interpret : (script device events : List ℕ) → ℕ → List ℕ → AfterInterpret
held_interpret script device events budget log =
    interpreted_on (interpret_result script (device_from device) events budget log) device
    (interpret_log script (device_from device) events budget log)

-- the order: "the script's 1 to 8, then 11 for the device and 12"
abbrev pub unheld_script_refusal : (script : List ℕ) → Refusal
unheld_script_refusal script = cond (eqb (script_refusal script).number 0) (refusal number.bad_state 0) (script_refusal script)

unfoldable pub saved_interpret : (script device events : List ℕ) → ℕ → List ℕ → AfterInterpret
saved_interpret script device events budget log =
    cond (holds_device device) (held_interpret script device events budget log)
    (after_interpret (refused_answer (unheld_script_refusal script)) device log)
