-- The interpreter is correct: it answers what compiling the script and running the image from a fresh sequencer answers, for every script that
-- the compiler accepts, every device and event list, and at every budget and every length of log, so also where the run ends with 19 or 24. A
-- script that the compiler refuses is refused with the same number and place. The contracts of `interpret`, `compile` and `run` say that the code
-- computes these definitions. The proof is `interpreter_correct` in proofs/InterpreterCorrect.antt. See docs/CHIP.md, "Interpreting a script".
use Rattle.std.specs.Prelude.{ℕ, ◌*◌, ◌≤◌, ◌≡◌, List, length}
use Rattle.compiler.specs.Compile.{compile_result}
use Rattle.device.specs.declared.Device.{Device}
use Rattle.interpreter.specs.Interpret.{interpret_log, interpret_result, refused_interpret}
use Rattle.interpreter.specs.Walk.{script_walk, walk_end}
use Rattle.interpreter.specs.Interpret.{InterpretResult}
use Rattle.outcome.specs.Ending as ending
use Rattle.outcome.specs.Refusal.{refusal}
use Rattle.record.specs.Record.{most_records, record_size}
use Rattle.semantics.specs.OwnRun.{script_run}
use Rattle.sequencer.specs.Run.{image_run, log_after, run_answer}
use Rattle.sequencer.specs.Run.{RunResult}
use Rattle.step.specs.Sequencer.{fresh_sequencer}
use Rattle.correct.specs.CompilerCorrect.{Bytes, words_written}

-- the answer of the interpreter is that of a run of an image, without the sequencer
pub record SameAnswer (walked : InterpretResult) (ran : RunResult) : Type 0 where
  pub same_outcome : walked.outcome ≡ ran.outcome
  pub same_place : walked.place ≡ ran.place
  pub same_steps : walked.steps ≡ ran.steps
  -- so the events left are the same
  pub same_taken : walked.taken ≡ ran.taken
  pub same_logged : walked.logged ≡ ran.logged
  pub same_device : walked.device ≡ ran.device

pub record InterpreterCorrect : Type 0 where
  -- the answer, every entry of the log, and each access with its whole answer, are those of the run of the words written
  pub same_run :
      (script buffer : List ℕ) (d : Device) (events : List ℕ) (budget : ℕ) (log : List ℕ) → Bytes script
      → (compile_result script buffer).refusal ≡ 0
      → SameAnswer (interpret_result script d events budget log) (run_answer (words_written script buffer) d fresh_sequencer events budget log)
      × (interpret_log script d events budget log ≡ log_after (words_written script buffer) d fresh_sequencer events budget log)
      × ((script_walk script d events budget (length log)).run.world.accesses
      ≡ (image_run (words_written script buffer) d fresh_sequencer events budget (length log)).machine.world.accesses)
  -- a script that the compiler refuses, with an image buffer that is long enough for every script, is refused with the same number and place,
  -- and nothing changes
  pub same_refusal :
      (script buffer : List ℕ) (d : Device) (events : List ℕ) (budget : ℕ) (log : List ℕ) → record_size * most_records ≤ length buffer
      → ((compile_result script buffer).refusal ≡ 0 → ⊥)
      → (interpret_result script d events budget log ≡ refused_interpret (refusal (compile_result script buffer).refusal (compile_result script buffer).place) d)
      × (interpret_log script d events budget log ≡ log)
  -- where the log and the budget are large enough, the walk is the script's own run
  pub own_run :
      (script : List ℕ) (d : Device) (events : List ℕ) (budget room : ℕ)
      → length (script_run script d events).world.logged ≤ room → (script_run script d events).steps ≤ budget
      → script_walk script d events budget room ≡ walk_end ending.halted (script_run script d events)
