-- The compiler is correct: the run of a compiled image is the script's own run, and the compiler refuses a script exactly when
-- one of refusals 1 to 9 applies. The theorem is about the bytes of the script and the bytes that the compiler writes. Its proof
-- is `compiler_correct` in proofs/CompilerCorrect.antt. See docs/CHIP.md, "What a script means".
use Rattle.std.specs.Prelude.{ℕ, ◌*◌, ◌-◌, ◌≤◌, ◌<◌, ◌≡◌, ◌↔◌, true, List, [], drop, get_or, length, take}
use Rattle.compiler.specs.Compile.{compile_result, image_after}
use Rattle.compiler.specs.Refused.{Accepts, RefusedExactly}
use Rattle.device.specs.Device.{device_in_range}
use Rattle.device.specs.declared.Device.{Device}
use Rattle.record.specs.Record.{record_size}
use Rattle.script.specs.Nested.{Body, flat, script_body}
use Rattle.script.specs.Records.{records_of}
use Rattle.script.specs.Refusals.{script_refusal}
use Rattle.semantics.specs.OwnRun.{Run, script_run}
use Rattle.sequencer.specs.Run.{RunEnd, events_refusal, image_run, log_after, run_answer}
use Rattle.step.specs.Sequencer.{fresh_sequencer}
use Rattle.sequencer.specs.Run.{RunResult}

-- every element is a byte; the type `&[u8]` ensures it, so `compile` does not require it
abbrev pub Bytes : List ℕ → Type 0
Bytes bs = (k : ℕ) → get_or bs k 0 < 256

-- "the words written for the script and nothing more"
abbrev pub words_written : List ℕ → List ℕ → List ℕ
words_written script buffer = take (record_size * (compile_result script buffer).words) (image_after script buffer)

-- the script's own run and the run of its image agree: `answer` is the answer of the run of the image, `image` its end, `log`
-- the log after it and `lent` the log before it. Each access has its whole answer, the owner included, and each entry of the log its
-- value and its owner
pub record SameRun (own : Run) (answer : RunResult) (image : RunEnd) (words : ℕ) (events lent log : List ℕ) : Type 0 where
  pub halted : answer.outcome ≡ 0
  pub on_last_word : answer.sequencer.place ≡ words - 1
  pub no_counter_in_use : answer.sequencer.used ≡ 0
  pub same_accesses : image.machine.world.accesses ≡ own.world.accesses
  pub same_entries : take (length own.world.logged) log ≡ own.world.logged
  pub rest_as_lent : drop (length own.world.logged) log ≡ drop (length own.world.logged) lent
  pub same_logged : answer.logged ≡ length own.world.logged
  pub same_device : answer.device ≡ own.world.device
  pub same_events_left : drop answer.taken events ≡ own.world.events
  pub same_taken : answer.taken ≡ length events - length own.world.events
  pub same_steps : answer.steps ≡ own.steps

-- the top theorem
pub record CompilerCorrect : Type 0 where
  -- the run of the words written is the script's own run, if the log and the budget are large enough for it
  pub same_run :
      (script buffer : List ℕ) (d : Device) (events : List ℕ) (budget : ℕ) (log : List ℕ) → Bytes script
      → (compile_result script buffer).refusal ≡ 0 → device_in_range d ≡ true → (events_refusal events).number ≡ 0
      → length (script_run script d events).world.logged ≤ length log → (script_run script d events).steps ≤ budget
      → SameRun (script_run script d events) (run_answer (words_written script buffer) d fresh_sequencer events budget log)
      (image_run (words_written script buffer) d fresh_sequencer events budget (length log)) (compile_result script buffer).words
      events log (log_after (words_written script buffer) d fresh_sequencer events budget log)
  -- the nested form of an accepted script has all its records, in order
  pub same_records :
      (script : List ℕ) → (script_refusal script).number ≡ 0 → records_of script ≡ flat (script_body script) []
  -- and no other nested form has the same records
  pub one_reading : (a b : Body) → flat a [] ≡ flat b [] → a ≡ b
  -- the compiler accepts exactly the legal scripts whose words fit into the buffer
  pub accepted_exactly :
      (script buffer : List ℕ) → ((compile_result script buffer).refusal ≡ 0) ↔ Accepts script buffer
  -- and gives each refusal exactly when it applies
  pub refused_exactly : (script buffer : List ℕ) (place : ℕ) → RefusedExactly script buffer place
