-- The exported runs on saved bytes, one law for each return of the code: bytes that hold no device or no sequencer are refused; a run from the device
-- and the sequencer that they hold is refused, and leaves the bytes as they are, or ends, and both are saved.
use Prim.Native.Nat.{ℕ}
use mathlib.Core.Path.{◌≡◌, refl, ap, sym, subst}
use mathlib.Core.Bool.{true, false}
use mathlib.Core.List.{List}
use lib.Dec.{eqb}
use borrow.Author.Tests.{ne_eqb}
use Rattle.std.specs.Prelude.{Ok, Err}
use Rattle.device.specs.Device.{device_in_range}
use Rattle.device.specs.declared.Device.{Device}
use Rattle.interpreter.specs.Interpret.{interpret_log, interpret_refusal, interpret_result}
use Rattle.interpreter.specs.Interpreted.{interpreted}
use Rattle.interpreter.specs.declared.InterpretResult as walk
use Rattle.mask.proofs.Every.{and_left}
use Rattle.outcome.specs.Number as number
use Rattle.outcome.specs.Refusal.{refusal}
use Rattle.outcome.proofs.Numbers.{refusal_number_above}
use Rattle.outcome.specs.Refused.{ending_number, refusal_number, refusal_of}
use Rattle.outcome.specs.declared.Ending.{Ending}
use Rattle.outcome.specs.declared.Ending.TheVariants.{Halted, BudgetSpent, BadWord, BeyondLastWord, NinthCounter, NoCounter, LogFull}
use Rattle.outcome.specs.declared.Refused.{Refused}
use Rattle.script.specs.Refusals.{script_refusal}
use Rattle.script.specs.Scan.{ScanResult, scanned, script_scan}
use Rattle.sequencer.specs.Ran.{ran}
use Rattle.sequencer.specs.Run.{is_refusal, log_after, run_answer, run_refusal}
use Rattle.sequencer.specs.declared.RunResult as run
use Rattle.sequencer_state.specs.State.{holds_sequencer, saved as sequencer_saved, sequencer_from}
use Rattle.state.specs.State.{device_from, holds_device, saved as device_saved}
use Rattle.step.specs.Sequencer.{sequencer_in_range}
use Rattle.step.specs.declared.Sequencer.{Sequencer}
use Rattle.runnelopal.proofs.Refusals.{RefusedWith, interpret_refuses, run_refuses}
use Rattle.runnelopal.specs.Answers.{ended, refused_answer}
use Rattle.runnelopal.specs.Calls.{
  after_interpret,
  after_run,
  held_interpret,
  held_run,
  unheld_refusal,
  unheld_script_refusal,
  saved_interpret,
  saved_run,
  valid_device,
  valid_sequencer,
}

ending_ends : (e : Ending) → is_refusal (ending_number e) ≡ false
ending_ends Halted = refl
ending_ends BudgetSpent = refl
ending_ends BadWord = refl
ending_ends BeyondLastWord = refl
ending_ends NinthCounter = refl
ending_ends NoCounter = refl
ending_ends LogFull = refl

-- ---- a run
module _ (image device sequencer events : List ℕ) (budget : ℕ) (log : List ℕ) where
  pub no_device :
      (f : Refused) → refusal_of f ≡ unheld_refusal image → holds_device device ≡ false
      → after_run (refused_answer (refusal_of f)) device sequencer log ≡ saved_run image device sequencer events budget log
  unfolding saved_run
  no_device f e h = rw h (ap (λ r. after_run (refused_answer r) device sequencer log) e)

  pub no_sequencer :
      (f : Refused) → refusal_of f ≡ unheld_refusal image → holds_device device ≡ true → holds_sequencer sequencer ≡ false
      → after_run (refused_answer (refusal_of f)) device sequencer log ≡ saved_run image device sequencer events budget log
  unfolding saved_run
  no_sequencer f e h k = rw (h, k) (ap (λ r. after_run (refused_answer r) device sequencer log) e)

  module _ (d : Device) (s : Sequencer) (h : holds_device device ≡ true) (k : holds_sequencer sequencer ≡ true) (p : d ≡ device_from device)
      (q : s ≡ sequencer_from sequencer) where
    pub run_refused :
        (f : Refused) {log' : List ℕ} → (ran d s (Err f) ≡ run_answer image d s events budget log) × (log' ≡ log_after image d s events budget log)
        → refusal_of f ≡ run_refusal image d s events
        → after_run (refused_answer (refusal_of f)) device sequencer log' ≡ saved_run image device sequencer events budget log
    unfolding saved_run held_run
    run_refused f e r =
        let u : is_refusal (refusal_number f.kind) ≡ true =
        subst RefusedWith (sym r) (run_refuses image d s events) (refusal_number_above f.kind)
        in
        rw (h, k, ← p, ← q, e.1, ← e.0, u)

    pub run_ended :
        (r : run.RunResult) {log' : List ℕ} → (ran d s (Ok r) ≡ run_answer image d s events budget log) × (log' ≡ log_after image d s events budget log)
        → after_run (ended r.ending r.steps r.taken r.logged r.device) (device_saved r.device device) (sequencer_saved r.sequencer sequencer) log'
        ≡ saved_run image device sequencer events budget log
    unfolding saved_run held_run
    run_ended r e = rw (h, k, ← p, ← q, e.1, ← e.0, ending_ends r.ending)

-- ---- a script that is interpreted
module _ (script device events : List ℕ) (budget : ℕ) (log : List ℕ) where
  pub no_device_for_script :
      (f : Refused) → refusal_of f ≡ unheld_script_refusal script → holds_device device ≡ false
      → after_interpret (refused_answer (refusal_of f)) device log ≡ saved_interpret script device events budget log
  unfolding saved_interpret
  no_device_for_script f e h = rw h (ap (λ r. after_interpret (refused_answer r) device log) e)

  module _ (d : Device) (h : holds_device device ≡ true) (p : d ≡ device_from device) where
    pub interpret_refused :
        (f : Refused) {log' : List ℕ}
        → (interpreted d (Err f) ≡ interpret_result script d events budget log) × (log' ≡ interpret_log script d events budget log)
        → refusal_of f ≡ interpret_refusal script d events
        → after_interpret (refused_answer (refusal_of f)) device log' ≡ saved_interpret script device events budget log
    unfolding saved_interpret held_interpret
    interpret_refused f e r =
        let u : is_refusal (refusal_number f.kind) ≡ true =
        subst RefusedWith (sym r) (interpret_refuses script d events) (refusal_number_above f.kind)
        in
        rw (h, ← p, e.1, ← e.0, u)

    pub interpret_ended :
        (r : walk.InterpretResult) {log' : List ℕ}
        → (interpreted d (Ok r) ≡ interpret_result script d events budget log) × (log' ≡ interpret_log script d events budget log)
        → after_interpret (ended r.ending r.steps r.taken r.logged r.device) (device_saved r.device device) log'
        ≡ saved_interpret script device events budget log
    unfolding saved_interpret held_interpret
    interpret_ended r e = rw (h, ← p, e.1, ← e.0, ending_ends r.ending)

-- ---- the refusal of a script, if the bytes hold no device
module _ (script : List ℕ) where
  pub then_device : (words : ℕ) → scanned (Ok words) ≡ script_scan script → refusal number.bad_state 0 ≡ unheld_script_refusal script
  unfolding script_scan
  then_device words e = rw (← ap {A = ScanResult} (λ s. s.number) e)

  pub script_first : (f : Refused) → scanned (Err f) ≡ script_scan script → refusal_of f ≡ unheld_script_refusal script
  unfolding script_scan
  script_first f e =
      let n : (refusal_of f).number ≡ (script_refusal script).number = ap {A = ScanResult} (λ s. s.number) e in
      let r : refusal_of f ≡ script_refusal script = ap {A = ScanResult} (λ s. refusal s.number s.place) e in
      let k : eqb (script_refusal script).number 0 ≡ false = rw n at (ne_eqb (refusal_number f.kind) 0 (refusal_number_above f.kind)) in
      rw k r

-- ---- valid bytes
pub valid_holds : (bytes : List ℕ) → valid_device bytes ≡ true → holds_device bytes ≡ true
valid_holds bytes h = and_left (holds_device bytes) (device_in_range (device_from bytes)) h

pub valid_holds_sequencer : (bytes : List ℕ) → valid_sequencer bytes ≡ true → holds_sequencer bytes ≡ true
valid_holds_sequencer bytes h = and_left (holds_sequencer bytes) (sequencer_in_range (sequencer_from bytes)) h
