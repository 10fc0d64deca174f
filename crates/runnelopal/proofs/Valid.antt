-- Valid bytes are those that are not refused with 11: a run, a script that is interpreted, a single access and a single event give 11 exactly if the
-- bytes are not valid, unless an earlier refusal applies. The bytes of the fresh device and of the fresh sequencer are valid.
use Prim.Native.Nat.{ℕ, suc}
use mathlib.Core.Path.{◌≡◌, refl, ap, sym, ◌∙◌}
use mathlib.Core.Logic.{◌↔◌}
use mathlib.Core.Bool.{Bool, true, false, cond, ◌&&◌, false≢true}
use mathlib.Core.List.{List, [], ◌∷◌}
use native.Mathlib.Decide.{ℕ_discrete}
use native.Mathlib.Omega.{arith}
use borrow.Author.Tests.{eq-eqb, ne_eqb}
use lib.Dec.{eqb, ltb}
use lib.ListN.{length, length-replicate, replicate}
use Rattle.access.specs.declared.Access.{Access}
use Rattle.acpi.specs.Acpi.{acpi_in_range}
use Rattle.acpi.specs.Map.{legal_map}
use Rattle.acpi.specs.Saved.{acpi_from}
use Rattle.compiler.proofs.Compiling.{accepts_all}
use Rattle.compiler.specs.Compile.{compile_result}
use Rattle.compiler.specs.Words.{words_of}
use Rattle.config.specs.Config.{config_in_range}
use Rattle.config.specs.Saved.{config_from}
use Rattle.correct.proofs.InterpreterCorrect.{interpreter_correct}
use Rattle.correct.proofs.WholeRun.{fresh_in_range, good_image, words_many, written_are}
use Rattle.correct.specs.CompilerCorrect.{Bytes, words_written}
use Rattle.device.specs.Device.{device_in_range, fresh_device}
use Rattle.device.specs.Dispatch.{device_access}
use Rattle.device.specs.Event.{apply_event, is_event}
use Rattle.device.specs.Single.{access_made, access_refused, call_refusal, event_made, event_refused, is_access, single_access, single_event}
use Rattle.device.specs.declared.Device.{Device}
use Rattle.interpreter.specs.Interpret.{interpret_refusal, interpret_result}
use Rattle.mask.proofs.Branch.{branch}
use Rattle.outcome.specs.Refusal.{Refusal, refusal}
use Rattle.script.proofs.Flat.{accepts}
use Rattle.script.specs.Refusals.{script_refusal}
use Rattle.sequencer.proofs.Endings.{image_run_ends}
use Rattle.sequencer.specs.Run.{bad_image, events_refusal, first_bad_event, image_run, is_refusal, run_answer, run_refusal}
use Rattle.sequencer_state.specs.State.{holds_sequencer, sequencer_bytes, sequencer_from}
use Rattle.state.specs.Call.{saved_access, saved_event}
use Rattle.state.specs.State.{device_from, holds_device, state_bytes}
use Rattle.step.specs.Sequencer.{fresh_sequencer, sequencer_in_range}
use Rattle.step.specs.declared.Sequencer.{Sequencer}
use Rattle.runnelopal.specs.Answers.{refused_answer}
use Rattle.runnelopal.specs.Calls.{
  after_interpret,
  after_run,
  held_interpret,
  held_run,
  saved_interpret,
  saved_run,
  unheld_refusal,
  unheld_script_refusal,
  valid_device,
  valid_sequencer,
}

-- ---- a valid device and a valid sequencer are not refused with 11
abbrev Not11 : ℕ → Type 0
Not11 n = n ≡ 11 → ⊥

bad_not_11 : (k : ℕ) (events : List ℕ) → Not11 (first_bad_event k events).number
bad_not_11 k [] h = omega (arith, h)
bad_not_11 k (e ∷ es) h =
    branch (λ (f : Refusal). Not11 f.number) (is_event e) (bad_not_11 (suc k) es) (λ z. omega (arith, z)) h

events_not_11 : (events : List ℕ) → Not11 (events_refusal events).number
unfolding events_refusal
events_not_11 events =
    branch (λ (f : Refusal). Not11 f.number) (ltb 4096 (length events)) (λ z. omega (arith, z)) (bad_not_11 0 events)

module _ (image : List ℕ) (d : Device) (s : Sequencer) (events : List ℕ) (budget : ℕ) (log : List ℕ) (good : bad_image image ≡ false) where
  refusal_is : device_in_range d ≡ true → sequencer_in_range s ≡ true → run_refusal image d s events ≡ events_refusal events
  unfolding run_refusal
  refusal_is p q = rw (good, p, q)

  in_range_runs : device_in_range d ≡ true → sequencer_in_range s ≡ true → Not11 (run_answer image d s events budget log).outcome
  unfolding run_answer
  in_range_runs p q = pick (ℕ_discrete (run_refusal image d s events).number 0)
    where
      pick : Dec ((run_refusal image d s events).number ≡ 0) → Not11 (run_answer image d s events budget log).outcome
      pick (yes z) h =
          let e : (image_run image d s events budget (length log)).outcome ≡ 11 = rw (eq-eqb (run_refusal image d s events).number 0 z) at h in
          false≢true (sym (image_run_ends image d s events budget (length log)) ∙ ap is_refusal e)
      pick (no n) h =
          let e : (run_refusal image d s events).number ≡ 11 = rw (ne_eqb (run_refusal image d s events).number 0 n) at h in
          events_not_11 events (sym (ap (λ (f : Refusal). f.number) (refusal_is p q)) ∙ e)

  out_of_range : (device_in_range d && sequencer_in_range s) ≡ false → (run_answer image d s events budget log).outcome ≡ 11
  unfolding run_answer run_refusal
  out_of_range h = rw (good, h)

-- the outcome of a run from saved bytes; b: they hold a device and a sequencer
abbrev saved_outcome : (image device sequencer events : List ℕ) → ℕ → List ℕ → Bool → ℕ
saved_outcome image device sequencer events budget log b =
    (cond b (held_run image device sequencer events budget log) (after_run (refused_answer (unheld_refusal image)) device sequencer log)).answer.outcome

pub run_refused :
    (image device sequencer events : List ℕ) (budget : ℕ) (log : List ℕ) → bad_image image ≡ false
    → ((saved_run image device sequencer events budget log).answer.outcome ≡ 11)
    ↔ ((valid_device device && valid_sequencer sequencer) ≡ false)
unfolding saved_run held_run
run_refused image device sequencer events budget log good =
    pick (holds_device device) (holds_sequencer sequencer) (device_in_range (device_from device)) refl (sequencer_in_range (sequencer_from sequencer)) refl
  where
    unheld : saved_outcome image device sequencer events budget log false ≡ 11
    unheld = ap (λ (b : Bool). (cond b (refusal 10 0) (refusal 11 0)).number) good

    pick : (h k p : Bool) → device_in_range (device_from device) ≡ p → (q : Bool) → sequencer_in_range (sequencer_from sequencer) ≡ q
        → (saved_outcome image device sequencer events budget log (h && k) ≡ 11) ↔ (((h && p) && (k && q)) ≡ false)
    pick false k p e q f = (λ z. refl, λ z. unheld)
    pick true false false e q f = (λ z. refl, λ z. unheld)
    pick true false true e q f = (λ z. refl, λ z. unheld)
    pick true true true e true f =
        (λ z. absurd (in_range_runs image (device_from device) (sequencer_from sequencer) events budget log good e f z), λ z. absurd (false≢true (sym z)))
    pick true true false e q f =
        (λ z. refl, λ z. out_of_range image (device_from device) (sequencer_from sequencer) events budget log good (rw e))
    pick true true true e false f =
        (λ z. refl, λ z. out_of_range image (device_from device) (sequencer_from sequencer) events budget log good (rw (e, f)))

-- ---- a single access and a single event
pub access_refused_lem : (bytes : List ℕ) (x : Access) → ((saved_access bytes x).refusal ≡ 11) ↔ (valid_device bytes ≡ false)
unfolding saved_access single_access
access_refused_lem bytes x = pick (holds_device bytes) (device_in_range (device_from bytes)) (is_access x)
  where
    pick : (h p a : Bool)
        → ((cond h
        (cond (eqb (call_refusal p a 4) 0) (access_made (device_access (device_from bytes) x))
        (record { device = device_from bytes; reply = access_refused (call_refusal p a 4) })).reply
        (access_refused 11)).refusal ≡ 11)
        ↔ ((h && p) ≡ false)
    pick false p a = (λ z. refl, λ z. refl)
    pick true false a = (λ z. refl, λ z. refl)
    pick true true true = (λ z. absurd (omega (arith, z)), λ z. absurd (false≢true (sym z)))
    pick true true false = (λ z. absurd (omega (arith, z)), λ z. absurd (false≢true (sym z)))

pub event_refused_lem : (bytes : List ℕ) (n : ℕ) → ((saved_event bytes n).refusal ≡ 11) ↔ (valid_device bytes ≡ false)
unfolding saved_event single_event
event_refused_lem bytes n = pick (holds_device bytes) (device_in_range (device_from bytes)) (is_event n)
  where
    pick : (h p a : Bool)
        → ((cond h
        (cond (eqb (call_refusal p a 12) 0) (event_made (apply_event (device_from bytes) n))
        (record { device = device_from bytes; reply = event_refused (call_refusal p a 12) })).reply
        (event_refused 11)).refusal ≡ 11)
        ↔ ((h && p) ≡ false)
    pick false p a = (λ z. refl, λ z. refl)
    pick true false a = (λ z. refl, λ z. refl)
    pick true true true = (λ z. absurd (omega (arith, z)), λ z. absurd (false≢true (sym z)))
    pick true true false = (λ z. absurd (omega (arith, z)), λ z. absurd (false≢true (sym z)))

-- ---- a script that is interpreted
-- an accepted script has an image: the words that the compiler writes into a buffer that is long enough
abbrev roomy : List ℕ
roomy = replicate 12288 0

module _ (script : List ℕ) (bytes : Bytes script) (z : (script_refusal script).number ≡ 0) where
  compiles : (compile_result script roomy).refusal ≡ 0
  compiles = accepts_all script roomy z (let w = (accepts script z).few_words_lem in omega (arith, w, length-replicate {A = ℕ} 12288 0))

  good_words : bad_image (words_written script roomy) ≡ false
  good_words =
      let many = words_many script z in
      ap bad_image (written_are script roomy compiles) ∙ good_image (words_of script) (omega arith) (omega arith)

  in_range_interprets :
      (d : Device) (events : List ℕ) (budget : ℕ) (log : List ℕ) → device_in_range d ≡ true
      → Not11 (interpret_result script d events budget log).outcome
  in_range_interprets d events budget log p h =
      let same = (interpreter_correct.same_run script roomy d events budget log bytes compiles).0.same_outcome in
      in_range_runs (words_written script roomy) d fresh_sequencer events budget log good_words p fresh_in_range (sym same ∙ h)

  out_of_range_refused :
      (d : Device) (events : List ℕ) (budget : ℕ) (log : List ℕ) → device_in_range d ≡ false
      → (interpret_result script d events budget log).outcome ≡ 11
  unfolding interpret_result interpret_refusal
  out_of_range_refused d events budget log p = rw (eq-eqb (script_refusal script).number 0 z, p)

  pub interpret_refused :
      (device events : List ℕ) (budget : ℕ) (log : List ℕ)
      → ((saved_interpret script device events budget log).answer.outcome ≡ 11) ↔ (valid_device device ≡ false)
  unfolding saved_interpret held_interpret
  interpret_refused device events budget log = pick (holds_device device) (device_in_range (device_from device)) refl
    where
      unheld : (unheld_script_refusal script).number ≡ 11
      unheld = rw (eq-eqb (script_refusal script).number 0 z)

      pick : (h p : Bool) → device_in_range (device_from device) ≡ p
          → ((cond h (held_interpret script device events budget log) (after_interpret (refused_answer (unheld_script_refusal script)) device log)).answer.outcome
          ≡ 11)
          ↔ ((h && p) ≡ false)
      pick false p e = (λ y. refl, λ y. unheld)
      pick true false e = (λ y. refl, λ y. out_of_range_refused (device_from device) events budget log e)
      pick true true e = (λ y. absurd (in_range_interprets (device_from device) events budget log e y), λ y. absurd (false≢true (sym y)))

-- ---- the fresh states
pub fresh_device_valid : valid_device (state_bytes fresh_device) ≡ true
unfolding holds_device state_bytes device_in_range config_in_range config_from acpi_in_range acpi_from legal_map
fresh_device_valid = refl

pub fresh_sequencer_valid : valid_sequencer (sequencer_bytes fresh_sequencer) ≡ true
unfolding sequencer_from sequencer_in_range
fresh_sequencer_valid = refl
