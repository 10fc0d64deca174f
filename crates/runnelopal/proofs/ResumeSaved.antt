-- Resuming a run on saved bytes adds to it. A run that ended with 19 was not refused, so the bytes hold the device and the sequencer after it
-- (`left-bytes`), and loading them gives both back. The rest is `resume_correct`.
use Prim.Native.Nat.{ℕ, ◌+◌}
use mathlib.Core.Path.{◌≡◌, refl, ap, sym, ◌∙◌}
use mathlib.Core.Bool.{Bool, true, false, cond, ◌&&◌}
use mathlib.Core.List.{List}
use native.Mathlib.Omega.{arith}
use borrow.Author.Tests.{eq-eqb}
use lib.ListN.{drop, length}
use Rattle.correct.proofs.ResumeCorrect.{not_refused, resume_correct}
use Rattle.correct.specs.ResumeCorrect.{AddUp}
use Rattle.device.specs.declared.Device.{Device}
use Rattle.mask.proofs.Every.{and_left, and_right}
use Rattle.outcome.specs.Refusal.{refusal}
use Rattle.sequencer.proofs.Endings.{image_run_ends}
use Rattle.sequencer.specs.Run.{bad_image, is_refusal, log_after, run_answer, run_refusal}
use Rattle.sequencer.specs.Run.{RunResult}
use Rattle.sequencer_state.specs.State.{holds_sequencer, saved as sequencer_saved, sequencer_bytes, sequencer_from}
use Rattle.state.proofs.RoundTrip.{state_length, state_saved}
use Rattle.state.proofs.Slices.{holds_length, holds_saved}
use Rattle.state.specs.State.{device_from, holds_device, saved as device_saved, state_bytes, state_size}
use Rattle.step.specs.declared.Sequencer.{Sequencer}
use Rattle.runnelopal.specs.Answers.{exported_run, refused_answer}
use Rattle.runnelopal.specs.Calls.{AfterRun, after_run, held_run, ran_from, saved_run, unheld_refusal}
use Rattle.runnelopal.specs.ResumeSaved.{LoadsBack, ResumeSaved, SavedAddUp}

-- ---- the bytes of a device and of a sequencer hold them
holds_bytes : (d : Device) → holds_device (state_bytes d) ≡ true
holds_bytes d = sym (holds_saved (state_bytes d) (state_length d)) ∙ state_saved d

saved_device : (d : Device) (bytes : List ℕ) → length bytes ≡ state_size → device_saved d bytes ≡ state_bytes d
unfolding device_saved
saved_device d bytes n = rw (eq-eqb (length bytes) state_size n)

saved_sequencer : (s : Sequencer) (bytes : List ℕ) → holds_sequencer bytes ≡ true → sequencer_saved s bytes ≡ sequencer_bytes s
unfolding sequencer_saved
saved_sequencer s bytes h = rw h

-- ---- a run from bytes that hold a device and a sequencer
held : (image device sequencer events : List ℕ) (budget : ℕ) (log : List ℕ) → (holds_device device && holds_sequencer sequencer) ≡ true
    → saved_run image device sequencer events budget log
    ≡ ran_from (run_answer image (device_from device) (sequencer_from sequencer) events budget log) device sequencer
    (log_after image (device_from device) (sequencer_from sequencer) events budget log)
unfolding saved_run held_run
held image device sequencer events budget log h = rw h

-- a run that ended with 19 had such bytes
spent_held :
    (image device sequencer events : List ℕ) (budget : ℕ) (log : List ℕ) → (saved_run image device sequencer events budget log).answer.outcome ≡ 19
    → (holds_device device && holds_sequencer sequencer) ≡ true
unfolding saved_run
spent_held image device sequencer events budget log h = pick (holds_device device && holds_sequencer sequencer) h
  where
    pick : (b : Bool)
        → (cond b (held_run image device sequencer events budget log) (after_run (refused_answer (unheld_refusal image)) device sequencer log)).answer.outcome
        ≡ 19
        → b ≡ true
    pick true z = refl
    pick false z = absurd (never (bad_image image) z)
      where
        never : (c : Bool) → ◌≡◌ {A = ℕ} (cond c (refusal 10 0) (refusal 11 0)).number 19 → ⊥
        never true y = omega (arith, y)
        never false y = omega (arith, y)

-- a run that is not refused ends, whatever its budget
ends : (image : List ℕ) (d : Device) (s : Sequencer) (events : List ℕ) (budget : ℕ) (log : List ℕ) → (run_refusal image d s events).number ≡ 0
    → is_refusal (run_answer image d s events budget log).outcome ≡ false
unfolding run_answer
ends image d s events budget log z =
    rw (eq-eqb (run_refusal image d s events).number 0 z) (image_run_ends image d s events budget (length log))

-- ---- the two calls
module _ (image device sequencer events : List ℕ) (a b : ℕ) (log : List ℕ) (both : (holds_device device && holds_sequencer sequencer) ≡ true)
    (spent : (run_answer image (device_from device) (sequencer_from sequencer) events a log).outcome ≡ 19)
    (back : LoadsBack (run_answer image (device_from device) (sequencer_from sequencer) events a log)) where
  abbrev d : Device
  d = device_from device

  abbrev s : Sequencer
  s = sequencer_from sequencer

  abbrev first : RunResult
  first = run_answer image d s events a log

  abbrev first_log : List ℕ
  first_log = log_after image d s events a log

  abbrev whole : RunResult
  whole = run_answer image d s events (a + b) log

  abbrev left : List ℕ
  left = drop first.taken events

  abbrev free : List ℕ
  free = drop first.logged first_log

  abbrev second : RunResult
  second = run_answer image first.device first.sequencer left b free

  size : length device ≡ state_size
  size = holds_length device (and_left (holds_device device) (holds_sequencer sequencer) both)

  holds : holds_sequencer sequencer ≡ true
  holds = and_right (holds_device device) (holds_sequencer sequencer) both

  goes : is_refusal whole.outcome ≡ false
  goes = ends image d s events (a + b) log (not_refused image d s events a log spent)

  -- what the first call leaves
  first_is : saved_run image device sequencer events a log ≡ after_run (exported_run first) (state_bytes first.device) (sequencer_bytes first.sequencer) first_log
  first_is = held image device sequencer events a log both ∙ rw (spent, saved_device first.device device size, saved_sequencer first.sequencer sequencer holds)

  -- the second call starts from it
  second_is :
      saved_run image (state_bytes first.device) (sequencer_bytes first.sequencer) left b free
      ≡ ran_from second (state_bytes first.device) (sequencer_bytes first.sequencer) (log_after image first.device first.sequencer left b free)
  second_is =
      rw (back.device_back, back.sequencer_back) at
      (held image (state_bytes first.device) (sequencer_bytes first.sequencer) left b free (rw (holds_bytes first.device)))

  sums : AddUp first second whole first_log (log_after image first.device first.sequencer left b free) (log_after image d s events (a + b) log)
  sums = (resume_correct.budgets_add image d s events a b log spent).0

  added :
      SavedAddUp (after_run (exported_run first) (state_bytes first.device) (sequencer_bytes first.sequencer) first_log)
      (saved_run image (state_bytes first.device) (sequencer_bytes first.sequencer) left b free)
      (saved_run image device sequencer events (a + b) log)
  added =
      let same : is_refusal second.outcome ≡ false = rw sums.same_outcome at goes in
      rw (second_is, held image device sequencer events (a + b) log both)
      (record {
        same_outcome = sums.same_outcome;
        same_place = sums.same_place;
        same_outputs = rw (sums.same_outcome, sums.same_device);
        steps_added = sums.steps_added;
        taken_added = sums.taken_added;
        logged_added = sums.logged_added;
        same_device = rw (goes, same) (saved_device whole.device device size ∙ ap state_bytes sums.same_device
            ∙ sym (saved_device second.device (state_bytes first.device) (state_length first.device)));
        same_sequencer = rw (goes, same) (saved_sequencer whole.sequencer sequencer holds ∙ ap sequencer_bytes sums.same_sequencer
            ∙ sym (saved_sequencer second.sequencer (sequencer_bytes first.sequencer) refl));
        same_log = sums.same_log;
      })

pub resume_saved : ResumeSaved
resume_saved = record {
  budgets_add = λ image device sequencer events a b log spent back.
      let both = spent_held image device sequencer events a log spent in
      let z = ap (λ (x : AfterRun). x.answer.outcome) (sym (held image device sequencer events a log both)) ∙ spent in
      rw (first_is image device sequencer events a b log both z back) (added image device sequencer events a b log both z back);
}
