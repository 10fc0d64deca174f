-- `run_answer` and `log_after` at the two returns of `run`: after a refusal, and after `run_words`.
use Prim.Native.Nat.{ℕ, ◌%◌, ◌≤◌}
use mathlib.Core.Path.{◌≡◌, refl, ap, ◌∙◌}
use mathlib.Core.Bool.{Bool, true, false, cond, not, ◌&&◌}
use mathlib.Core.List.{List}
use native.Mathlib.Omega.{arith}
use borrow.Author.Tests.{ltb-false, ne_eqb, not-false}
use lib.Dec.{eqb}
use lib.ListN.{length}
use Rattle.device.specs.Device.{device_in_range}
use Rattle.device.specs.declared.Device.{Device}
use Rattle.mask.proofs.Every.{and_left, and_right}
use Rattle.outcome.proofs.Numbers.{refusal_number_above}
use Rattle.outcome.specs.Refusal.{Refusal, refusal}
use Rattle.outcome.specs.Refused.{refusal_of}
use Rattle.outcome.specs.declared.Refused.{Refused}
use Rattle.sequencer.specs.Ends.{EndsAs}
use Rattle.sequencer.specs.Ran.{run_of}
use Rattle.sequencer.specs.Run.{
  bad_image,
  bad_state,
  events_refusal,
  image_run,
  log_after,
  run_answer,
  run_refusal,
  refused_run,
}
use Rattle.step.specs.Sequencer.{sequencer_in_range}
use Rattle.step.specs.Word.{image_words}
use Rattle.sequencer.specs.declared.RunResult as code
use Rattle.step.specs.declared.Sequencer.{Sequencer}
use Rattle.step.proofs.Faults.{or_right}

-- a refusal is the answer, and the log is unchanged
pub refused :
    (image : List ℕ) (d : Device) (s : Sequencer) (events : List ℕ) (budget : ℕ) (log : List ℕ) (f : Refusal)
    → f ≡ run_refusal image d s events → (f.number ≡ 0 → ⊥)
    → (refused_run (refusal f.number f.place) d s ≡ run_answer image d s events budget log)
    × (log ≡ log_after image d s events budget log)
unfolding run_answer log_after
refused image d s events budget log f e n =
    let k = ne_eqb (run_refusal image d s events).number 0 (λ z. n (ap (λ (x : Refusal). x.number) e ∙ z)) in
    (rw (e, k), rw k)

-- the same for a refusal of the code, whose number is never 0
pub refused_by_code :
    (image : List ℕ) (d : Device) (s : Sequencer) (events : List ℕ) (budget : ℕ) (log : List ℕ) (f : Refused)
    → refusal_of f ≡ run_refusal image d s events
    → (refused_run (refusal_of f) d s ≡ run_answer image d s events budget log) × (log ≡ log_after image d s events budget log)
refused_by_code image d s events budget log f e = refused image d s events budget log (refusal_of f) e (refusal_number_above f.kind)

-- without a refusal, the end of `run_words` is the answer
pub done :
    (image : List ℕ) (d : Device) (s : Sequencer) (events : List ℕ) (budget : ℕ) (log log' : List ℕ) (r : code.RunResult)
    → (run_refusal image d s events).number ≡ 0
    → EndsAs events log log' r (image_run image d s events budget (length log))
    → (run_of r ≡ run_answer image d s events budget log) × (log' ≡ log_after image d s events budget log)
unfolding run_answer log_after
done image d s events budget log log' r z h = (rw z h.answered, rw z h.lines)

-- what holds at the start of a run that is not refused
pub record Allowed (image : List ℕ) (d : Device) (s : Sequencer) (events : List ℕ) : Type 0 where
  pub image_good : bad_image image ≡ false
  pub device_good : device_in_range d ≡ true
  pub sequencer_good : sequencer_in_range s ≡ true
  pub events_good : (events_refusal events).number ≡ 0

pub allowed :
    (image : List ℕ) (d : Device) (s : Sequencer) (events : List ℕ) → (run_refusal image d s events).number ≡ 0
    → Allowed image d s events
unfolding run_refusal
allowed image d s events h = pick (bad_image image) (bad_state d s) refl refl h
  where
    pick : (a b : Bool) → bad_image image ≡ a → bad_state d s ≡ b
        → ◌≡◌ {A = ℕ} (cond a (refusal 10 0) (cond b (refusal 11 0) (events_refusal events))).number 0
        → Allowed image d s events
    pick true b p q z = absurd (omega (arith, z))
    pick false true p q z = absurd (omega (arith, z))
    pick false false p q z =
        let g = not-false (device_in_range d && sequencer_in_range s) q in
        record {
          image_good = p;
          device_good = and_left (device_in_range d) (sequencer_in_range s) g;
          sequencer_good = and_right (device_in_range d) (sequencer_in_range s) g;
          events_good = z;
        }

pub few_words_lem : (image : List ℕ) → bad_image image ≡ false → image_words image ≤ 1024
few_words_lem image h = ltb-false 1024 (image_words image) (or_right (not (eqb (length image % 12) 0)) _ (or_right (eqb (length image) 0) _ h))
