-- A run that is not refused ends with a number that is no refusal: 0, 19, or a fault from 20 to 24. So it is at most 24.
use Prim.Native.Nat.{ℕ, zero, suc}
use mathlib.Core.Path.{◌≡◌, refl}
use mathlib.Core.Bool.{false, true}
use mathlib.Core.List.{List}
use lib.Dec.{eqb, leb}
use lib.ListN.{length}
use Rattle.device.specs.declared.Device.{Device}
use Rattle.mask.proofs.Branch.{branch}
use Rattle.outcome.specs.Ending as ending
use Rattle.record.specs.declared.Record.{Record}
use Rattle.semantics.specs.World.{start_world}
use Rattle.sequencer.specs.Run.{follow, image_run, is_refusal, run_from}
use Rattle.step.specs.Sequencer.{counters_of}
use Rattle.step.specs.Step.{
  Machine,
  Step,
  continues,
  fault_at,
  faults,
  halts,
  log_full,
  machine,
  next_step,
  ninth_counter,
  no_counter,
  target_beyond,
  word_fault,
}
use Rattle.step.specs.Word.{bad_word, image_words, word_at}
use Rattle.step.specs.declared.Sequencer.{Sequencer}

abbrev Ending : ℕ → Type 0
Ending n = (is_refusal n ≡ false) × (leb n ending.log_full ≡ true)

fault_ends : (words room used logged : ℕ) (r : Record) → Ending (word_fault words room used logged r)
unfolding word_fault
fault_ends words room used logged r =
    branch Ending (bad_word r) (refl, refl)
    (branch Ending (target_beyond words r) (refl, refl)
    (branch Ending (ninth_counter used r) (refl, refl)
    (branch Ending (no_counter used r) (refl, refl) (branch Ending (log_full room logged r) (refl, refl) (refl, refl)))))

-- the fault of a step, if it has one
abbrev StepEnds : Step → Type 0
StepEnds (continues m) = Unit {0}
StepEnds halts = Unit {0}
StepEnds (faults f) = Ending f

step_ends : (image : List ℕ) (room : ℕ) (m : Machine) → StepEnds (next_step image room m)
unfolding next_step
step_ends image room m =
    branch StepEnds (leb (image_words image) m.place) (refl, refl)
    (branch StepEnds (eqb (fault_at image room m) 0) (branch StepEnds (eqb (word_at image m.place).kind 8) tt tt)
    (fault_ends (image_words image) room (length m.counters) (length m.world.logged) (word_at image m.place)))

run_ends : (image : List ℕ) (room left steps : ℕ) (m : Machine) → Ending (run_from image room left steps m).outcome
run_ends image room zero steps m = (refl, refl)
run_ends image room (suc left) steps m =
    pick (λ n. run_ends image room left (suc steps) n) (next_step image room m) (step_ends image room m)
  where
    pick : ((n : Machine) → Ending (run_from image room left (suc steps) n).outcome) → (s : Step) → StepEnds s
        → Ending (follow (run_from image room left (suc steps)) steps m s).outcome
    pick i (continues n) e = i n
    pick i halts e = (refl, refl)
    pick i (faults f) e = e

module _ (image : List ℕ) (d : Device) (s : Sequencer) (events : List ℕ) (budget room : ℕ) where
  image_run_ending : Ending (image_run image d s events budget room).outcome
  unfolding image_run
  image_run_ending = run_ends image room budget 0 (machine s.place (counters_of s) (start_world d events))

  pub image_run_ends : is_refusal (image_run image d s events budget room).outcome ≡ false
  image_run_ends = image_run_ending.0

  pub image_run_most : leb (image_run image d s events budget room).outcome ending.log_full ≡ true
  image_run_most = image_run_ending.1
