-- The run of an image follows the walk of a script: at every budget and every length of the log it ends as the walk does (`Follows`). Here is
-- one step of both: the budget is spent, or both go on, stop at a fault, or halt.
use Prim.Native.Nat.{ℕ, zero, suc, ◌+◌}
use mathlib.Core.Path.{◌≡◌, refl}
use mathlib.Core.Bool.{cond}
use mathlib.Core.List.{List, []}
use native.Mathlib.Omega.{arith}
use borrow.Author.Tests.{le-ltb, lt-ltb}
use lib.Dec.{ltb}
use Rattle.interpreter.specs.Walk.{WalkEnd, halt, walk_end}
use Rattle.semantics.specs.OwnRun.{Run, run}
use Rattle.semantics.specs.World.{World}
use Rattle.sequencer.specs.Run.{RunEnd, follow, run_end, run_from}
use Rattle.step.specs.Step.{continues, faults, halts, machine, next_step}

-- the walk and the run of the image end alike; if they halt, the run is on the last word with no counter in use
pub record SameEnd (last : ℕ) (walked : WalkEnd) (ran : RunEnd) : Type 0 where
  pub same_outcome : walked.outcome ≡ ran.outcome
  pub same_steps : walked.run.steps ≡ ran.steps
  pub same_world : walked.run.world ≡ ran.machine.world
  pub on_last : walked.outcome ≡ 0 → last ≡ ran.machine.place
  pub no_counter : walked.outcome ≡ 0 → [] ≡ ran.machine.counters

-- from this place with these counters, in the world of r and with the budget that its steps leave, the run of the image ends as x
pub record Follows (image : List ℕ) (budget room last at : ℕ) (cs : List ℕ) (r : Run) (x : WalkEnd) : Type 0 where
  pub ends : (left : ℕ) → left + r.steps ≡ budget → SameEnd last x (run_from image room left r.steps (machine at cs r.world))

-- both have stopped before the end
stopped : {last at : ℕ} {cs : List ℕ} {r : Run} (n : ℕ) → (n ≡ 0 → ⊥)
    → SameEnd last (walk_end n r) (run_end n r.steps (machine at cs r.world))
stopped n some = record {
  same_outcome = refl;
  same_steps = refl;
  same_world = refl;
  on_last = λ e. absurd (some e);
  no_counter = λ e. absurd (some e);
}

module _ {image : List ℕ} {budget room last at : ℕ} {cs : List ℕ} {r : Run} where
  -- "Budget is looked at first"
  budgeted : {x : WalkEnd}
      → ((left : ℕ) → left + suc r.steps ≡ budget
      → SameEnd last x
      (follow (run_from image room left (suc r.steps)) r.steps (machine at cs r.world) (next_step image room (machine at cs r.world))))
      → Follows image budget room last at cs r (cond (ltb r.steps budget) x (walk_end 19 r))
  budgeted {x} h = record { ends = from }
    where
      from : (left : ℕ) → left + r.steps ≡ budget
          → SameEnd last (cond (ltb r.steps budget) x (walk_end 19 r)) (run_from image room left r.steps (machine at cs r.world))
      from zero e = rw (le-ltb r.steps budget (omega arith)) (stopped 19 (omega arith))
      from (suc left) e = rw (lt-ltb r.steps budget (omega arith)) (h left (omega arith))

  pub goes_on : {at' : ℕ} {cs' : List ℕ} {world : World} {x : WalkEnd}
      → next_step image room (machine at cs r.world) ≡ continues (machine at' cs' world)
      → Follows image budget room last at' cs' (run world (suc r.steps)) x
      → Follows image budget room last at cs r (cond (ltb r.steps budget) x (walk_end 19 r))
  goes_on h k = budgeted (λ left e. rw h (k.ends left e))

  pub faults_there : {n : ℕ} → next_step image room (machine at cs r.world) ≡ faults n → (n ≡ 0 → ⊥)
      → Follows image budget room last at cs r (cond (ltb r.steps budget) (walk_end n r) (walk_end 19 r))
  faults_there {n} h some = budgeted (λ left e. rw h (stopped n some))

pub halts_there : {image : List ℕ} {budget room last : ℕ} {r : Run} → next_step image room (machine last [] r.world) ≡ halts
    → Follows image budget room last last [] r (halt budget r)
halts_there h =
    budgeted
    (λ left e.
    rw h (record { same_outcome = refl; same_steps = refl; same_world = refl; on_last = λ z. refl; no_counter = λ z. refl }))
