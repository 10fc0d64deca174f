-- How the state of the code represents a run, and what each function of src/walk.rt does to it. Only contracts and proofs inside this crate use
-- this file.
use Rattle.std.specs.Prelude.{ℕ, ◌+◌, ◌≤◌, ◌≡◌, Bool, cond, ◌&&◌, ◌||◌, List, eqb, leb, drop, length}
use Rattle.device.specs.declared.Device.{Device}
use Rattle.outcome.specs.declared.Ending.{Ending}
use Rattle.script.specs.Kind as kind
use Rattle.semantics.specs.World.{World}
use Rattle.step.specs.Effects.{enter_counters, enter_result, loop_end_counters, loop_end_result}
use Rattle.step.specs.Step.{log_filled}
use Rattle.step.specs.declared.execute.ControlResult.{ControlResult}
use Rattle.step.specs.declared.execute.Position.{Position}
use Rattle.interpreter.specs.Interpret.{walk_result}
use Rattle.interpreter.specs.Interpreted.{interpret_of}
use Rattle.interpreter.specs.Walk.{WalkEnd}
use Rattle.interpreter.specs.declared.InterpretResult as code

-- the device d, n events taken, k values logged, and the log of the code are those of w; `lent` is the log before the walk
pub record Holds (events lent : List ℕ) (d : Device) (n k : ℕ) (log : List ℕ) (w : World) : Type 0 where
  pub device : d ≡ w.device
  pub left : drop n events ≡ w.events
  pub inside : n ≤ length events
  pub logged : k ≡ length w.logged
  pub lines : log ≡ log_filled w.logged lent

-- the answer r, and the log log' after the walk, are those of the end e
pub record EndsAs (events log log' : List ℕ) (r : code.InterpretResult) (e : WalkEnd) : Type 0 where
  pub answered : interpret_of r ≡ walk_result events e
  pub lines : log' ≡ log_filled e.run.world.logged log

-- the answer of the code
abbrev pub walk_answer : Ending → (steps : ℕ) → Device → (taken logged : ℕ) → code.InterpretResult
walk_answer ending steps d taken logged = record {
  ending = ending;
  steps = steps;
  taken = taken;
  logged = logged;
  device = d;
}

-- ---- repeat, else and end: the records that make no access and no delay. What they change, and whether they count a step: 1 or 0
pub record Passed : Type 0 where
  pub used : ℕ
  pub place : ℕ
  pub steps : ℕ

abbrev pub passed : (used place steps : ℕ) → Passed
passed used place steps = record { used = used; place = place; steps = steps }

abbrev pub counted : ControlResult → Passed
counted r = passed r.used r.place 1

unfoldable pub pass_result : Position → (kind value partner : ℕ) → List ℕ → Passed
pass_result x k value partner counters =
    cond (eqb k kind.repeat) (counted (enter_result x value partner))
    (cond (eqb k kind.else) (passed x.used partner 1)
    (cond (eqb partner 0) (passed x.used (x.place + 1) 0) (counted (loop_end_result x partner counters))))

unfoldable pub pass_counters : Position → (kind value partner : ℕ) → List ℕ → List ℕ
pass_counters x k value partner counters =
    cond (eqb k kind.repeat) (enter_counters x value counters)
    (cond (eqb k kind.else) counters (cond (eqb partner 0) counters (loop_end_counters x counters)))

-- ---- records that access the device: write, read and if
abbrev pub is_access : ℕ → Bool
is_access k = leb k kind.read || eqb k kind.if

-- 24: a read finds the log full
abbrev pub log_full : (room logged kind : ℕ) → Bool
log_full room logged k = eqb k kind.read && leb room logged
