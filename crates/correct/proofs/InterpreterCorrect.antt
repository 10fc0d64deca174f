-- The interpreter is correct, by the same simulation as the top theorem: the run of the words ends as the walk does (`whole_walk`), whatever
-- ends it. `run` and the interpreter refuse the same, and the own run is that of `own_walk`.
use Prim.Native.Nat.{ℕ, ◌*◌, ◌-◌, ◌≤◌}
use mathlib.Core.Path.{◌≡◌, refl, ap, ◌∙◌}
use mathlib.Core.Bool.{Bool, true, false, cond, not, ◌&&◌}
use mathlib.Core.List.{List}
use native.Mathlib.Omega.{arith}
use borrow.Author.Tests.{eq-eqb, ne_eqb}
use lib.Dec.{eqb}
use lib.ListN.{length}
use Rattle.compiler.proofs.Compiling.{accepts_all, refuses_not}
use Rattle.compiler.specs.Compile.{compile_refusal, compile_result}
use Rattle.compiler.specs.Words.{words_of}
use Rattle.device.specs.Device.{device_in_range}
use Rattle.device.specs.declared.Device.{Device}
use Rattle.interpreter.specs.Interpret.{interpret_log, interpret_refusal, interpret_result, refused_interpret, walk_result}
use Rattle.interpreter.specs.Walk.{WalkEnd}
use Rattle.outcome.specs.Refusal.{Refusal, refusal}
use Rattle.record.specs.Record.{most_records, record_size}
use Rattle.script.proofs.Flat.{accepts}
use Rattle.script.specs.Refusals.{script_refusal}
use Rattle.semantics.specs.World.{World}
use Rattle.sequencer.specs.Run.{RunEnd, bad_image, events_refusal, log_after, refused_run, run_answer, run_refusal, run_result}
use Rattle.step.specs.Sequencer.{fresh_sequencer}
use Rattle.step.specs.Step.{log_filled}
use Rattle.correct.specs.CompilerCorrect.{Bytes, words_written}
use Rattle.correct.specs.InterpreterCorrect.{InterpreterCorrect, SameAnswer}
use Rattle.correct.proofs.Follows.{SameEnd}
use Rattle.correct.proofs.Suffices.{own_walk}
use Rattle.correct.proofs.WholeRun.{fresh_in_range, good_image, whole_walk, words_many, written_are}

-- t: nothing is refused
answers_same :
    {last : ℕ} {x : WalkEnd} {e : RunEnd} (t : Bool) (f : Refusal) (d : Device) (events log : List ℕ) → (t ≡ true → SameEnd last x e)
    → SameAnswer (cond t (walk_result events x) (refused_interpret f d)) (cond t (run_result events e) (refused_run f d fresh_sequencer))
    × (cond t (log_filled x.run.world.logged log) log ≡ cond t (log_filled e.machine.world.logged log) log)
answers_same true f d events log h =
    let s = h refl in (
      record {
        same_outcome = s.same_outcome;
        same_place = refl;
        same_steps = s.same_steps;
        same_taken = ap (λ (w : World). length events - length w.events) s.same_world;
        same_logged = ap (λ (w : World). length w.logged) s.same_world;
        same_device = ap (λ (w : World). w.device) s.same_world;
      },
      ap (λ (w : World). log_filled w.logged log) s.same_world,
    )
answers_same false f d events log h = (
  record { same_outcome = refl; same_place = refl; same_steps = refl; same_taken = refl; same_logged = refl; same_device = refl },
  refl,
)

-- ---- an accepted script: `run` refuses what the interpreter refuses
same_refusal_lem :
    (script buffer : List ℕ) (d : Device) (events : List ℕ) → (compile_result script buffer).refusal ≡ 0
    → run_refusal (words_written script buffer) d fresh_sequencer events ≡ interpret_refusal script d events
unfolding run_refusal interpret_refusal
same_refusal_lem script buffer d events accepted =
    let z = (refuses_not script buffer accepted).0 in
    let many = words_many script z in
    let good : bad_image (words_written script buffer) ≡ false =
    ap bad_image (written_are script buffer accepted) ∙ good_image (words_of script) (omega arith) (omega arith) in
    rw (good, eq-eqb (script_refusal script).number 0 z, fresh_in_range) (judged (device_in_range d))
  where
    judged : (b : Bool)
        → cond (not (b && true)) (refusal 11 0) (events_refusal events) ≡ cond b (events_refusal events) (refusal 11 0)
    judged true = refl
    judged false = refl

same_run_lem :
    (script buffer : List ℕ) (d : Device) (events : List ℕ) (budget : ℕ) (log : List ℕ) → Bytes script
    → (compile_result script buffer).refusal ≡ 0
    → SameAnswer (interpret_result script d events budget log) (run_answer (words_written script buffer) d fresh_sequencer events budget log)
    × (interpret_log script d events budget log ≡ log_after (words_written script buffer) d fresh_sequencer events budget log)
unfolding interpret_result interpret_log run_answer log_after
same_run_lem script buffer d events budget log bytes accepted =
    rw (same_refusal_lem script buffer d events accepted, written_are script buffer accepted)
    (answers_same (eqb (interpret_refusal script d events).number 0) (interpret_refusal script d events) d events log
    (λ h. whole_walk script d events budget (length log) bytes (refuses_not script buffer accepted).0))

-- ---- a refused script. It is never refused with 9, because a buffer of 12,288 bytes is long enough for 1,024 words
script_refused :
    (script buffer : List ℕ) → record_size * most_records ≤ length buffer → ((compile_result script buffer).refusal ≡ 0 → ⊥)
    → (script_refusal script).number ≡ 0 → ⊥
script_refused script buffer l n z =
    n (accepts_all script buffer z (let w = (accepts script z).few_words_lem in omega (arith, w, l)))

refused_alike :
    (script buffer : List ℕ) (d : Device) (events : List ℕ) (budget : ℕ) (log : List ℕ) → record_size * most_records ≤ length buffer
    → ((compile_result script buffer).refusal ≡ 0 → ⊥)
    → (interpret_result script d events budget log ≡ refused_interpret (refusal (compile_result script buffer).refusal (compile_result script buffer).place) d)
    × (interpret_log script d events budget log ≡ log)
unfolding interpret_result interpret_log interpret_refusal compile_result compile_refusal
refused_alike script buffer d events budget log l n =
    let k = ne_eqb (script_refusal script).number 0 (script_refused script buffer l n) in
    (rw (k, k), rw (k, k))

pub interpreter_correct : InterpreterCorrect
interpreter_correct = record {
  same_run = λ script buffer d events budget log bytes accepted.
      let c = same_run_lem script buffer d events budget log bytes accepted in
      let s = whole_walk script d events budget (length log) bytes (refuses_not script buffer accepted).0 in
      (c.0, c.1, rw (written_are script buffer accepted) (ap (λ (x : World). x.accesses) s.same_world));
  same_refusal = refused_alike;
  own_run = λ script d events budget room. own_walk budget room script d events;
}
