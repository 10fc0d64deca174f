-- The call `interpret`: its refusals, its answer, and the log after it. See docs/CHIP.md, "Interpreting a script" and "Refusals".
use Rattle.std.specs.Prelude.{ℕ, ◌-◌, cond, List, eqb, length}
use Rattle.device.specs.Device.{device_in_range}
use Rattle.device.specs.declared.Device.{Device}
use Rattle.outcome.specs.Number as number
use Rattle.outcome.specs.Refusal.{Refusal, refusal}
use Rattle.script.specs.Refusals.{script_refusal}
use Rattle.sequencer.specs.Run.{events_refusal}
use Rattle.step.specs.Step.{log_filled}
use Rattle.interpreter.specs.Walk.{WalkEnd, script_walk}

-- "Refusals: the script's 1 to 8, then 11 for the device and 12." They are those of compiling, and then of running from a fresh sequencer (`same_run`
-- and `same_refusal` of `InterpreterCorrect` in `correct`)
unfoldable pub interpret_refusal : List ℕ → Device → List ℕ → Refusal
interpret_refusal script d events =
    cond (eqb (script_refusal script).number 0) (cond (device_in_range d) (events_refusal events) (refusal number.bad_state 0))
    (script_refusal script)

-- the answer of the call in the numbers of document 01: `outcome` is the ending or the number of a refusal, `place` the place of a refusal, 0 for
-- an ending
pub record InterpretResult : Type 0 where
  pub outcome : ℕ
  pub place : ℕ
  pub steps : ℕ
  pub taken : ℕ
  pub logged : ℕ
  pub device : Device

abbrev pub walk_result : List ℕ → WalkEnd → InterpretResult
walk_result events e = record {
  outcome = e.outcome;
  place = 0;
  steps = e.run.steps;
  taken = length events - length e.run.world.events;
  logged = length e.run.world.logged;
  device = e.run.world.device;
}

-- "A refusal's other numbers are 0, events taken too"
abbrev pub refused_interpret : Refusal → Device → InterpretResult
refused_interpret f d = record {
  outcome = f.number;
  place = f.place;
  steps = 0;
  taken = 0;
  logged = 0;
  device = d;
}

unfoldable pub interpret_result : List ℕ → Device → List ℕ → ℕ → List ℕ → InterpretResult
interpret_result script d events budget log =
    cond (eqb (interpret_refusal script d events).number 0) (walk_result events (script_walk script d events budget (length log)))
    (refused_interpret (interpret_refusal script d events) d)

-- the log after the call; a refusal leaves it unchanged
unfoldable pub interpret_log : List ℕ → Device → List ℕ → ℕ → List ℕ → List ℕ
interpret_log script d events budget log =
    cond (eqb (interpret_refusal script d events).number 0)
    (log_filled (script_walk script d events budget (length log)).run.world.logged log) log
