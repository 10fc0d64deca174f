-- `walk_script` walks through the script as `script_walk` does. Each record keeps the loop invariant `Walking`. Each turn counts a step, except at the
-- end of an if, which moves on to a later place.
use Prim.Native.Nat.{◌+◌, ◌-◌, ◌*◌}
use lib.ListN.{length}
use Rattle.interpreter.specs.Walk.{script_walk}
use Rattle.interpreter.proofs.Walking.{Walking}
use Rattle.interpreter.proofs.walk.walk_script.Given as goal

abbrev pub invariant-loop-steps : goal.invariant-loop-steps
invariant-loop-steps l =
    Walking l.script l.partners (script_walk l.script l.fn.device l.events l.budget (length l.initial.log)) l.events l.initial.log l.budget l.log l.last.device l.position
    l.counters l.steps

abbrev pub decreases-loop-steps : goal.decreases-loop-steps
decreases-loop-steps l =
    (l.budget - l.steps) * 1025 + (1024 - l.position.place)
