-- The state of the code at the start and at the end of a run. Only contracts inside this crate, and their proofs, use this
-- file.
use Rattle.std.specs.Prelude.{ℕ, ◌≡◌, List}
use Rattle.device.specs.declared.Device.{Device}
use Rattle.outcome.specs.declared.Ending.{Ending}
use Rattle.step.specs.Represents.{Represents, RunState, run_state}
use Rattle.step.specs.Sequencer.{counters_of, counter_array}
use Rattle.step.specs.Step.{log_filled, machine}
use Rattle.step.specs.declared.Sequencer.{Sequencer}
use Rattle.step.specs.declared.execute.Position.{Position}
use Rattle.semantics.specs.World.{start_world}
use Rattle.sequencer.specs.Ran.{run_of}
use Rattle.sequencer.specs.Run.{RunEnd, run_result}
use Rattle.sequencer.specs.declared.RunResult as code

-- x is the position at the start of a run from s, with any device, event list and log
abbrev pub Starts : Sequencer → Position → Type 0
Starts s x =
    (d : Device) (events lent : List ℕ)
    → Represents (run_state d x (counter_array (counters_of s))) events lent lent (machine s.place (counters_of s) (start_world d events))

-- the answer of the code from state x
abbrev pub answer : Ending → (steps : ℕ) → RunState → code.RunResult
answer ending steps x = record {
  ending = ending;
  steps = steps;
  taken = x.taken;
  logged = x.logged;
  sequencer = record { place = x.place; counters = x.counters; used = x.used };
  device = x.device;
}

-- the answer r, and the log log' after the run, are those of the end e
pub record EndsAs (events log log' : List ℕ) (r : code.RunResult) (e : RunEnd) : Type 0 where
  pub answered : run_of r ≡ run_result events e
  pub lines : log' ≡ log_filled e.machine.world.logged log
