-- `run_words` ends as `image_run` does. The loop invariant (LoopInvariant.antt): the run from the current state, with the rest
-- of the budget, ends as the whole run does. Each word that neither faults nor halts keeps it, by the contract of the
-- function that executes it.
use lib.ListN.{length}
use Rattle.step.specs.Represents.{run_state}
use Rattle.sequencer.specs.Run.{image_run}
use Rattle.sequencer.proofs.LoopInvariant.{LoopInvariant}
use Rattle.sequencer.proofs.run_words.Given as goal

abbrev pub invariant-loop-steps : goal.invariant-loop-steps
invariant-loop-steps l =
    LoopInvariant l.image (image_run l.image l.fn.device l.fn.sequencer l.events l.budget (length l.initial.log)) l.events l.initial.log l.budget l.log
    (run_state l.last.device l.position l.counters) l.steps
