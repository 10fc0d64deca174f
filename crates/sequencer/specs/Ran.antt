-- What the result of the call `sequencer::run` is in the numbers of document 01.
use Rattle.std.specs.Prelude.{Result, Ok, Err}
use Rattle.device.specs.declared.Device.{Device}
use Rattle.outcome.specs.Refused.{ending_number, refusal_of}
use Rattle.outcome.specs.declared.Refused.{Refused}
use Rattle.sequencer.specs.Run.{RunResult, refused_run}
use Rattle.sequencer.specs.declared.RunResult as code
use Rattle.step.specs.declared.Sequencer.{Sequencer}

-- the answer of a run that is not refused
abbrev pub run_of : code.RunResult → RunResult
run_of r = record {
  outcome = ending_number r.ending;
  place = 0;
  steps = r.steps;
  taken = r.taken;
  logged = r.logged;
  sequencer = r.sequencer;
  device = r.device;
}

-- the result of a run from this device and this sequencer, which a refusal leaves as they are
abbrev pub ran : Device → Sequencer → Result code.RunResult Refused → RunResult
ran d s (Ok r) = run_of r
ran d s (Err f) = refused_run (refusal_of f) d s
