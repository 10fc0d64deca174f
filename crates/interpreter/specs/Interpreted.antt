-- What the result of the call `interpret` is in the numbers of document 01.
use Rattle.std.specs.Prelude.{Result, Ok, Err}
use Rattle.device.specs.declared.Device.{Device}
use Rattle.outcome.specs.Refused.{ending_number, refusal_of}
use Rattle.outcome.specs.declared.Refused.{Refused}
use Rattle.interpreter.specs.Interpret.{InterpretResult, refused_interpret}
use Rattle.interpreter.specs.declared.InterpretResult as code

-- the answer of a walk
abbrev pub interpret_of : code.InterpretResult → InterpretResult
interpret_of r = record {
  outcome = ending_number r.ending;
  place = 0;
  steps = r.steps;
  taken = r.taken;
  logged = r.logged;
  device = r.device;
}

-- the result of the call for this device, which a refusal leaves as it is
abbrev pub interpreted : Device → Result code.InterpretResult Refused → InterpretResult
interpreted d (Ok r) = interpret_of r
interpreted d (Err f) = refused_interpret (refusal_of f) d
