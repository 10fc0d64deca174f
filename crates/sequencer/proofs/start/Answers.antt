-- `start` returns the position at which a run from a valid sequencer starts: nothing taken, nothing logged.
use native.Mathlib.Omega.{arith}
use Rattle.step.proofs.CounterArray.{used_few, used_length}
use mathlib.Core.Path.{refl}
use Rattle.sequencer.proofs.start.Goals as goal

pub returns : goal.returns
returns c = λ d events lent.
    let s = c.args.sequencer in
    let h = c.requires in
    record {
      device = refl;
      place = refl;
      counters = refl;
      used = used_length s;
      few = omega (arith, used_few s h, used_length s);
      taken = refl;
      inside = omega arith;
      logged = refl;
      lines = refl;
    }
