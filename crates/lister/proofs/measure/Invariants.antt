-- Before each record `measure` keeps `Measuring`.
use Rattle.lister.proofs.Lines.{Measuring}
use Rattle.lister.proofs.measure.Given as goal

abbrev pub invariant-loop-k : goal.invariant-loop-k
invariant-loop-k l = Measuring l.script l.depth l.length l.k
