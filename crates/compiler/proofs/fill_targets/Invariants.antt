-- Before each record `fill_targets` keeps `Filling`.
use Rattle.compiler.proofs.Filling.{Filling}
use Rattle.compiler.proofs.fill_targets.Given as goal

abbrev pub invariant-loop-k : goal.invariant-loop-k
invariant-loop-k l = Filling l.script l.targets l.open l.place l.k
