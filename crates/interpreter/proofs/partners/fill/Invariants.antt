-- `fill` makes the table of the script: each record keeps the loop invariant `Filling`.
use Rattle.interpreter.proofs.Filling.{Filling}
use Rattle.interpreter.proofs.partners.fill.Given as goal

abbrev pub invariant-loop-place : goal.invariant-loop-place
invariant-loop-place l = Filling l.script l.count l.table l.closers l.place
