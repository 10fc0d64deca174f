-- `number_of` returns the number of digits of a base. At each turn, the digits that are left complete it.
use Rattle.statement.proofs.Stopped.{Reads}
use Rattle.statement.proofs.number_of.Given as goal

abbrev pub invariant-loop-b : goal.invariant-loop-b
invariant-loop-b l = Reads l.digits l.base l.value l.b-index
