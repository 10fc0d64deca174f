-- `read_operands` reads the numbers one after the other. At each turn, those that were read and those that are left are all numbers of the text.
use Rattle.statement.proofs.Operands.{Reading}
use Rattle.statement.proofs.read_operands.Given as goal

abbrev pub invariant-loop-k : goal.invariant-loop-k
invariant-loop-k l = Reading l.count l.s l.k l.values l.rest
