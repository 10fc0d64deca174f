-- `find_line` goes from line to line. At each turn the line that it looks for is one of those that are left.
use Rattle.assembler.proofs.FindLine.{Seeking}
use Rattle.assembler.proofs.find_line.Given as goal

abbrev pub invariant-loop-k : goal.invariant-loop-k
invariant-loop-k l = Seeking l.text l.place l.at l._k
