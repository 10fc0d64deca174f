-- `read_lines` reads line after line and keeps `Reading`. It stops at a bad line or at the end of the text.
use Prim.Native.Nat.{◌-◌}
use lib.ListN.{length}
use Rattle.assembler.proofs.Writing.{Reading}
use Rattle.assembler.proofs.read_lines.Given as goal

abbrev pub invariant-loop-at : goal.invariant-loop-at
invariant-loop-at l = Reading l.text l.initial.records l.records l.at l.line l.written

abbrev pub decreases-loop-at : goal.decreases-loop-at
decreases-loop-at l = length l.text - l.at
