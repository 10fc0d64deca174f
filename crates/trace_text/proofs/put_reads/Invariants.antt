use Rattle.std.proofs.Common.{◌≡◌, take}
use Rattle.digits.specs.Written.{writes}
use Rattle.trace_text.specs.Printed.{reads_text}
use Rattle.trace_text.proofs.put_reads.Given as goal

-- the lines of the entries so far are put
abbrev pub invariant-loop-entry : goal.invariant-loop-entry
invariant-loop-entry l = l.text ≡ writes (reads_text (take l.entry-index l.log)) l.initial.text
