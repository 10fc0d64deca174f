-- Before each record `emit` keeps `Emitting`: the words so far are written, and the rest of the script gives the words that are missing.
use Rattle.std.proofs.Common.{◌/◌, length}
use Rattle.compiler.proofs.Emitting.{Emitting}
use Rattle.compiler.proofs.emit.Given as goal

abbrev pub invariant-loop-k : goal.invariant-loop-k
invariant-loop-k l = Emitting l.script l.initial.image l.targets l.image (length l.script / 12) l.place l.k
