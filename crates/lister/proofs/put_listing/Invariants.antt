-- Before each record `put_listing` keeps `Putting`.
use Rattle.lister.proofs.Lines.{Putting}
use Rattle.lister.proofs.put_listing.Given as goal

abbrev pub invariant-loop-k : goal.invariant-loop-k
invariant-loop-k l = Putting l.script l.initial.text l.text l.depth l.k
