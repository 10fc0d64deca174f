use Rattle.std.proofs.Common.{◌≡◌, take}
use Rattle.digits.specs.Written.{writes}
use Rattle.digits.proofs.Writer.put_text.Given as goal

abbrev pub invariant-loop-b : goal.invariant-loop-b
invariant-loop-b l = l.self ≡ writes (take l.b-index l.text) l.initial.self
