use Rattle.std.proofs.Common.{◌≡◌, replicate}
use Rattle.digits.specs.Written.{writes}
use Rattle.lister.proofs.put_spaces.Given as goal

-- the spaces so far are put
abbrev pub invariant-loop : goal.invariant-loop
invariant-loop l = l.text ≡ writes (replicate l.counter 0x20) l.initial.text
