use Rattle.std.proofs.Common.{◌≡◌, take}
use Rattle.std.specs.List.{flat_map}
use Rattle.digits.specs.declared.TheConstants.{POWERS}
use Rattle.digits.specs.Text.{digit_text}
use Rattle.digits.specs.Written.{writes}
use Rattle.digits.proofs.Writer.put_decimal.Given as goal

abbrev pub invariant-loop-power : goal.invariant-loop-power
invariant-loop-power l = l.self ≡ writes (flat_map (digit_text l.n) (take l.power-index POWERS)) l.initial.self
