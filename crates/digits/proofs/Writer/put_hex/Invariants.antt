use Rattle.std.proofs.Common.{◌≡◌, take}
use Rattle.std.specs.List.{flat_map}
use Rattle.digits.specs.Text.{byte_text}
use Rattle.digits.specs.Written.{writes}
use Rattle.digits.proofs.Writer.put_hex.Given as goal

abbrev pub invariant-loop-b : goal.invariant-loop-b
invariant-loop-b l = l.self ≡ writes (flat_map byte_text (take l.b-index l.b-items)) l.initial.self
