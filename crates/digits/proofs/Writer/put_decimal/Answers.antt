-- A power of ten that is at most n adds its digit. Where it is above n, the digit would be a leading zero.
use Rattle.std.proofs.Common.{arith}
use Rattle.digits.specs.declared.TheConstants.{POWERS}
use Rattle.digits.proofs.Writes.{digit_next}
use Rattle.digits.proofs.Writer.put_decimal.Goals as goal

pub loop-power-preserved : goal.loop-power-preserved
loop-power-preserved c =
    let l = c.loop-power in
    rw (c.put.ensures, l.invariant) (digit_next c.args.self.now c.args.n POWERS l.power-index (omega arith) (omega arith))
