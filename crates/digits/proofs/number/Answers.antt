-- `digits::number` returns what `number_at` defines. At each turn of the loop, the digits that were read and those that are left
-- make up the number. The index does not wrap, because a digit lies within the line.
use Rattle.std.proofs.Common.{◌≡◌, ◌+◌, ◌%◌, ◌^◌, sym, ap, ◌∙◌, arith}
use Rattle.digits.specs.Read.{digit_at, no_digit}
use Rattle.digits.proofs.Read.{digit_inside, digit_read}
use Rattle.digits.proofs.ReadLoop.{one_more}
use Rattle.digits.proofs.number.Goals as goal

pub loop-count-preserved : goal.loop-count-preserved
loop-count-preserved c =
    let l = c.loop-count in
    let line = c.args.line.now in
    let at = c.args.at in
    let index : (at + l.count) % 2 ^ 64 ≡ at + l.count = omega arith in
    let digit = ap (digit_at line) (sym index ∙ sym c.after-next.ensures) ∙ digit_read _ _ c.in-Some.ensures.value in
    let small = c.in-Some.ensures.small in
    let some : digit_at line (at + l.count) ≡ no_digit → ⊥ = λ e. omega (arith, digit, small, e) in
    let inside = digit_inside line (at + l.count) some in
    record {
      inside = omega (arith, inside);
      small = omega (arith, c.from.ensures, small);
      reading = rw (c.from.ensures, sym digit) (one_more line at l.value l.count l.invariant.reading (omega arith) some);
    }
