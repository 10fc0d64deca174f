-- `digits::byte` returns what `byte_at` defines: two digits, or nothing if one of the two is missing. The index does not wrap, because a digit lies
-- within the line.
use Rattle.std.proofs.Common.{◌≡◌, ◌+◌, ◌%◌, ◌^◌, sym, ap, ◌∙◌, arith}
use Rattle.digits.specs.Read.{digit_at, no_digit}
use Rattle.digits.proofs.Read.{byte_read, digit_inside, digit_read}
use Rattle.digits.proofs.byte.Goals as goal

pub returns : goal.returns
returns c =
    let line = c.args.line.now in
    let at = c.args.at in
    let high : digit_at line at ≡ c.in_ok-high.high = digit_read _ _ c.in_ok-high.ensures.value in
    let some : digit_at line at ≡ no_digit → ⊥ = λ e. omega (arith, high, e, c.in_ok-high.ensures.small) in
    let inside = digit_inside line at some in
    let index : (at + 1) % 2 ^ 64 ≡ at + 1 = omega (arith, inside) in
    let low = ap (digit_at line) (sym index ∙ sym c.after.ensures) ∙ digit_read _ _ c.in_ok-low.ensures.value in
    sym (byte_read line at c.in_ok-high.high c.in_ok-low.low high low c.in_ok-high.ensures.small c.in_ok-low.ensures.small)
