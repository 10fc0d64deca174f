-- `number_of` returns the number of digits of a base. At each turn, the digits that are left complete it.
use native.Mathlib.Nat.{mul-le-mul}
use native.Mathlib.Omega.{arith}
use mathlib.Core.Path.{sym, ◌∙◌}
use Rattle.digits.proofs.Read.{digit_read, no_digit_read}
use Rattle.statement.specs.Line.{too_big}
use Rattle.statement.proofs.Stopped.{a_number, no_digits, not_number, read_end, read_on, read_start, read_stop}
use Rattle.statement.proofs.number_of.Goals as goal

pub loop-b-init : goal.loop-b-init
loop-b-init c = read_start _ _

pub returns-in_err-digit : goal.returns-in_err-digit
returns-in_err-digit c =
    let l = c.loop-b in
    let a = c.args in
    let none = no_digit_read _ c.in_err-digit.ensures.value in
    c.from_residual.ensures ∙ not_number a.base a.digits.now (read_stop a.digits.now a.base l.value l.b-index l.invariant (omega arith) (omega (arith, none)))

pub returns-then-base-d : goal.returns-then-base-d
returns-then-base-d c =
    let l = c.loop-b in
    let a = c.args in
    let d = digit_read _ _ c.in_ok-digit.ensures.value in
    not_number a.base a.digits.now (read_stop a.digits.now a.base l.value l.b-index l.invariant (omega arith) (omega (arith, d, c.from-d.ensures, c.if-base-d.true)))

pub overflow_mul-value : goal.overflow_mul-value
overflow_mul-value c =
    let l = c.loop-b in
    let a = c.args in
    let m = mul-le-mul {n₁ = l.value} {m₁ = a.base} {n₂ = too_big} {m₂ = 16} l.invariant.small (omega arith) in
    omega (arith, m)

pub overflow_add-value : goal.overflow_add-value
overflow_add-value c =
    let l = c.loop-b in
    let a = c.args in
    let m = mul-le-mul {n₁ = l.value} {m₁ = a.base} {n₂ = too_big} {m₂ = 16} l.invariant.small (omega arith) in
    omega (arith, m)

pub loop-b-preserved : goal.loop-b-preserved
loop-b-preserved c =
    let l = c.loop-b in
    let a = c.args in
    let d = digit_read _ _ c.in_ok-digit.ensures.value in
    rw (c.capped-value.ensures, c.from-d.ensures, sym d) (read_on a.digits.now a.base l.value l.b-index l.invariant (omega arith) (omega arith) (omega (arith, d, c.from-d.ensures, c.if-base-d.false)))

pub returns-then-is_empty : goal.returns-then-is_empty
returns-then-is_empty c = no_digits c.args.base c.args.digits.now (sym c.is_empty.ensures ∙ c.if-is_empty.true)

pub returns : goal.returns
returns c =
    let l = c.loop-b in
    let a = c.args in
    let e = read_end a.digits.now a.base l.value l.b-index l.invariant c.loop-b-test.false in
    a_number a.base a.digits.now l.value (sym c.is_empty.ensures ∙ c.if-is_empty.false) e.0 e.1
