-- `digits::digit` returns what `digit_of` defines: the three ranges of digits, and the four ranges of other bytes around them.
use Rattle.std.proofs.Common.{◌+◌, ◌-◌, sym, arith}
use Rattle.digits.proofs.Read.{after_lower, before_decimal, before_lower, before_upper, decimal_digit, digit_is, lower_digit, upper_digit}
use Rattle.digits.proofs.digit.Goals as goal

pub returns-in-48-to-57-clause-value : goal.returns-in-48-to-57-clause-value
returns-in-48-to-57-clause-value c = rw (decimal_digit c.args.b (omega arith) (omega arith)) (sym (digit_is (c.args.b - 0x30) (omega arith)))

pub returns-in-65-to-70-clause-value : goal.returns-in-65-to-70-clause-value
returns-in-65-to-70-clause-value c = rw (upper_digit c.args.b (omega arith) (omega arith)) (sym (digit_is (c.args.b - 0x41 + 10) (omega arith)))

pub returns-in-97-to-102-clause-value : goal.returns-in-97-to-102-clause-value
returns-in-97-to-102-clause-value c = rw (lower_digit c.args.b (omega arith) (omega arith)) (sym (digit_is (c.args.b - 0x61 + 10) (omega arith)))

pub returns-in_default-clause-value : goal.returns-in_default-clause-value
returns-in_default-clause-value c = rw (before_decimal c.args.b (omega arith))

pub returns-in_default-2-clause-value : goal.returns-in_default-2-clause-value
returns-in_default-2-clause-value c = rw (before_upper c.args.b (omega arith) (omega arith))

pub returns-in_default-3-clause-value : goal.returns-in_default-3-clause-value
returns-in_default-3-clause-value c = rw (before_lower c.args.b (omega arith) (omega arith))

pub returns-in_default-4-clause-value : goal.returns-in_default-4-clause-value
returns-in_default-4-clause-value c = rw (after_lower c.args.b (omega arith))
