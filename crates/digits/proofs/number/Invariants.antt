-- `digits::number` returns what `number_at` defines. At each turn of the loop, the digits that were read and those that are left
-- make up the number. The index does not wrap, because a digit lies within the line.
use Rattle.std.proofs.Common.{◌+◌, ◌^◌, ◌<◌}
use Rattle.digits.proofs.ReadLoop.{Reading}
use Rattle.digits.proofs.number.Given as goal

abbrev pub invariant-loop-count : goal.invariant-loop-count
invariant-loop-count l = record { inside : l.at + l.count < 2 ^ 64; small : l.value < 2 ^ 32; reading : Reading l.line l.at l.value l.count }
