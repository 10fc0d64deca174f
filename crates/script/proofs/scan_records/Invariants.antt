-- Before each record the loop keeps `ScanInvariant`. The walk keeps the number of repeats among the blocks that it has seen, which is below 8.
use Rattle.std.specs.Prelude.{◌≡◌, ◌<◌, count_by, take}
use Rattle.script.specs.Blocks.{open_numbers}
use Rattle.script.proofs.Blocks.{is_repeat}
use Rattle.script.proofs.Scanning.{ScanInvariant}
use Rattle.script.proofs.scan_records.Given as goal

abbrev pub invariant-loop-place : goal.invariant-loop-place
invariant-loop-place l = ScanInvariant l.script l.count (open_numbers l.blocks) l.words l.place

abbrev pub invariant-loop-block : goal.invariant-loop-block
invariant-loop-block l = (l.repeats ≡ count_by is_repeat (take l.block-index l.block-items)) × (l.repeats < 8)
