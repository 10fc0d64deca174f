-- `monitor::Monitor::mask_of` returns what `mask_of` defines: the constant array has the masks of the table.
use Rattle.std.proofs.Common.{arith}
use Rattle.monitor.proofs.Table.{entry}
use Rattle.monitor.specs.Table.{mask_of}
use Rattle.monitor.proofs.Monitor.mask_of.Goals as goal

pub returns : goal.returns
returns c = entry mask_of c.args.index (omega arith)
