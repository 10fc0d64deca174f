-- `monitor::Monitor::reset_of` returns what `reset_of` defines: the constant array has the reset values of the table.
use Rattle.std.proofs.Common.{arith}
use Rattle.monitor.proofs.Table.{entry}
use Rattle.monitor.specs.Table.{reset_of}
use Rattle.monitor.proofs.Monitor.reset_of.Goals as goal

pub returns : goal.returns
returns c = entry reset_of c.args.index (omega arith)
