-- `monitor::Monitor::kind_of` returns what `kind_of` defines: the constant array has the kinds of the table.
use Rattle.std.proofs.Common.{sym, ◌∙◌, arith}
use Rattle.std.proofs.Math.ListN.{get_or-map}
use Rattle.monitor.proofs.Table.{entry}
use Rattle.monitor.specs.Table.{kind_number, kind_of}
use Rattle.monitor.specs.declared.TheConstants.Monitor.{KIND}
use Rattle.monitor.specs.declared.tables.RegisterKind.TheVariants.{Absent}
use Rattle.monitor.proofs.Monitor.kind_of.Goals as goal

pub returns : goal.returns
returns c = sym (get_or-map kind_number KIND.now c.args.index Absent) ∙ entry kind_of c.args.index (omega arith)
