-- `monitor::Monitor::in_range` returns what `monitor_in_range` defines: each register is paired with the mask of its index.
use Rattle.std.proofs.Common.{◌∙◌, arith}
use Rattle.std.specs.Prelude.{map}
use Rattle.mask.proofs.Every.{all_zipped}
use Rattle.mask.specs.Mask.{within}
use Rattle.monitor.specs.Table.{mask_of, stored_indices}
use Rattle.monitor.proofs.Monitor.in_range.Goals as goal

pub returns : goal.returns
returns c =
    c.all_within.ensures
    ∙ all_zipped (λ pair. within pair.1 pair.0) c.args.self.registers (map mask_of stored_indices) 12 (omega arith) (omega arith)
