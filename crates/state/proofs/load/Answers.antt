-- `load` reads bytes that hold a device, which have the length of a state.
use mathlib.Core.Path.{sym, ◌∙◌}
use Rattle.state.proofs.Slices.{holds_length}
use Rattle.state.proofs.load.Goals as goal

pub read_from-requires : goal.read_from-requires
read_from-requires c = holds_length _ (sym c.holds_device.ensures ∙ c.if-not-holds_device.false)
