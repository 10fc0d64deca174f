-- `holds_device` returns `holds_device`: the length is tested first, then the bytes.
use mathlib.Core.Path.{◌∙◌}
use Rattle.state.proofs.Slices.{holds_not, holds_saved}
use Rattle.state.proofs.holds_device.Goals as goal

pub returns-then-bytes-ne-SIZE : goal.returns-then-bytes-ne-SIZE
returns-then-bytes-ne-SIZE c = holds_not c.args.bytes.now c.if-bytes-ne-SIZE.true

pub returns : goal.returns
returns c = c.is_saved.ensures ∙ holds_saved c.args.bytes.now c.if-bytes-ne-SIZE.false
