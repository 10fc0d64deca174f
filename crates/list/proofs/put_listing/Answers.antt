-- `put_listing` puts the output into the front of the buffer: `lister::list` writes the listing there, and the buffer is long enough (Output.antt).
use native.Mathlib.Omega.{arith}
use Rattle.list.proofs.Output.{answered}
use Rattle.list.proofs.put_listing.Goals as goal

pub returns : goal.returns
returns c =
    let a = c.args in
    let e = c.list.ensures in
    answered a.script.now a.text.now (omega arith) _ _ c.list.auto.text e.0 e.1
