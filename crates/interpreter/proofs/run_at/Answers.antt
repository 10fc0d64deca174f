-- `run_at` runs the part of the script that starts at the offset of the place: the script without the records before the place
-- (Refusing.antt, `part`).
use Prim.Native.Nat.{◌*◌}
use Rattle.interpreter.proofs.Refusing.{accepted, part, walked}
use Rattle.interpreter.proofs.run_at.Goals as goal

pub walk_accepted-requires : goal.walk_accepted-requires
walk_accepted-requires c =
    rw (c.offset-at.ensures, part c.args.script.now (12 * c.args.place)) (accepted _ _ _ c.requires)

pub returns : goal.returns
returns c =
    let w = rw (c.offset-at.ensures, part c.args.script.now (12 * c.args.place)) at c.walk_accepted.ensures in
    walked _ _ _ _ _ _ _ c.requires w
