-- `put_listing` puts the listing. At each turn of the loop, the lines that are left complete it (`Putting`).
use Rattle.std.proofs.Common.{◌∙◌}
use Rattle.lister.proofs.Lines.{put_more, putting}
use Rattle.lister.proofs.put_listing.Goals as goal

pub loop-k-init : goal.loop-k-init
loop-k-init c = putting _ _ c.requires

pub loop-k-preserved : goal.loop-k-preserved
loop-k-preserved c =
    put_more c.loop-k.invariant _ _ _ c.loop-k-test.true (c.of-s.ensures ∙ c.read-r.ensures) c.put_line.ensures
    (rw c.of-s.result.kind_of at c.depth_after-depth.ensures)
