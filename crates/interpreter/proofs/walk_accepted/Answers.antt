-- `walk_accepted` fills the table of an accepted script and walks through the script.
use mathlib.Core.Path.{refl}
use Rattle.interpreter.proofs.walk_accepted.Goals as goal

pub fill-requires : goal.fill-requires
fill-requires c = (c.requires, refl)

pub walk_script-requires : goal.walk_script-requires
walk_script-requires c = (c.requires, c.fill.ensures)
