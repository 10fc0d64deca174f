-- The open blocks of a scan as the numbers of document 01.
use Rattle.std.specs.Prelude.{ℕ, List, map}
use Rattle.script.specs.Refusals.{open_else, open_if, open_repeat}
use Rattle.script.specs.declared.open_blocks.Open.{Open}
use Rattle.script.specs.declared.open_blocks.Open.TheVariants.{Repeat, If, Else}

abbrev pub open_number : Open → ℕ
open_number Repeat = open_repeat
open_number If = open_if
open_number Else = open_else

abbrev pub open_numbers : List Open → List ℕ
open_numbers blocks = map open_number blocks
