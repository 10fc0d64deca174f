-- The blocks that own ports as an enum, and their numbers.
use Rattle.std.specs.Prelude.{ℕ, Option, None, Some}
use Rattle.device.specs.Owner as block
use Rattle.device.specs.declared.owner.Owner.{Owner}
use Rattle.device.specs.declared.owner.Owner.TheVariants.{Configuration, Acpi, Monitor, Key}

abbrev pub block_number : Owner → ℕ
block_number Configuration = block.configuration
block_number Acpi = block.acpi
block_number Monitor = block.monitor
block_number Key = block.key

-- the number that names the owner of a port in an answer
abbrev pub owner_number : Option Owner → ℕ
owner_number None = block.nobody
owner_number (Some o) = block_number o
