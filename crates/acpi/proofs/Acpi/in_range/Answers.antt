-- `acpi::Acpi::in_range` returns what `acpi_in_range` defines: the tests of the fields, in the same order.
use mathlib.Core.Bool.{and_assoc, and-true}
use Rattle.acpi.specs.Acpi.{acpi_in_range}
use Rattle.acpi.proofs.Acpi.in_range.Goals as goal

pub returns : goal.returns
unfolding acpi_in_range
returns c = simp (c.is_cpu_state.ensures, c.is_setup_index.ensures, c.from.ensures, c.maps_in_range.ensures, and_assoc, and-true)
