-- `acpi::Acpi::map_write`: a legal map value is at most 1FFFh, so the cast to 16 bits keeps it.
use Rattle.std.proofs.Common.{sym, ◌∙◌, arith}
use Rattle.acpi.proofs.Legal.{legal_map_lem}
use Rattle.acpi.proofs.Acpi.map_write.Goals as goal

pub overflow_cast-self : goal.overflow_cast-self
overflow_cast-self c = omega (arith, legal_map_lem c.args.value (sym c.is_legal.ensures ∙ c.if-is_legal.true))
