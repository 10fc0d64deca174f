-- Pending status bits, the outputs SCI and SMI, and waking up. See docs/CHIP.md, "Sleep, wake and settling".
use Rattle.std.specs.Prelude.{Bool, false, cond, not, ◌&&◌, ◌||◌}
use Rattle.mask.specs.Mask.{has_bit}
use Rattle.acpi.specs.Bit as bit
use Rattle.acpi.specs.Fields.{raise, with_sleeping}
use Rattle.acpi.specs.declared.Acpi.{Acpi}

-- "Pending: PM1a_STS and PM1a_EN share a one, or GPE0_STS and GPE0_EN do."
unfoldable pub pending : Acpi → Bool
pending a = has_bit a.pm1en a.pm1sts || has_bit a.gpe0en a.gpe0sts

-- "SCI is pending with SCI_EN, SMI is pending without it"
unfoldable pub sci_on : Acpi → Bool
sci_on a = pending a && a.scien

unfoldable pub smi_on : Acpi → Bool
smi_on a = pending a && not a.scien

-- "a sleeping chip with pending wakes and sets WAKE_STS (bit 15)"
unfoldable pub wake : Acpi → Acpi
wake a = cond (a.sleeping && pending a) (raise (with_sleeping a false) bit.wake_sts) a
