-- Settling a device twice is the same as settling it once, and the fresh device is settled.
-- Both follow from the laws of the ACPI block.
use mathlib.Core.Path.{◌≡◌, ap}
use Rattle.acpi.proofs.Settle.{settle_fresh, settle_twice}
use Rattle.device.specs.Device.{fresh_device, settle_device, with_acpi}
use Rattle.device.specs.declared.Device.{Device}

pub settle_device_twice : (d : Device) → settle_device (settle_device d) ≡ settle_device d
settle_device_twice d = ap (with_acpi d) (settle_twice d.acpi)

pub settle_fresh_device : settle_device fresh_device ≡ fresh_device
settle_fresh_device = ap (with_acpi fresh_device) settle_fresh
