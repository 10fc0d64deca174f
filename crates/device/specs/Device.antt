-- The device: four blocks on one bus, the fresh device, resets, range check, outputs and settling.
-- See docs/CHIP.md, "What the chip is", "Resets" and "Outputs".
use Rattle.std.specs.Prelude.{ℕ, Bool, List, [], ◌∷◌}
use Rattle.acpi.specs.Acpi.{acpi_in_range, acpi_reset, acpi_settle, fresh_acpi}
use Rattle.acpi.specs.Settle.{sci_on, smi_on}
use Rattle.acpi.specs.declared.Acpi.{Acpi}
use Rattle.config.specs.Config.{config_in_range, config_reset, fresh_config}
use Rattle.config.specs.declared.Config.{Config}
use Rattle.key.specs.Key.{fresh_key, key_reset}
use Rattle.key.specs.declared.Key.{Key}
use Rattle.lists.specs.Tests.{all_hold}
use Rattle.monitor.specs.Monitor.{fresh_monitor, interrupt, monitor_in_range, monitor_reset}
use Rattle.monitor.specs.declared.Monitor.{Monitor}
use Rattle.device.specs.declared.Device.{Device}
use Rattle.device.specs.declared.Outputs.{Outputs}

-- ---- the device with one block changed
abbrev pub with_config : Device → Config → Device
with_config d g = record { config = g; acpi = d.acpi; monitor = d.monitor; key = d.key }

abbrev pub with_acpi : Device → Acpi → Device
with_acpi d a = record { config = d.config; acpi = a; monitor = d.monitor; key = d.key }

abbrev pub with_monitor : Device → Monitor → Device
with_monitor d m = record { config = d.config; acpi = d.acpi; monitor = m; key = d.key }

abbrev pub with_key : Device → Key → Device
with_key d k = record { config = d.config; acpi = d.acpi; monitor = d.monitor; key = k }

abbrev pub fresh_device : Device
fresh_device = record { config = fresh_config; acpi = fresh_acpi; monitor = fresh_monitor; key = fresh_key }

-- "Reset 0: configuration [..]. Reset 1 also the monitor [..]. Reset 2 also the ACPI block [..]. Reset 3 also key
-- bytes and pin levels 0: the fresh device."
-- each block decides what a reset of this level clears
unfoldable pub reset_device : Device → ℕ → Device
reset_device d level = record {
  config = config_reset d.config level;
  acpi = acpi_reset d.acpi level;
  monitor = monitor_reset d.monitor level;
  key = key_reset d.key level;
}

-- "State in range": every block is in range; the key needs no test, because any byte is a key byte
abbrev pub range_tests : Device → List Bool
range_tests d = config_in_range d.config ∷ acpi_in_range d.acpi ∷ monitor_in_range d.monitor ∷ []

unfoldable pub device_in_range : Device → Bool
device_in_range d = all_hold (range_tests d)

-- the levels of SCI, SMI and the monitor interrupt
abbrev pub outputs_of : Device → Outputs
outputs_of d = record { sci = sci_on d.acpi; smi = smi_on d.acpi; monitor = interrupt d.monitor }

-- "After every event and access, in order": only the ACPI block has something to settle
abbrev pub settle_device : Device → Device
settle_device d = with_acpi d (acpi_settle d.acpi)
