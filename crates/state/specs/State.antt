-- A saved device: the bytes of the blocks, one block after the other, and the way back. Each block defines its own bytes, in
-- `specs/Saved.antt` of its crate. See docs/STATE.md.
use Rattle.std.specs.Prelude.{ℕ, ◌+◌, Bool, false, cond, List, [], ◌∷◌, ◌++◌, Result, Ok, Err, eqb, drop, length, take}
use Rattle.acpi.specs.Saved.{acpi_bytes, acpi_from, acpi_saved, acpi_size}
use Rattle.config.specs.Saved.{config_bytes, config_from, config_saved, config_size}
use Rattle.device.specs.Device.{fresh_device}
use Rattle.device.specs.declared.Device.{Device}
use Rattle.key.specs.Saved.{key_bytes, key_from, key_size}
use Rattle.lists.specs.Tests.{all_hold}
use Rattle.monitor.specs.Saved.{monitor_bytes, monitor_from, monitor_saved, monitor_size}
use Rattle.outcome.specs.Number as number
use Rattle.outcome.specs.Refusal.{Refusal, refusal}
use Rattle.outcome.specs.Refused.{refusal_of}
use Rattle.outcome.specs.declared.Refused.{Refused}

-- ---- where each block's bytes start, and how many there are in all
abbrev pub key_start : ℕ
key_start = config_size

abbrev pub monitor_start : ℕ
monitor_start = key_start + key_size

abbrev pub acpi_start : ℕ
acpi_start = monitor_start + monitor_size

abbrev pub state_size : ℕ
state_size = acpi_start + acpi_size

-- ---- a device as bytes
unfoldable pub state_bytes : Device → List ℕ
state_bytes d = config_bytes d.config ++ (key_bytes d.key ++ (monitor_bytes d.monitor ++ acpi_bytes d.acpi))

-- ---- bytes as a device
-- `size` bytes from index `start` on
abbrev pub part : ℕ → ℕ → List ℕ → List ℕ
part start size bytes = take size (drop start bytes)

abbrev pub device_from : List ℕ → Device
device_from bytes = record {
  config = config_from (part 0 config_size bytes);
  acpi = acpi_from (part acpi_start acpi_size bytes);
  monitor = monitor_from (part monitor_start monitor_size bytes);
  key = key_from (part key_start key_size bytes);
}

-- can a device hold these bytes? The key can hold any bytes
abbrev pub saved_tests : List ℕ → List Bool
saved_tests bytes =
    config_saved (part 0 config_size bytes) ∷ monitor_saved (part monitor_start monitor_size bytes) ∷ acpi_saved (part acpi_start acpi_size bytes) ∷ []

abbrev pub is_saved : List ℕ → Bool
is_saved bytes = all_hold (saved_tests bytes)

-- ---- saving: only a slice of the length of a state is written
unfoldable pub saved : Device → List ℕ → List ℕ
saved d bytes = cond (eqb (length bytes) state_size) (state_bytes d) bytes

abbrev pub save_refusal : List ℕ → Refusal
save_refusal bytes = cond (eqb (length bytes) state_size) (refusal 0 0) (refusal number.bad_state 0)

-- ---- loading: bytes of another length, and bytes that no device can hold, are refused with 11 at place 0
unfoldable pub holds_device : List ℕ → Bool
holds_device bytes = cond (eqb (length bytes) state_size) (is_saved bytes) false

pub record LoadResult : Type 0 where
  pub refusal : Refusal
  pub device : Device

-- after a refusal the device is one that no caller can get
unfoldable pub loaded : List ℕ → LoadResult
loaded bytes =
    cond (holds_device bytes)
    (record { refusal = refusal 0 0; device = device_from bytes })
    (record { refusal = refusal number.bad_state 0; device = fresh_device })

-- the loaded device, or another one after a refusal
abbrev pub device_or : LoadResult → Device → Device
device_or l otherwise = cond (eqb l.refusal.number 0) l.device otherwise

-- the result of the call `load` in these terms: number 0 and the device, or the refusal
abbrev pub load_of : Result Device Refused → LoadResult
load_of (Ok d) = record { refusal = refusal 0 0; device = d }
load_of (Err r) = record { refusal = refusal_of r; device = fresh_device }
