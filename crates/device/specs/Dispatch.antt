-- An access: the owner of the port answers and is named, and the device settles. `device_access` is the complete definition.
-- See docs/CHIP.md, "Accesses".
use Rattle.std.specs.Prelude.{ℕ, ◌-◌, cond, List, [], ◌∷◌, get_or}
use Rattle.access.specs.Block.{Result, with_block, status}
use Rattle.access.specs.Status.{Answer, answer_of, read_value}
use Rattle.access.specs.declared.Access.{Access}
use Rattle.acpi.specs.Acpi.{acpi_access}
use Rattle.config.specs.Config.{config_access}
use Rattle.key.specs.Key.{key_access}
use Rattle.monitor.specs.Monitor.{monitor_access}
use Rattle.device.specs.Device.{settle_device, with_acpi, with_config, with_key, with_monitor}
use Rattle.device.specs.Owner.{acpi_port, config_port, key_port, monitor_port, owner}
use Rattle.device.specs.Owners.{owner_number}
use Rattle.device.specs.declared.AccessResult as code
use Rattle.device.specs.declared.Device.{Device}

-- the owner, the answer, and the device after the access
pub record AccessResult : Type 0 where
  pub owner : ℕ
  pub answer : Answer
  pub device : Device

abbrev pub access_result : ℕ → Answer → Device → AccessResult
access_result o r d = record { owner = o; answer = r; device = d }

-- the answer of a block, and the device into which `put` has put the new state of that block
abbrev pub answered_by : {B : Type 0} → (B → Device) → Result B → Result Device
answered_by put r = with_block r.answer (put r.block)

-- status 1: "nobody claims"
abbrev pub unclaimed : Device → Result Device
unclaimed d = status 1 d

-- the answer of each block at its own ports; the position in the list is the number of the owner
abbrev pub answers : Device → Access → List (Result Device)
answers d x =
    unclaimed d
    ∷ answered_by (with_config d) (config_access d.config (x.port - config_port) x)
    ∷ answered_by (with_acpi d) (acpi_access d.acpi (x.port - acpi_port) x)
    ∷ answered_by (with_monitor d) (monitor_access d.monitor (x.port - monitor_port d.config) x)
    ∷ answered_by (with_key d) (key_access d.key d.config.control (x.port - key_port d.config) x) ∷ []

-- the answer of the owner with this number
abbrev pub owned_by : ℕ → Result Device → AccessResult
owned_by o r = access_result o r.answer r.block

-- "The first owner answers; nothing is passed on." A later request: "Let each access also return the block that owns the port: 0 none,
-- 1 configuration, 2 ACPI, 3 monitor, 4 key. The owner is named at status 1 too." It is the owner before the access changes the device
unfoldable pub dispatch : Device → Access → AccessResult
dispatch d x =
    owned_by (owner d.config x.port) (get_or (answers d x) (owner d.config x.port) (unclaimed d))

-- the column "Read gives" of the status table; the answer to a write is the answer of the owner, and its value is 0
abbrev pub final_answer : Access → Answer → Answer
final_answer x r = cond x.write r (record { status = r.status; value = read_value r.status x.width r.value })

-- the owner, the answer to an access, and the device after the access and the settling
unfoldable pub device_access : Device → Access → AccessResult
device_access d x =
    access_result (dispatch d x).owner (final_answer x (dispatch d x).answer) (settle_device (dispatch d x).device)

-- ---- the result of the code, with the owner and the status of its answer as numbers
abbrev pub result_of : code.AccessResult → AccessResult
result_of r = access_result (owner_number r.owner) (answer_of r.answer) r.device
