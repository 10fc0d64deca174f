-- Which block owns a port: the first that claims it. The configuration holds the activate bit and the bases.
-- See docs/CHIP.md, "Port map".
use Rattle.std.specs.Prelude.{ℕ, ◌+◌, Bool, not, ◌&&◌, ◌||◌, List, [], ◌∷◌, eqb, leb, ltb}
use Rattle.config.specs.Config.{key_base, runtime_base}
use Rattle.config.specs.declared.Config.{Config}
use Rattle.lists.specs.Tests.{first_holding}
use Rattle.mask.specs.Mask.{has_bit}

-- ---- the numbers of the blocks, in the order of their claims
abbrev pub nobody : ℕ
nobody = 0

abbrev pub configuration : ℕ
configuration = 1

abbrev pub acpi : ℕ
acpi = 2

abbrev pub monitor : ℕ
monitor = 3

abbrev pub key : ℕ
key = 4

-- ---- the first port of each block, and the last port of a block at fixed ports
abbrev pub config_port : ℕ
config_port = 0x002E

abbrev pub config_last_port : ℕ
config_last_port = 0x002F

abbrev pub acpi_port : ℕ
acpi_port = 0xAC00

abbrev pub acpi_last_port : ℕ
acpi_last_port = 0xAC1F

-- the offsets of the monitor's index and data ports from the runtime base
abbrev pub monitor_index : ℕ
monitor_index = 0x70

abbrev pub monitor_data : ℕ
monitor_data = 0x71

abbrev pub monitor_port : Config → ℕ
monitor_port g = runtime_base g + monitor_index

-- the number of the key's ports, from the key base on
abbrev pub key_ports : ℕ
key_ports = 32

abbrev pub key_port : Config → ℕ
key_port g = key_base g

-- ---- the claims
-- a block at fixed ports claims all ports from its first to its last
abbrev pub in_ports : (first last port : ℕ) → Bool
in_ports first last port = leb first port && leb port last

-- "002Eh, 002Fh: configuration."
abbrev pub config_claims : ℕ → Bool
config_claims port = in_ports config_port config_last_port port

-- "AC00h to AC1Fh: ACPI."
abbrev pub acpi_claims : ℕ → Bool
acpi_claims port = in_ports acpi_port acpi_last_port port

-- "Blocks 3 and 4 exist only while activated and with a masked base other than 0."
abbrev pub is_active : Config → Bool
is_active g = has_bit 0x01 g.activate

-- "Runtime base + 70h and + 71h: monitor index and data."
unfoldable pub monitor_claims : Config → ℕ → Bool
monitor_claims g port =
    is_active g
    && (not (eqb (runtime_base g) 0) && (eqb port (runtime_base g + monitor_index) || eqb port (runtime_base g + monitor_data)))

-- "Key base to key base + 31: key bytes."
unfoldable pub key_claims : Config → ℕ → Bool
key_claims g port =
    is_active g && (not (eqb (key_base g) 0) && (leb (key_base g) port && ltb port (key_base g + key_ports)))

-- "Blocks claim by starting port, in this order"
abbrev pub claims : Config → ℕ → List Bool
claims g port = config_claims port ∷ acpi_claims port ∷ monitor_claims g port ∷ key_claims g port ∷ []

-- "The first owner answers": the number of the block, or 0 if no block claims the port
unfoldable pub owner : Config → ℕ → ℕ
owner g port = first_holding (claims g port)
