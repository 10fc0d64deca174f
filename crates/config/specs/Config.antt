-- The configuration: its index port and data port, its registers, and key control. See docs/CHIP.md, "Configuration".
use Rattle.std.specs.Prelude.{ℕ, ◌%◌, Bool, true, false, cond, ◌&&◌, eqb}
use Rattle.std.specs.Int.Bits.{bit_and}
use Rattle.access.specs.Block.{Result, with_block, status, takes_byte}
use Rattle.access.specs.Status.{Answer, done, status_only}
use Rattle.access.specs.declared.Access.{Access}
use Rattle.mask.specs.Mask.{has_bit, within}
use Rattle.config.specs.Base.{high, low, with_high, with_low}
use Rattle.config.specs.Fields.{
  config,
  with_activate,
  with_control,
  with_index,
  with_key_base,
  with_number,
  with_runtime_base,
  with_unlocked,
}
use Rattle.config.specs.Index as register
use Rattle.config.specs.Mask as mask
use Rattle.config.specs.declared.Config.{Config}

-- "Reset 0: configuration locked, its index, device number, bases and activate 0, key control 04h."
abbrev pub control_reset : ℕ
control_reset = 0x04

abbrev pub fresh_config : Config
fresh_config = config false 0 0 0 0 0 control_reset

-- every reset resets the whole configuration
abbrev pub config_reset : Config → ℕ → Config
config_reset g level = fresh_config

-- "State in range: every register within its mask": activate (mask 01h) and key control (mask 07h); the others take any
-- value
unfoldable pub config_in_range : Config → Bool
config_in_range g = within mask.activate g.activate && within mask.key_control g.control

-- "The bases used are masked with FF80h and FFE0h (ours)."
abbrev pub runtime_base : Config → ℕ
runtime_base g = bit_and g.runtime_base mask.runtime_base

abbrev pub key_base : Config → ℕ
key_base g = bit_and g.key_base mask.key_base

-- ---- the index port. "Locked: 55h written to 002Eh unlocks; any other write, any read, and port 002Fh have status 1.
-- Unlocked: AAh written to 002Eh locks; any other value, 55h too, becomes the index; a read gives the index."
abbrev pub unlock_value : ℕ
unlock_value = 0x55

abbrev pub lock_value : ℕ
lock_value = 0xAA

unfoldable pub index_write : Config → ℕ → Result Config
index_write g v =
    cond g.unlocked
    (cond (eqb v lock_value) (status 0 (with_unlocked g false)) (status 0 (with_index g v)))
    (cond (eqb v unlock_value) (status 0 (with_unlocked g true)) (status 1 g))

unfoldable pub index_read : Config → Answer
index_read g = cond g.unlocked (done g.index) (status_only 1)

-- the device number that all registers except 07h require
abbrev pub runtime_device : ℕ
runtime_device = 0x0A

-- ---- the registers of device 0Ah. "With device number 0Ah: 30h activate (mask 01h); 60h/61h runtime base high/low; 62h/63h
-- key base high/low; F2h key control (mask 07h). The rest is status 4."
unfoldable pub register_read : Config → Answer
register_read g =
    cond (eqb g.index register.activate) (done g.activate)
    (cond (eqb g.index register.runtime_base_high) (done (high g.runtime_base))
    (cond (eqb g.index register.runtime_base_low) (done (low g.runtime_base))
    (cond (eqb g.index register.key_base_high) (done (high g.key_base))
    (cond (eqb g.index register.key_base_low) (done (low g.key_base))
    (cond (eqb g.index register.key_control) (done g.control) (status_only 4))))))

-- "While bit 0 is set every write to F2h has status 2. A write that sets bit 0 stores bits 2 and 1 as well."
abbrev pub control_lock : ℕ
control_lock = 0x01

unfoldable pub control_write : Config → ℕ → Result Config
control_write g v = cond (has_bit control_lock g.control) (status 2 g) (status 0 (with_control g (bit_and v mask.key_control)))

unfoldable pub register_write : Config → ℕ → Result Config
register_write g v =
    cond (eqb g.index register.activate) (status 0 (with_activate g (bit_and v mask.activate)))
    (cond (eqb g.index register.runtime_base_high) (status 0 (with_runtime_base g (with_high g.runtime_base v)))
    (cond (eqb g.index register.runtime_base_low) (status 0 (with_runtime_base g (with_low g.runtime_base v)))
    (cond (eqb g.index register.key_base_high) (status 0 (with_key_base g (with_high g.key_base v)))
    (cond (eqb g.index register.key_base_low) (status 0 (with_key_base g (with_low g.key_base v)))
    (cond (eqb g.index register.key_control) (control_write g v) (status 4 g))))))

-- ---- the data port. "Data registers: 07h device number (one byte, any value). With device number 0Ah: [..]"
unfoldable pub data_read : Config → Answer
data_read g =
    cond g.unlocked
    (cond (eqb g.index register.device_number) (done g.number)
    (cond (eqb g.number runtime_device) (register_read g) (status_only 4)))
    (status_only 1)

unfoldable pub data_write : Config → ℕ → Result Config
data_write g v =
    cond g.unlocked
    (cond (eqb g.index register.device_number) (status 0 (with_number g v))
    (cond (eqb g.number runtime_device) (register_write g v) (status 4 g)))
    (status 1 g)

-- offset 0 is the index port, any other the data port
unfoldable pub config_access : Config → ℕ → Access → Result Config
config_access g offset x =
    cond (takes_byte x.width)
    (cond (eqb offset 0)
    (cond x.write (index_write g (x.value % 256)) (with_block (index_read g) g))
    (cond x.write (data_write g (x.value % 256)) (with_block (data_read g) g)))
    (status 1 g)
