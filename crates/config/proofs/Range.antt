-- The fresh configuration is in range, and every reset and every access keeps it in range: activate and key control are masked
-- when they are stored, and the other registers take any value.
use Prim.Native.Nat.{ℕ, ◌%◌}
use mathlib.Core.Path.{◌≡◌, refl}
use mathlib.Core.Bool.{true}
use lib.Bits.{bit_and}
use lib.Dec.{eqb}
use Rattle.access.specs.Block.{Result, takes_byte}
use Rattle.access.specs.declared.Access.{Access}
use Rattle.mask.proofs.Branch.{branch}
use Rattle.mask.proofs.Every.{and_both, and_left, and_right}
use Rattle.mask.proofs.Mask.{within_masked}
use Rattle.mask.specs.Mask.{has_bit, within}
use Rattle.config.specs.Config.{
  config_access,
  config_in_range,
  config_reset,
  control_lock,
  control_write,
  data_write,
  fresh_config,
  index_write,
  lock_value,
  register_write,
  runtime_device,
  unlock_value,
}
use Rattle.config.specs.Index as register
use Rattle.config.specs.Mask as mask
use Rattle.config.specs.declared.Config.{Config}

pub fresh_in_range : config_in_range fresh_config ≡ true
unfolding config_in_range
fresh_in_range = refl

pub reset_in_range : (g : Config) (level : ℕ) → config_in_range g ≡ true → config_in_range (config_reset g level) ≡ true
reset_in_range g level h = fresh_in_range

-- the configuration after an access is in range
abbrev ResultInRange : Result Config → Type 0
ResultInRange r = config_in_range r.block ≡ true

module _ (g : Config) (h : config_in_range g ≡ true) where
  index_write_lem : (v : ℕ) → ResultInRange (index_write g v)
  unfolding index_write config_in_range
  index_write_lem v =
      branch ResultInRange g.unlocked (branch ResultInRange (eqb v lock_value) h h)
      (branch ResultInRange (eqb v unlock_value) h h)

  control_write_lem : (v : ℕ) → ResultInRange (control_write g v)
  unfolding control_write config_in_range
  control_write_lem v =
      branch ResultInRange (has_bit control_lock g.control) h
      (and_both (within mask.activate g.activate) (within mask.key_control (bit_and v mask.key_control))
      (and_left (within mask.activate g.activate) (within mask.key_control g.control) h) (within_masked mask.key_control v))

  register_write_lem : (v : ℕ) → ResultInRange (register_write g v)
  unfolding register_write config_in_range
  register_write_lem v =
      branch ResultInRange (eqb g.index register.activate)
      (and_both (within mask.activate (bit_and v mask.activate)) (within mask.key_control g.control)
      (within_masked mask.activate v)
      (and_right (within mask.activate g.activate) (within mask.key_control g.control) h))
      (branch ResultInRange (eqb g.index register.runtime_base_high) h
      (branch ResultInRange (eqb g.index register.runtime_base_low) h
      (branch ResultInRange (eqb g.index register.key_base_high) h
      (branch ResultInRange (eqb g.index register.key_base_low) h
      (branch ResultInRange (eqb g.index register.key_control) (control_write_lem v) h)))))

  data_write_lem : (v : ℕ) → ResultInRange (data_write g v)
  unfolding data_write config_in_range
  data_write_lem v =
      branch ResultInRange g.unlocked
      (branch ResultInRange (eqb g.index register.device_number) h
      (branch ResultInRange (eqb g.number runtime_device) (register_write_lem v) h))
      h

pub access_in_range :
    (g : Config) (offset : ℕ) (x : Access) → config_in_range g ≡ true → config_in_range (config_access g offset x).block ≡ true
unfolding config_access
access_in_range g offset x h =
    branch ResultInRange (takes_byte x.width)
    (branch ResultInRange (eqb offset 0)
    (branch ResultInRange x.write (index_write_lem g h (x.value % 256)) h)
    (branch ResultInRange x.write (data_write_lem g h (x.value % 256)) h))
    h
