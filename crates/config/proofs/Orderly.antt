-- An access that is not done leaves the configuration unchanged, a write returns the value 0, and the status is one of those in the
-- table. Shown branch by branch.
use Prim.Native.Nat.{ℕ, ◌%◌}
use mathlib.Core.Path.{refl}
use mathlib.Core.Bool.{Bool, cond}
use lib.Dec.{eqb}
use Rattle.access.proofs.Block.{Orderly, StatusInTable, kept, read_kept, write_done}
use Rattle.access.specs.Block.{Result, takes_byte}
use Rattle.access.specs.declared.Access.{Access}
use Rattle.mask.proofs.Branch.{branch, branch_on}
use Rattle.mask.specs.Mask.{has_bit}
use Rattle.config.specs.Config.{
  config_access,
  control_lock,
  control_write,
  data_read,
  data_write,
  index_read,
  index_write,
  lock_value,
  register_read,
  register_write,
  runtime_device,
  unlock_value,
}
use Rattle.config.specs.Index as register
use Rattle.config.specs.declared.Config.{Config}

module _ (g : Config) where
  index_read_lem : StatusInTable (index_read g)
  unfolding index_read
  index_read_lem = branch StatusInTable g.unlocked refl refl

  register_read_lem : StatusInTable (register_read g)
  unfolding register_read
  register_read_lem =
      branch StatusInTable (eqb g.index register.activate) refl
      (branch StatusInTable (eqb g.index register.runtime_base_high) refl
      (branch StatusInTable (eqb g.index register.runtime_base_low) refl
      (branch StatusInTable (eqb g.index register.key_base_high) refl
      (branch StatusInTable (eqb g.index register.key_base_low) refl
      (branch StatusInTable (eqb g.index register.key_control) refl refl)))))

  data_read_lem : StatusInTable (data_read g)
  unfolding data_read
  data_read_lem =
      branch StatusInTable g.unlocked
      (branch StatusInTable (eqb g.index register.device_number) refl
      (branch StatusInTable (eqb g.number runtime_device) register_read_lem refl))
      refl

module _ (g : Config) (w : Bool) where
  on : (test : Bool) {x y : Result Config} → Orderly g w x → Orderly g w y → Orderly g w (cond test x y)
  on = branch (Orderly g w)

module _ (g : Config) (w : Bool) (v : ℕ) where
  index_write_lem : Orderly g w (index_write g v)
  unfolding index_write
  index_write_lem =
      on g w g.unlocked (on g w (eqb v lock_value) write_done write_done) (on g w (eqb v unlock_value) write_done (kept refl))

  control_write_lem : Orderly g w (control_write g v)
  unfolding control_write
  control_write_lem = on g w (has_bit control_lock g.control) (kept refl) write_done

  register_write_lem : Orderly g w (register_write g v)
  unfolding register_write
  register_write_lem =
      on g w (eqb g.index register.activate) write_done
      (on g w (eqb g.index register.runtime_base_high) write_done
      (on g w (eqb g.index register.runtime_base_low) write_done
      (on g w (eqb g.index register.key_base_high) write_done
      (on g w (eqb g.index register.key_base_low) write_done (on g w (eqb g.index register.key_control) control_write_lem (kept refl))))))

  data_write_lem : Orderly g w (data_write g v)
  unfolding data_write
  data_write_lem =
      on g w g.unlocked
      (on g w (eqb g.index register.device_number) write_done (on g w (eqb g.number runtime_device) register_write_lem (kept refl)))
      (kept refl)

pub config_orderly : (g : Config) (offset : ℕ) (x : Access) → Orderly g x.write (config_access g offset x)
unfolding config_access
config_orderly g offset x =
    let w = x.write in
    on g w (takes_byte x.width)
    (on g w (eqb offset 0)
    (branch_on (Orderly g w) w (λ _. index_write_lem g w (x.value % 256)) (λ e. rw e (read_kept (index_read_lem g))))
    (branch_on (Orderly g w) w (λ _. data_write_lem g w (x.value % 256)) (λ e. rw e (read_kept (data_read_lem g)))))
    (kept refl)
