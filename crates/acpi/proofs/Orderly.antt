-- An access that is not done leaves the ACPI block unchanged, a write returns the value 0, and the status is one of those in the
-- table. Shown branch by branch.
use Rattle.std.proofs.Common.{ℕ, ◌-◌, Bool, false, eqb, leb, refl}
use Rattle.access.proofs.Block.{Orderly, kept, read_done, write_done}
use Rattle.access.specs.Block.{Result}
use Rattle.access.specs.declared.Access.{Access}
use Rattle.mask.proofs.Branch.{branch, branch_on}
use Rattle.mask.specs.Mask.{has_bit}
use Rattle.acpi.specs.Acpi.{acpi_access}
use Rattle.acpi.specs.Bit as bit
use Rattle.acpi.specs.Map.{legal_map}
use Rattle.acpi.specs.Offset as at
use Rattle.acpi.specs.Registers.{command_write, control_write, register_read, register_write, takes}
use Rattle.acpi.specs.Setup.{irq_max, irq_write, is_map_index, is_setup_index, map_write, setup_index_write, setup_write}
use Rattle.acpi.specs.SetupIndex as index
use Rattle.acpi.specs.declared.Acpi.{Acpi}

read_orderly : (a : Acpi) (offset : ℕ) → Orderly a false (register_read a offset)
unfolding register_read
read_orderly a offset =
    let P : Result Acpi → Type 0 = Orderly a false in
    branch P (eqb offset at.p_lvl2) read_done (branch P (eqb offset at.p_lvl3) read_done read_done)

module _ (a : Acpi) (w : Bool) where
  abbrev P : Result Acpi → Type 0
  P = Orderly a w

  command_orderly : (v : ℕ) → P (command_write a v)
  unfolding command_write
  command_orderly v = branch P (eqb v 1) write_done (branch P (eqb v 2) write_done (kept refl))

  control_orderly : (v : ℕ) → P (control_write a v)
  unfolding control_write
  control_orderly v = branch P (has_bit bit.slp_en v) write_done write_done

  setup_index_orderly : (v : ℕ) → P (setup_index_write a v)
  unfolding setup_index_write
  setup_index_orderly v = branch P (is_setup_index v) write_done (kept refl)

  map_orderly : (pin v : ℕ) → P (map_write a pin v)
  unfolding map_write
  map_orderly pin v = branch P (legal_map v) write_done (kept refl)

  irq_orderly : (v : ℕ) → P (irq_write a v)
  unfolding irq_write
  irq_orderly v = branch P (leb v irq_max) write_done (kept refl)

  setup_orderly : (v : ℕ) → P (setup_write a v)
  unfolding setup_write
  setup_orderly v =
      branch P (is_map_index a.setupidx) (map_orderly (a.setupidx - index.first_map) v)
      (branch P (eqb a.setupidx index.global_event) write_done
      (branch P (eqb a.setupidx index.irq) (irq_orderly v) (kept refl)))

  write_orderly : (offset v : ℕ) → P (register_write a offset v)
  unfolding register_write
  write_orderly offset v =
      branch P (eqb offset at.p_cnt) write_done
      (branch P (eqb offset at.smi_cmd) (command_orderly v)
      (branch P (eqb offset at.pm1a_sts) write_done
      (branch P (eqb offset at.pm1a_en) write_done
      (branch P (eqb offset at.pm1a_cnt) (control_orderly v)
      (branch P (eqb offset at.setup_idx) (setup_index_orderly v)
      (branch P (eqb offset at.gpe0_sts) write_done
      (branch P (eqb offset at.gpe0_en) write_done (branch P (eqb offset at.setup_data) (setup_orderly v) (kept refl)))))))))

pub acpi_orderly : (a : Acpi) (offset : ℕ) (x : Access) → Orderly a x.write (acpi_access a offset x)
unfolding acpi_access
acpi_orderly a offset x =
    let P : Result Acpi → Type 0 = Orderly a x.write in
    branch P (takes offset x.width)
    (branch_on P x.write (λ e. write_orderly a x.write offset x.value) (λ e. rw e (read_orderly a offset)))
    (kept refl)
