-- From one bay to the block: what holds of a bay before and after a write to one of its registers, and before and after a line event, holds
-- of each bay of the block. The other registers leave both bays unchanged.
use Prim.Native.Nat.{ℕ, ◌/◌, ◌%◌}
use mathlib.Core.Bool.{Bool, true, false, cond}
use lib.Dec.{eqb}
use Rattle.access.specs.Block.{Result}
use Rattle.access.specs.declared.Access.{Access}
use Rattle.mask.proofs.Branch.{branch}
use Rattle.bays.specs.Bay.{control_write, status_write}
use Rattle.bays.specs.Bays.{bays_access, bays_event, decoded_access, lines_kind}
use Rattle.bays.specs.Lines.{lines_event}
use Rattle.bays.specs.Registers.{Decoded, Nowhere, To, bay_of, bays, decode, register_write, with_bay}
use Rattle.bays.specs.declared.Bays.{Bays}
use Rattle.bays.specs.declared.bay.Bay.{Bay}
use Rattle.bays.specs.declared.registers.Register.{Register}
use Rattle.bays.specs.declared.registers.Register.TheVariants.{
  VendorId,
  RevisionId,
  SubsystemVendorId,
  SubsystemId,
  Capabilities,
  Control,
  Status,
}

-- `R before after` says something of a bay before and after, and holds of a bay that stays
module _ (R : Bay → Bay → Type 0) (same : (b : Bay) → R b b) (s : Bays) (n : ℕ) where
  -- bay n, if bay m is changed
  one_changed : (m : ℕ) (b : Bay) → R (bay_of s m) b → R (bay_of s n) (bay_of (with_bay s m b) n)
  unfolding bay_of with_bay
  one_changed m b r = pick (eqb m 0) (eqb n 0) r
    where
      put0 : Bays
      put0 = bays s.subvendor s.subsystem s.capabilities b s.bay1

      put1 : Bays
      put1 = bays s.subvendor s.subsystem s.capabilities s.bay0 b

      pick :
          (p q : Bool) → R (cond p s.bay0 s.bay1) b
          → R (cond q s.bay0 s.bay1) (cond q (cond p put0 put1).bay0 (cond p put0 put1).bay1)
      pick true true r = r
      pick true false r = same s.bay1
      pick false true r = same s.bay0
      pick false false r = r

  pub each_event :
      ((b : Bay) (operand : ℕ) → R b (lines_event b operand))
      → (kind operand : ℕ) → R (bay_of s n) (bay_of (bays_event s kind operand) n)
  unfolding bays_event
  each_event change kind operand =
      let m = operand / 16 % 2 in
      branch (λ (t : Bays). R (bay_of s n) (bay_of t n)) (eqb kind lines_kind)
      (one_changed m (lines_event (bay_of s m) operand) (change (bay_of s m) operand))
      (same (bay_of s n))

  module _ (control : (b : Bay) (v : ℕ) → R b (control_write b v)) (status : (b : Bay) (v : ℕ) → R b (status_write b v)) where
    abbrev Each : Result Bays → Type 0
    Each r = R (bay_of s n) (bay_of r.block n)

    each_write : (r : Register) (v : ℕ) → Each (register_write s r v)
    unfolding register_write bay_of
    each_write VendorId v = same (bay_of s n)
    each_write RevisionId v = same (bay_of s n)
    each_write SubsystemVendorId v = same (bay_of s n)
    each_write SubsystemId v = same (bay_of s n)
    each_write Capabilities v = same (bay_of s n)
    each_write (Control m) v = one_changed m (control_write (bay_of s m) v) (control (bay_of s m) v)
    each_write (Status m) v = one_changed m (status_write (bay_of s m) v) (status (bay_of s m) v)

    each_decoded : (d : Decoded) (x : Access) → Each (decoded_access s d x)
    unfolding decoded_access
    each_decoded (To r) x = branch Each x.write (each_write r x.value) (same (bay_of s n))
    each_decoded Nowhere x = same (bay_of s n)

    pub each_access : (offset : ℕ) (x : Access) → R (bay_of s n) (bay_of (bays_access s offset x).block n)
    unfolding bays_access
    each_access offset x = each_decoded (decode offset x.width) x
