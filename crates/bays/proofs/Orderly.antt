-- An access that is not done leaves the bays unchanged, a write returns the value 0, and the status is one of those in the table. Shown
-- register by register: a register that is written once either takes the value, or keeps it and answers status 2.
use Prim.Native.Nat.{ℕ}
use mathlib.Core.Path.{◌≡◌, refl}
use mathlib.Core.Bool.{Bool, true, false, cond}
use Rattle.access.proofs.Block.{Orderly, kept, read_kept, write_done}
use Rattle.access.specs.Block.{Result, status}
use Rattle.access.specs.declared.Access.{Access}
use Rattle.bays.specs.Bays.{bays_access, decoded_access}
use Rattle.bays.specs.Once.{after_write, write_status}
use Rattle.bays.specs.Registers.{Decoded, Nowhere, To, capabilities_from, decode, register_write, with_capabilities, with_subsystem, with_subvendor}
use Rattle.bays.specs.declared.Bays.{Bays}
use Rattle.bays.specs.declared.once.Once.{Once}
use Rattle.bays.specs.declared.registers.Register.{Register}
use Rattle.bays.specs.declared.registers.Register.TheVariants.{
  VendorId,
  RevisionId,
  SubsystemVendorId,
  SubsystemId,
  Capabilities,
  Control,
  Status,
}

module _ (s : Bays) where
  -- a register that is written once: `put` stores it, and changes nothing if it stores what is there
  once_orderly : (put : Once → Bays) (o : Once) (v : ℕ) → put o ≡ s → Orderly s true (status (write_status o) (put (after_write o v)))
  unfolding write_status after_write
  once_orderly put o v e = pick o.written
    where
      pick : (w : Bool) → Orderly s true (status (cond w 2 0) (put (cond w o (record { value = v; written = true }))))
      pick true = rw e (kept refl)
      pick false = write_done

  write_orderly : (r : Register) (v : ℕ) → Orderly s true (register_write s r v)
  unfolding register_write
  write_orderly VendorId v = kept refl
  write_orderly RevisionId v = kept refl
  write_orderly SubsystemVendorId v = once_orderly (with_subvendor s) s.subvendor _ refl
  write_orderly SubsystemId v = once_orderly (with_subsystem s) s.subsystem _ refl
  write_orderly Capabilities v = once_orderly (with_capabilities s) s.capabilities (capabilities_from v) refl
  write_orderly (Control n) v = write_done
  write_orderly (Status n) v = write_done

  -- a write or a read
  either : (w : Bool) {r t : Result Bays} → Orderly s true r → Orderly s false t → Orderly s w (cond w r t)
  either true p q = p
  either false p q = q

  decoded_orderly : (d : Decoded) (x : Access) → Orderly s x.write (decoded_access s d x)
  unfolding decoded_access
  decoded_orderly (To r) x = either x.write (write_orderly r x.value) (read_kept refl)
  decoded_orderly Nowhere x = kept refl

  pub bays_orderly : (offset : ℕ) (x : Access) → Orderly s x.write (bays_access s offset x)
  unfolding bays_access
  bays_orderly offset x = decoded_orderly (decode offset x.width) x
