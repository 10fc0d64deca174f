-- The fresh monitor is in range, and every reset, access and event keeps it in range: values are masked when they are stored,
-- and bits are set and cleared only within the mask.
use Prim.Native.Nat.{ℕ, ◌-◌, ◌%◌, ◌<◌}
use mathlib.Core.Path.{◌≡◌, refl}
use mathlib.Core.Bool.{true}
use mathlib.Core.List.{map}
use native.Mathlib.Omega.{arith}
use borrow.Author.Tests.{eqb-true, ltb-true}
use lib.Bits.{and_mask, bit_and, bit_or}
use lib.Dec.{eqb, ltb}
use lib.ListN.{get_or}
use Rattle.access.specs.Block.{Result, takes_byte}
use Rattle.access.specs.declared.Access.{Access}
use Rattle.mask.proofs.Branch.{branch, branch_on}
use Rattle.mask.proofs.Every.{all_at, all_true}
use Rattle.mask.proofs.Mask.{within_and, within_masked, within_or}
use Rattle.mask.proofs.Store.{all_stored}
use Rattle.mask.specs.Mask.{cleared, within}
use Rattle.monitor.proofs.Table.{map_at, reset_within_lem, slot_below, stored_at_slot}
use Rattle.monitor.specs.Index as at
use Rattle.monitor.specs.Monitor.{
  data_read,
  fresh_monitor,
  lock_set,
  lockable_write,
  monitor_access,
  monitor_event,
  monitor_in_range,
  monitor_reset,
  register,
  with_register,
  write_as,
}
use Rattle.monitor.specs.Table.{
  absent,
  kind_of,
  lock,
  lockable,
  mask_of,
  read_only,
  reset_of,
  slot_of,
  stored_indices,
  never_locked,
  write1_clears,
}
use Rattle.monitor.specs.declared.Monitor.{Monitor}

-- each reset value is within its mask, so the fresh monitor is in range
pub fresh_in_range : monitor_in_range fresh_monitor ≡ true
fresh_in_range =
    all_true 12 (λ k. within (mask_of (get_or stored_indices k 0)) (get_or (map reset_of stored_indices) k 0))
    (λ k l. rw (map_at reset_of stored_indices k l) (reset_within_lem (get_or stored_indices k 0)
    (ltb-true (get_or stored_indices k 0) 256 (all_at 12 (λ j. ltb (get_or stored_indices j 0) 256) refl k l))))

-- the monitor after an access is in range
abbrev ResultInRange : Result Monitor → Type 0
ResultInRange r = monitor_in_range r.block ≡ true

module _ (m : Monitor) (h : monitor_in_range m ≡ true) where
  pub reset_in_range : (level : ℕ) → monitor_in_range (monitor_reset m level) ≡ true
  reset_in_range level = branch (λ n. monitor_in_range n ≡ true) (eqb level 0) h fresh_in_range

  -- ---- the register at an index, if it is stored
  module _ (i : ℕ) (s : read_only < kind_of i) where
    register_within : within (mask_of i) (register m i) ≡ true
    register_within =
        rw (stored_at_slot i s) at (all_at 12 (λ k. within (mask_of (get_or stored_indices k 0)) (get_or m.registers k 0)) h
        (slot_of i) (slot_below i s))

    with_register_in_range : (v : ℕ) → within (mask_of i) v ≡ true → monitor_in_range (with_register m i v) ≡ true
    with_register_in_range v k =
        all_stored 12 (λ k. within (mask_of (get_or stored_indices k 0))) m.registers (slot_of i) v
        (rw (stored_at_slot i s) k) h

    lockable_in_range : (v : ℕ) → within (mask_of i) v ≡ true → ResultInRange (lockable_write m i v)
    unfolding lockable_write
    lockable_in_range v k = branch ResultInRange (lock_set m) h (with_register_in_range v k)

  module _ (i v : ℕ) where
    masked : within (mask_of i) (bit_and v (mask_of i)) ≡ true
    masked = within_masked (mask_of i) v

    write_in_range : (kind : ℕ) → kind ≡ kind_of i → ResultInRange (write_as kind m i v)
    unfolding write_as
    write_in_range kind e =
        branch_on ResultInRange (eqb kind lock)
        (λ t. lockable_in_range i (changes lock t (omega arith)) (bit_or (register m i) (bit_and v (mask_of i)))
        (within_or (mask_of i) (register m i) (bit_and v (mask_of i)) (register_within i (changes lock t (omega arith)))
        masked))
        (λ _. branch ResultInRange (eqb kind read_only) h
        (branch_on ResultInRange (eqb kind lockable)
        (λ t. lockable_in_range i (changes lockable t (omega arith)) (bit_and v (mask_of i)) masked)
        (λ _. branch_on ResultInRange (eqb kind write1_clears)
        (λ t. with_register_in_range i (changes write1_clears t (omega arith)) (cleared 0xFF (register m i) v)
        (within_and (mask_of i) (register m i) (0xFF - v) (register_within i (changes write1_clears t (omega arith)))))
        (λ _. branch_on ResultInRange (eqb kind never_locked)
        (λ t. with_register_in_range i (changes never_locked t (omega arith)) (bit_and v (mask_of i)) masked)
        (λ _. h)))))
      where
        changes : (k : ℕ) → eqb kind k ≡ true → read_only < k → read_only < kind_of i
        changes k t l = let d = eqb-true kind k t in omega (arith, d, e, l)

  read_in_range : ResultInRange (data_read m)
  unfolding data_read
  read_in_range = branch ResultInRange (eqb (kind_of m.index) absent) h h

  pub access_in_range : (offset : ℕ) (x : Access) → monitor_in_range (monitor_access m offset x).block ≡ true
  unfolding monitor_access
  access_in_range offset x =
      branch ResultInRange (takes_byte x.width)
      (branch ResultInRange (eqb offset 0) (branch ResultInRange x.write h h)
      (branch ResultInRange x.write (write_in_range m.index (x.value % 256) (kind_of m.index) refl) read_in_range))
      h

  pub event_in_range : (kind operand : ℕ) → monitor_in_range (monitor_event m kind operand) ≡ true
  event_in_range kind operand =
      branch (λ n. monitor_in_range n ≡ true) (eqb kind 5)
      (with_register_in_range at.voltage_status (omega arith) (bit_or (register m at.voltage_status) (operand % 4))
      (within_or 0x03 (register m at.voltage_status) (operand % 4) (register_within at.voltage_status (omega arith))
      (rw (← (and_mask operand 2)) (within_masked 0x03 operand))))
      h
