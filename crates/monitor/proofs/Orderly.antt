-- For every access to the monitor, branch by branch: "Apart from the settling below, statuses 1 to 5 change nothing", "A write's value
-- answer is 0", and the status is one of those in the table.
use Prim.Native.Nat.{ℕ, ◌%◌}
use mathlib.Core.Path.{refl}
use mathlib.Core.Bool.{Bool, true, false, cond}
use lib.Dec.{eqb}
use Rattle.access.proofs.Block.{Orderly, kept, read_kept, write_done}
use Rattle.access.specs.Block.{Result, takes_byte}
use Rattle.access.specs.declared.Access.{Access}
use Rattle.mask.proofs.Branch.{branch}
use Rattle.monitor.specs.Monitor.{
  data_read,
  lock_set,
  lockable_write,
  monitor_access,
  write_as,
}
use Rattle.monitor.specs.Table.{absent, kind_of, lock, lockable, read_only, never_locked, write1_clears}
use Rattle.monitor.specs.declared.Monitor.{Monitor}

module _ (m : Monitor) where
  lockable_write_lem : (i v : ℕ) → Orderly m true (lockable_write m i v)
  unfolding lockable_write
  lockable_write_lem i v = branch (Orderly m true) (lock_set m) (kept refl) write_done

  write_as_lem : (kind i v : ℕ) → Orderly m true (write_as kind m i v)
  unfolding write_as
  write_as_lem kind i v =
      branch (Orderly m true) (eqb kind lock) (lockable_write_lem i _)
      (branch (Orderly m true) (eqb kind read_only) (kept refl)
      (branch (Orderly m true) (eqb kind lockable) (lockable_write_lem i _)
      (branch (Orderly m true) (eqb kind write1_clears) write_done
      (branch (Orderly m true) (eqb kind never_locked) write_done (kept refl)))))

  data_read_lem : Orderly m false (data_read m)
  unfolding data_read
  data_read_lem = branch (Orderly m false) (eqb (kind_of m.index) absent) (kept refl) (read_kept refl)

  -- a write or a read
  either : (w : Bool) {r s : Result Monitor} → Orderly m true r → Orderly m false s → Orderly m w (cond w r s)
  either true p q = p
  either false p q = q

  pub monitor_orderly : (offset : ℕ) (x : Access) → Orderly m x.write (monitor_access m offset x)
  unfolding monitor_access
  monitor_orderly offset x =
      branch (Orderly m x.write) (takes_byte x.width)
      (branch (Orderly m x.write) (eqb offset 0) (either x.write write_done (read_kept refl))
      (either x.write (write_as_lem (kind_of m.index) m.index (x.value % 256)) data_read_lem))
      (kept refl)
