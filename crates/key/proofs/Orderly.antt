-- An access that is not done leaves the key bytes unchanged, a write returns the value 0, and the status is one of those in the
-- table. Shown branch by branch.
use Prim.Native.Nat.{ℕ, ◌%◌}
use mathlib.Core.Path.{refl}
use mathlib.Core.Bool.{Bool}
use Rattle.access.specs.Block.{takes_byte}
use Rattle.access.proofs.Block.{Orderly, StatusInTable, kept, read_kept, write_done}
use Rattle.access.specs.declared.Access.{Access}
use Rattle.mask.proofs.Branch.{branch, branch_on}
use Rattle.mask.specs.Mask.{has_bit}
use Rattle.key.specs.Key.{key_access, key_read, key_write, read_lock, write_lock}
use Rattle.key.specs.declared.Key.{Key}

read_status : (k : Key) (control offset : ℕ) → StatusInTable (key_read k control offset)
unfolding key_read
read_status k control offset = branch StatusInTable (has_bit read_lock control) refl refl

write_orderly : (k : Key) (control offset v : ℕ) {w : Bool} → Orderly k w (key_write k control offset v)
unfolding key_write
write_orderly k control offset v {w} = branch (Orderly k w) (has_bit write_lock control) (kept refl) write_done

pub key_orderly : (k : Key) (control offset : ℕ) (x : Access) → Orderly k x.write (key_access k control offset x)
unfolding key_access
key_orderly k control offset x =
    let w = x.write in
    branch (Orderly k w) (takes_byte x.width)
    (branch_on (Orderly k w) w (λ _. write_orderly k control offset (x.value % 256)) (λ e. rw e (read_kept (read_status k control offset))))
    (kept refl)
