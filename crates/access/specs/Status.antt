-- The answer to an access: the status, and the value of a read. See docs/CHIP.md, "Accesses". The statuses are:
--     0 done; 1 no block owns the port, or its owner does not accept the access; 2 blocked by a lock, or a write to a
--     read-only register; 4 no register at the index; 5 the written value is ignored
-- 3 is retired. A later request: "remove it from the table and from every caller; its number isn't used again"
use Rattle.std.specs.Prelude.{ℕ, Bool, cond, ◌||◌, eqb}
use Rattle.width.specs.Width.{all_ones}
use Rattle.access.specs.declared.Answer as code
use Rattle.access.specs.declared.Status.{Status}
use Rattle.access.specs.declared.Status.TheVariants.{Done, Unclaimed, Blocked, Absent, Ignored}

-- the status is one of the numbers above
pub record Answer : Type 0 where
  pub status : ℕ
  pub value : ℕ

-- the statuses above; every access to every device has one of them (`access_status` in the proofs of `device`)
abbrev pub is_status : ℕ → Bool
is_status s = eqb s 0 || eqb s 1 || eqb s 2 || eqb s 4 || eqb s 5

abbrev pub done : ℕ → Answer
done v = record { status = 0; value = v }

-- a write, or a read that is not done; the device replaces the value of such a read by `read_value`
abbrev pub status_only : ℕ → Answer
status_only s = record { status = s; value = 0 }

-- "Read gives": the value at status 0, "all ones of the width" at status 1, otherwise 0
unfoldable pub read_value : ℕ → ℕ → ℕ → ℕ
read_value status width value = cond (eqb status 0) value (cond (eqb status 1) (all_ones width) 0)

-- ---- the statuses and the answers of the code, in the numbers of the table
abbrev pub status_number : Status → ℕ
status_number Done = 0
status_number Unclaimed = 1
status_number Blocked = 2
status_number Absent = 4
status_number Ignored = 5

abbrev pub answer_of : code.Answer → Answer
answer_of a = record { status = a.status; value = a.value }
