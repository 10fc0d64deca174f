-- What holds for the answer of every block: "Apart from the settling below, statuses 1 to 5 change nothing", "A write's value answer
-- is 0", and the status is one of those in the table. Each block proves it for its own access. One of the four lemmas below closes each
-- branch.
use Prim.Native.Nat.{ℕ}
use mathlib.Core.Path.{◌≡◌, refl}
use mathlib.Core.Bool.{Bool, true, false}
use native.Mathlib.Omega.{arith}
use Rattle.access.specs.Block.{Result, with_block, status}
use Rattle.access.specs.Status.{Answer, done, is_status}

-- the status of the answer is one of those in the table
abbrev pub StatusInTable : Answer → Type 0
StatusInTable r = is_status r.status ≡ true

pub record Orderly {B : Type 0} (before : B) (write : Bool) (r : Result B) : Type 0 where
  pub unchanged : (r.answer.status ≡ 0 → ⊥) → r.block ≡ before
  pub write_zero : write ≡ true → r.answer.value ≡ 0
  pub status_in_table : StatusInTable r.answer

module _ {B : Type 0} {b : B} where
  -- a write that is done may change the block
  pub write_done : {w : Bool} {next : B} → Orderly b w (status 0 next)
  write_done = record { unchanged = λ n. absurd (n refl); write_zero = λ e. refl; status_in_table = refl }

  -- an answer without a value, with any status of the table, and the block is unchanged
  pub kept : {w : Bool} {s : ℕ} → is_status s ≡ true → Orderly b w (status s b)
  kept l = record { unchanged = λ n. refl; write_zero = λ e. refl; status_in_table = l }

  -- a read that is done may change the block too
  pub read_done : {v : ℕ} {next : B} → Orderly b false (with_block (done v) next)
  read_done = record {
    unchanged = λ n. absurd (n refl);
    write_zero = λ e. let z : ◌≡◌ {A = ℕ} 0 1 = cc in absurd (omega arith);
    status_in_table = refl;
  }

  -- a read with any status of the table, and the block is unchanged
  pub read_kept : {r : Answer} → StatusInTable r → Orderly b false (with_block r b)
  read_kept l = record {
    unchanged = λ n. refl;
    write_zero = λ e. let z : ◌≡◌ {A = ℕ} 0 1 = cc in absurd (omega arith);
    status_in_table = l;
  }
