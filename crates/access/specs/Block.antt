-- What a register block returns for an access: the answer, and the block after the access. All blocks use this type.
use Rattle.std.specs.Prelude.{ℕ, Bool, eqb}
use Rattle.access.specs.Status.{Answer, answer_of, status_only}
use Rattle.access.specs.declared.Reply.{Reply}

pub record Result (B : Type 0) : Type 0 where
  pub answer : Answer
  pub block : B

abbrev pub with_block : {B : Type 0} → Answer → B → Result B
with_block r b = record { answer = r; block = b }

-- "Blocks 1, 3 and 4 take width 1 only, else status 1."
abbrev pub takes_byte : ℕ → Bool
takes_byte width = eqb width 1

-- a write, or a read that is not done. "A write's value answer is 0."
abbrev pub status : {B : Type 0} → ℕ → B → Result B
status s b = with_block (status_only s) b

-- the reply of the code, in the numbers of the table of statuses
abbrev pub reply_of : {B : Type 0} → Reply B → Result B
reply_of r = with_block (answer_of r.answer) r.block
