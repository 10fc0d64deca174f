-- What `assemble` writes to standard output, and which refusal it prints. See docs/TEXT.md, "Reading: refusals".
use Rattle.std.specs.Prelude.{ℕ, ◌≡◌, cond, List, [], eqb, Result, Ok, Err}
use Rattle.assembler.specs.Assemble.{record_bytes, text_records, text_refusal}
use Rattle.assembler.specs.declared.LineRefused.{LineRefused}
use Rattle.outcome.specs.Refused.{refusal_number}
use Rattle.refusal_text.specs.Refused.{Put}

-- refusal 0 and the length of the output in bytes, or a refusal with its place
pub record Answer : Type 0 where
  pub refusal : ℕ
  pub place : ℕ
  pub length : ℕ

abbrev pub answer_of : Result ℕ LineRefused → Answer
answer_of (Ok n) = record { refusal = 0; place = 0; length = n }
answer_of (Err r) = record { refusal = refusal_number r.kind; place = r.line; length = 0 }

-- the records of the text; nothing if it is refused
unfoldable pub output : (text buffer : List ℕ) → List ℕ
output text buffer = cond (eqb (text_refusal text buffer).number 0) (record_bytes (text_records text)) []

-- the refusal, and the output in the front of the buffer. `buffer` is the record buffer before the call, `after` after it
pub record Answered (text buffer after : List ℕ) (r : Answer) : Type 0 where
  pub number : r.refusal ≡ (text_refusal text buffer).number
  pub place : r.place ≡ (text_refusal text buffer).place
  pub written : Put (output text buffer) after r.length
