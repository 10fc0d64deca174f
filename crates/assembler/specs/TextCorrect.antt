-- What is promised of reading a text script. See docs/TEXT.md.
-- "Text is accepted exactly when it is in the grammar and meets none of 30, 32 and 33; it has one reading, and that reading becomes script
-- records."
use Rattle.std.specs.Prelude.{ℕ, suc, ◌*◌, ◌≤◌, ◌<◌, ◌≡◌, true, List, ◌∷◌, length}
use Rattle.lists.specs.All.{All}
use Rattle.record.specs.declared.Record.{Record}
use Rattle.script.specs.Records.{records_of}
use Rattle.script.specs.Scan.{shape_fault}
use Rattle.statement.specs.Grammar.{Line}
use Rattle.statement.specs.Line.{fits_fields}
use Rattle.assembler.specs.Assemble.{AssembleResult, assemble_result, lines_of, record_bytes, records_after, with_records}
use Rattle.assembler.specs.Grammar.{Lines, Text}

-- every number of the records fits
abbrev pub Fit : List Record → Type 0
Fit = All (λ r. fits_fields r ≡ true)

abbrev pub ShortLines : List ℕ → Type 0
ShortLines text = All (λ l. length l ≤ 120) (lines_of text)

-- none of 30, 32 and 33 for a text with these records
pub record NoRefusal (text : List ℕ) (rs : List Record) (buffer : List ℕ) : Type 0 where
  pub short_lines : ShortLines text
  pub numbers_fit : Fit rs
  pub room : 12 * length rs ≤ length buffer

-- the records are written to the front of the buffer, and the rest of it is as it was
pub record Written (text : List ℕ) (rs : List Record) (buffer : List ℕ) : Type 0 where
  pub answer : assemble_result text buffer ≡ record { refusal = 0; place = 0; records = length rs }
  pub after : records_after text buffer ≡ with_records rs buffer

-- the reading of an accepted text
pub record Accepted (text buffer : List ℕ) : Type 0 where
  pub records : List Record
  pub in_grammar : Text text records
  pub no_refusal : NoRefusal text records buffer
  pub written : Written text records buffer

-- "that reading becomes script records": the bytes of the records are read as these records, and none of them has the compiler's refusals 2 to 4
pub record AreScript (rs : List Record) : Type 0 where
  pub same : records_of (record_bytes rs) ≡ rs
  pub faultless : All (λ r. shape_fault r ≡ 0) rs

-- ---- refusals

pub data GoodLine (l : List ℕ) : Type 0 where
  good : {rs : List Record} → length l ≤ 120 → Line l rs → Fit rs → GoodLine l

-- "30 line too long, 31 not in the grammar, 32 number too big for its field or against 4"; "least number first"
pub data BadLine (l : List ℕ) : (number : ℕ) → Type 0 where
  too_long : 120 < length l → BadLine l 30
  not_in_grammar : length l ≤ 120 → ((rs : List Record) → Line l rs → ⊥) → BadLine l 31
  too_big : {rs : List Record} → length l ≤ 120 → Line l rs → (Fit rs → ⊥) → BadLine l 32

-- "the first bad line, from 0, is the place"
pub data FirstBad : List (List ℕ) → (number place : ℕ) → Type 0 where
  here : {l : List ℕ} {ls : List (List ℕ)} {n : ℕ} → BadLine l n → FirstBad (l ∷ ls) n 0
  later : {l : List ℕ} {ls : List (List ℕ)} {n p : ℕ} → GoodLine l → FirstBad ls n p → FirstBad (l ∷ ls) n (suc p)

-- "33 record buffer too short"; "33 only when no line is bad; 33 and 34 have place 0"
pub data Refused (text buffer : List ℕ) : AssembleResult → Type 0 where
  bad_line : {n p : ℕ} → FirstBad (lines_of text) n p → Refused text buffer (record { refusal = n; place = p; records = 0 })
  no_room : {rs : List Record} → Text text rs → ShortLines text → Fit rs → length buffer < 12 * length rs
      → Refused text buffer (record { refusal = 33; place = 0; records = 0 })

-- ---- the theorem

pub record TextCorrect : Type 0 where
  -- `lines_of` gives the lines of every text, and a text is divided into lines in one way only
  pub divided : (text : List ℕ) → Lines text (lines_of text)
  pub one_division : (text : List ℕ) (ls : List (List ℕ)) → Lines text ls → ls ≡ lines_of text
  -- what is accepted is in the grammar, and has none of the refusals
  pub accepted : (text buffer : List ℕ) → (assemble_result text buffer).refusal ≡ 0 → Accepted text buffer
  -- what is in the grammar and has none of the refusals is accepted, and its reading is what is written
  pub accepts : (text buffer : List ℕ) (rs : List Record) → Text text rs → NoRefusal text rs buffer → Written text rs buffer
  -- a text has one reading
  pub one_reading : (text : List ℕ) (rs ss : List Record) → Text text rs → Text text ss → rs ≡ ss
  -- records of the grammar whose numbers fit are script records
  pub are_script : (text : List ℕ) (rs : List Record) → Text text rs → Fit rs → AreScript rs
  -- what is not accepted is refused for a reason, and leaves the buffer as it was
  pub refused : (text buffer : List ℕ) → ((assemble_result text buffer).refusal ≡ 0 → ⊥)
      → Refused text buffer (assemble_result text buffer) × (records_after text buffer ≡ buffer)
