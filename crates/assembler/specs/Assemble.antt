-- What the assembler returns, and what it writes. See docs/TEXT.md, "Reading: refusals".
use Rattle.std.specs.Prelude.{ℕ, zero, suc, ◌+◌, ◌-◌, ◌*◌, ◌/◌, ◌≤◌, ◌<◌, ◌≡◌, Bool, false, cond, not, ◌&&◌, List, [], ◌∷◌, ◌++◌, eqb, ltb, drop, get_or, length, take}
use Rattle.compiler.specs.Words.{image_bytes}
use Rattle.outcome.specs.Number as number
use Rattle.outcome.specs.Refusal.{Refusal, refusal}
use Rattle.record.specs.Record.{bytes_of, record_size}
use Rattle.record.specs.declared.Record.{Record}
use Rattle.statement.specs.Line.{line_fault, line_records, not_semicolon}
use Rattle.assembler.specs.declared.LineSpan.{LineSpan}

-- ---- lines
abbrev pub not_line_feed : ℕ → Bool
not_line_feed b = not (eqb b 0x0A)

-- puts a byte in front of the first line
abbrev pub in_first : ℕ → List (List ℕ) → List (List ℕ)
in_first b [] = (b ∷ []) ∷ []
in_first b (l ∷ ls) = (b ∷ l) ∷ ls

-- "Lines end at a line feed or the text's end"
abbrev pub lines_of : List ℕ → List (List ℕ)
lines_of [] = []
lines_of (b ∷ bs) = cond (not_line_feed b) (in_first b (lines_of bs)) ([] ∷ lines_of bs)

-- "the first bad line, from 0, is the place, least number first"
abbrev pub first_bad_line : (place : ℕ) → List (List ℕ) → Refusal
first_bad_line place [] = refusal 0 0
first_bad_line place (l ∷ ls) =
    cond (eqb (line_fault l) 0) (first_bad_line (suc place) ls) (refusal (line_fault l) place)

abbrev pub records_in : List (List ℕ) → List Record
records_in [] = []
records_in (l ∷ ls) = line_records l ++ records_in ls

-- ---- texts

unfoldable pub bad_line : List ℕ → Refusal
bad_line text = first_bad_line 0 (lines_of text)

unfoldable pub text_records : List ℕ → List Record
text_records text = records_in (lines_of text)

-- the bytes of records, 12 for each, as in an image
abbrev pub record_bytes : List Record → List ℕ
record_bytes = image_bytes

-- "33 record buffer too short": it has room for fewer records than the text has
abbrev pub no_room : (text buffer : List ℕ) → Bool
no_room text buffer = ltb (length buffer / record_size) (length (text_records text))

-- "33 only when no line is bad; 33 and 34 have place 0"
unfoldable pub text_refusal : (text buffer : List ℕ) → Refusal
text_refusal text buffer =
    cond (eqb (bad_line text).number 0) (cond (no_room text buffer) (refusal number.records_too_short 0) (refusal 0 0))
    (bad_line text)

-- refusal 0 and the number of records, or a refusal with its place
pub record AssembleResult : Type 0 where
  pub refusal : ℕ
  pub place : ℕ
  pub records : ℕ

-- the answer: a refusal, or the number of records
abbrev pub answer : Refusal → ℕ → AssembleResult
answer f n = record { refusal = f.number; place = f.place; records = cond (eqb f.number 0) n 0 }

-- refusals 30, 31 and 32, or the number of records
unfoldable pub check_result : List ℕ → AssembleResult
check_result text = answer (bad_line text) (length (text_records text))

unfoldable pub assemble_result : (text buffer : List ℕ) → AssembleResult
assemble_result text buffer = answer (text_refusal text buffer) (length (text_records text))

-- records in the front of a buffer
unfoldable pub with_records : List Record → List ℕ → List ℕ
with_records rs buffer = record_bytes rs ++ drop (record_size * length rs) buffer

-- "a refusal writes to no lent buffer, and success leaves the rest as lent"
unfoldable pub records_after : (text buffer : List ℕ) → List ℕ
records_after text buffer = cond (eqb (text_refusal text buffer).number 0) (with_records (text_records text) buffer) buffer

-- ---- the steps of the code

-- neither a line feed nor a semicolon
abbrev pub before_comment : ℕ → Bool
before_comment b = not_line_feed b && not_semicolon b

-- a record at its place in a buffer; without room for it, the buffer is unchanged
unfoldable pub put_record : (place : ℕ) → Record → List ℕ → List ℕ
put_record place r buffer =
    cond (ltb place (length buffer / record_size))
    (take (record_size * place) buffer ++ (bytes_of r ++ drop record_size (drop (record_size * place) buffer)))
    buffer

-- the record of a line, if the line has a statement
abbrev pub put_statements : (statements place : ℕ) → Record → List ℕ → List ℕ
put_statements n place r buffer = cond (eqb n 0) buffer (put_record place r buffer)

-- the lines are read: refusals 30, 31 and 32, or the number of records. If no line is bad and there is room for the records, they are written
pub record LinesRead (text buffer after : List ℕ) (r : AssembleResult) : Type 0 where
  pub answered : r ≡ check_result text
  pub lent : length after ≡ length buffer
  pub written : (bad_line text).number ≡ 0 → no_room text buffer ≡ false → after ≡ with_records (text_records text) buffer

-- where the line with this number starts: after the lines before it, each with its line feed
abbrev pub line_start : (place : ℕ) → List (List ℕ) → ℕ
line_start zero ls = 0
line_start (suc place) [] = 0
line_start (suc place) (l ∷ ls) = suc (length l) + line_start place ls

-- the line with this number. After the last line it is empty, at the end of the text
pub record LineAt (text : List ℕ) (place : ℕ) (span : LineSpan) : Type 0 where
  pub ordered : span.from ≤ span.to
  pub inside : span.to ≤ length text
  pub line : take (span.to - span.from) (drop span.from text) ≡ get_or (lines_of text) place []
  pub starts : place < length (lines_of text) → span.from ≡ line_start place (lines_of text)
  pub after_last : length (lines_of text) ≤ place → span.from ≡ length text
