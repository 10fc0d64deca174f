-- The listing of a script, and what the lister returns and writes. See docs/TEXT.md, "Listing".
use Rattle.std.specs.Prelude.{ℕ, suc, ◌+◌, ◌-◌, ◌*◌, ◌/◌, ◌%◌, cond, ◌||◌, List, [], ◌∷◌, ◌++◌, eqb, leb, ltb, drop, length, replicate, Result, Ok, Err}
use Rattle.digits.specs.Text.{byte_text, decimal_text, hex_text}
use Rattle.outcome.specs.Number as number
use Rattle.outcome.specs.Refusal.{Refusal, refusal}
use Rattle.outcome.specs.Refused.{refusal_number}
use Rattle.outcome.specs.declared.Refused.{Refused}
use Rattle.record.specs.declared.Record.{Record}
use Rattle.script.specs.Kind as kind
use Rattle.script.specs.Records.{records_of}
use Rattle.script.specs.Refusals.{bad_length}
use Rattle.script.specs.Scan.{shape_fault}
use Rattle.statement.specs.Grammar.{delay_word, else_word, end_word, if_word, read_word, repeat_word, write_word}

-- ---- the margin of a line; `depth` is the number of blocks that are open before its record

-- an else and an end stand one block further out
abbrev pub line_depth : (depth kind : ℕ) → ℕ
line_depth depth k = cond (eqb k kind.else || eqb k kind.end) (depth - 1) depth

-- four spaces for each block, at most for 16 blocks
unfoldable pub margin_length : (depth kind : ℕ) → ℕ
margin_length depth k = 4 * cond (leb (line_depth depth k) 16) (line_depth depth k) 16

abbrev pub margin : (depth kind : ℕ) → List ℕ
margin depth k = replicate (margin_length depth k) 0x20

-- how many blocks are open after a record
unfoldable pub depth_after : (depth kind : ℕ) → ℕ
depth_after depth k = cond (eqb k kind.repeat || eqb k kind.if) (suc depth) (cond (eqb k kind.end) (depth - 1) depth)

-- ---- the statement of a record

-- a width is one digit
abbrev pub width_text : ℕ → List ℕ
width_text w = (0x30 + w) ∷ []

-- two bytes in hex
abbrev pub pair_text : ℕ → List ℕ
pair_text n = byte_text (n / 256 % 256) ++ byte_text (n % 256)

abbrev pub port_text : ℕ → List ℕ
port_text p = pair_text p ++ (0x68 ∷ [])

-- two digits for each byte of the width
abbrev pub bytes_text : (width value : ℕ) → List ℕ
bytes_text w v = cond (eqb w 1) (byte_text (v % 256)) (cond (eqb w 2) (pair_text v) (hex_text v))

-- how many digits that is
abbrev pub bytes_length : (width : ℕ) → ℕ
bytes_length w = cond (eqb w 1) 2 (cond (eqb w 2) 4 8)

abbrev pub value_text : (width value : ℕ) → List ℕ
value_text w v = bytes_text w v ++ (0x68 ∷ [])

-- a space, width and port; and the value
abbrev pub access_text : Record → List ℕ
access_text r = 0x20 ∷ (width_text r.width ++ (0x20 ∷ port_text r.port))

abbrev pub access_value_text : Record → List ℕ
access_value_text r = access_text r ++ (0x20 ∷ value_text r.width r.value)

-- a space, and the count
abbrev pub count_text : Record → List ℕ
count_text r = 0x20 ∷ decimal_text r.value

unfoldable pub statement_text : Record → List ℕ
statement_text r =
    cond (eqb r.kind kind.write) (write_word ++ access_value_text r)
    (cond (eqb r.kind kind.read) (read_word ++ access_text r)
    (cond (eqb r.kind kind.delay) (delay_word ++ count_text r)
    (cond (eqb r.kind kind.repeat) (repeat_word ++ count_text r)
    (cond (eqb r.kind kind.if) (if_word ++ access_value_text r) (cond (eqb r.kind kind.else) else_word end_word)))))

-- ---- the listing

-- a line without its line feed
unfoldable pub line_text : (depth : ℕ) → Record → List ℕ
line_text depth r = margin depth r.kind ++ statement_text r

abbrev pub listing_from : (depth : ℕ) → List Record → List ℕ
listing_from depth [] = []
listing_from depth (r ∷ rs) = line_text depth r ++ (0x0A ∷ listing_from (depth_after depth r.kind) rs)

unfoldable pub listing : List ℕ → List ℕ
listing script = listing_from 0 (records_of script)

-- ---- refusals

-- the first record with a wrong mark, kind or field: 2, 3 or 4
abbrev pub first_wrong : (place : ℕ) → List Record → Refusal
first_wrong place [] = refusal 0 0
first_wrong place (r ∷ rs) = cond (eqb (shape_fault r) 0) (first_wrong (suc place) rs) (refusal (shape_fault r) place)

-- "1 to 4"
unfoldable pub script_fault : List ℕ → Refusal
script_fault script = cond (bad_length script) (refusal number.bad_length 0) (first_wrong 0 (records_of script))

-- "then 34 text buffer too short", with place 0
unfoldable pub list_refusal : (script buffer : List ℕ) → Refusal
list_refusal script buffer =
    cond (eqb (script_fault script).number 0)
    (cond (ltb (length buffer) (length (listing script))) (refusal number.text_too_short 0) (refusal 0 0))
    (script_fault script)

-- refusal 0 and the length of the listing, or a refusal with its place
pub record ListResult : Type 0 where
  pub refusal : ℕ
  pub place : ℕ
  pub length : ℕ

-- the answer: a refusal, or the length of the listing
abbrev pub answer : Refusal → ℕ → ListResult
answer f n = record { refusal = f.number; place = f.place; length = cond (eqb f.number 0) n 0 }

abbrev pub refused_at : (number place : ℕ) → ListResult
refused_at n p = record { refusal = n; place = p; length = 0 }

-- refusals 1 to 4, or the length of the listing
unfoldable pub measured : List ℕ → ListResult
measured script = answer (script_fault script) (length (listing script))

unfoldable pub list_result : (script buffer : List ℕ) → ListResult
list_result script buffer = answer (list_refusal script buffer) (length (listing script))

-- the result of a call of `list` as these numbers
abbrev pub listed : Result ℕ Refused → ListResult
listed (Ok length) = record { refusal = 0; place = 0; length = length }
listed (Err r) = refused_at (refusal_number r.kind) r.place

-- a text in the front of a buffer
unfoldable pub with_text : (text buffer : List ℕ) → List ℕ
with_text text buffer = text ++ drop (length text) buffer

-- "a refusal writes to no lent buffer, and success leaves the rest as lent"
unfoldable pub text_after : (script buffer : List ℕ) → List ℕ
text_after script buffer = cond (eqb (list_refusal script buffer).number 0) (with_text (listing script) buffer) buffer
