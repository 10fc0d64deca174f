-- How a line of a text script is read: its bytes up to the comment are split into words, and the first word says which numbers must follow. The
-- contracts of src/lib.rt use these definitions. proofs/ shows that `is_line` holds for exactly the lines of the grammar (Grammar.antt), and that
-- `line_records` gives their records.
use Rattle.std.specs.Prelude.{ℕ, zero, suc, ◌+◌, ◌-◌, ◌*◌, Bool, true, false, cond, not, ◌&&◌, ◌||◌, List, [], ◌∷◌, eqb, leb, ltb, drop, get_or, length, take}
use Rattle.digits.specs.Read.{digit_of}
use Rattle.lists.specs.Tests.{first_from}
use Rattle.outcome.specs.Number as number
use Rattle.record.specs.declared.Record.{Record}
use Rattle.script.specs.Kind as kind
use Rattle.script.specs.Nested.{script_record}
use Rattle.script.specs.Refusals.{bad_fields}
use Rattle.statement.specs.Grammar.{delay_word, else_word, end_word, if_word, read_word, repeat_word, write_word}

-- ---- words

-- how many bytes at the start of a text pass the test
abbrev pub run : (ℕ → Bool) → List ℕ → ℕ
run p [] = 0
run p (b ∷ bs) = cond (p b) (suc (run p bs)) 0

-- a space or a tab
abbrev pub is_blank : ℕ → Bool
is_blank b = eqb b 0x20 || eqb b 0x09

abbrev pub not_blank : ℕ → Bool
not_blank b = not (is_blank b)

abbrev pub not_semicolon : ℕ → Bool
not_semicolon b = not (eqb b 0x3B)

-- a text without the blanks at its start
abbrev pub unindented : List ℕ → List ℕ
unindented s = drop (run is_blank s) s

-- the first word of a text, and the text after it. The word is empty if there are only blanks
unfoldable pub word : List ℕ → List ℕ
word s = take (run not_blank (unindented s)) (unindented s)

unfoldable pub after_word : List ℕ → List ℕ
after_word s = drop (run not_blank (unindented s)) (unindented s)

abbrev pub is_empty : List ℕ → Bool
is_empty [] = true
is_empty (b ∷ bs) = false

abbrev pub same_word : List ℕ → List ℕ → Bool
same_word [] [] = true
same_word [] (b ∷ bs) = false
same_word (a ∷ xs) [] = false
same_word (a ∷ xs) (b ∷ bs) = eqb a b && same_word xs bs

-- ---- numbers

-- the last byte of a text, or 0
abbrev pub last_byte : List ℕ → ℕ
last_byte s = get_or s (length s - 1) 0

-- a word that ends in `h` (68h) or `H` (48h) is a hex number
abbrev pub is_hex : List ℕ → Bool
is_hex w = eqb (last_byte w) 0x68 || eqb (last_byte w) 0x48

abbrev pub base_of : List ℕ → ℕ
base_of w = cond (is_hex w) 16 10

-- the digits are the whole word, or all but its last byte
abbrev pub digit_count : List ℕ → ℕ
digit_count w = cond (is_hex w) (length w - 1) (length w)

abbrev pub digits_in : List ℕ → List ℕ
digits_in w = take (digit_count w) w

-- each is a digit of this base; `digit_of` is 16 if the byte is not a digit
abbrev pub all_digits : (base : ℕ) → List ℕ → Bool
all_digits base [] = true
all_digits base (b ∷ bs) = ltb (digit_of b) base && all_digits base bs

-- the value of digits, the most significant first; `high` is the value of the digits before them
abbrev pub value_after : (high base : ℕ) → List ℕ → ℕ
value_after high base [] = high
value_after high base (b ∷ bs) = value_after (high * base + digit_of b) base bs

unfoldable pub is_number : List ℕ → Bool
is_number w = ltb 0 (digit_count w) && all_digits (base_of w) (digits_in w)

unfoldable pub value_of : List ℕ → ℕ
value_of w = value_after 0 (base_of w) (digits_in w)

-- ---- statements

-- the kind of a keyword, or 0
unfoldable pub kind_of : List ℕ → ℕ
kind_of w =
    cond (same_word w write_word) kind.write
    (cond (same_word w read_word) kind.read
    (cond (same_word w delay_word) kind.delay
    (cond (same_word w repeat_word) kind.repeat
    (cond (same_word w if_word) kind.if (cond (same_word w else_word) kind.else (cond (same_word w end_word) kind.end 0))))))

-- the number after `delay` and `repeat` is a count
abbrev pub has_count : ℕ → Bool
has_count k = eqb k kind.delay || eqb k kind.repeat

-- how many numbers follow the keyword: width, port and value; width and port; a count; none
unfoldable pub operand_count : ℕ → ℕ
operand_count k =
    cond (eqb k kind.write || eqb k kind.if) 3
    (cond (eqb k kind.read) 2 (cond (has_count k) 1 0))

-- the text is n numbers, and nothing else
abbrev pub are_operands : ℕ → List ℕ → Bool
are_operands zero s = is_empty (word s)
are_operands (suc n) s = is_number (word s) && are_operands n (after_word s)

-- the values of the first n words
abbrev pub operands : ℕ → List ℕ → List ℕ
operands zero s = []
operands (suc n) s = value_of (word s) ∷ operands n (after_word s)

-- the record of a kind with these operands. Those that the kind does not have are 0
abbrev pub record_with : ℕ → List ℕ → Record
record_with k vs =
    cond (has_count k) (script_record k 0 0 (get_or vs 0 0))
    (script_record k (get_or vs 0 0) (get_or vs 1 0) (get_or vs 2 0))

unfoldable pub is_statement : List ℕ → Bool
is_statement s = not (eqb (kind_of (word s)) 0) && are_operands (operand_count (kind_of (word s))) (after_word s)

unfoldable pub statement_record : List ℕ → Record
statement_record s = record_with (kind_of (word s)) (operands (operand_count (kind_of (word s))) (after_word s))

-- ---- lines

-- the length of a line without a carriage return as its last byte
abbrev pub before_return : List ℕ → ℕ
before_return line = cond (eqb (last_byte line) 0x0D) (length line - 1) (length line)

-- the length of what is before the comment, if there is one
abbrev pub content_length : List ℕ → ℕ
content_length line = run not_semicolon (take (before_return line) line)

unfoldable pub content : List ℕ → List ℕ
content line = take (content_length line) line

-- is the line in the grammar?
unfoldable pub is_line : List ℕ → Bool
is_line line = is_empty (word (content line)) || is_statement (content line)

-- its records: one, or none
unfoldable pub line_records : List ℕ → List Record
line_records line = cond (is_empty (word (content line))) [] (statement_record (content line) ∷ [])

-- ---- refusals 30, 31 and 32

-- "Lines [..] have at most 120 bytes"
abbrev pub most_bytes : ℕ
most_bytes = 120

abbrev pub most_port : ℕ
most_port = 65535

-- "32 number too big for its field or against 4". Every other field is checked by 4
abbrev pub fits_fields : Record → Bool
fits_fields r = leb r.port most_port && not (bad_fields r)

abbrev pub all_fit : List Record → Bool
all_fit [] = true
all_fit (r ∷ rs) = fits_fields r && all_fit rs

-- the least number of the refusals of a line, or 0
unfoldable pub line_fault : List ℕ → ℕ
line_fault line =
    first_from number.line_too_long
    (ltb most_bytes (length line) ∷ not (is_line line) ∷ not (all_fit (line_records line)) ∷ [])

-- ---- results of the code

-- a word that was read as a number
pub record Number : Type 0 where
  pub ok : Bool
  pub value : ℕ

-- a number stops at 2^32, which is too big for every field
abbrev pub too_big : ℕ
too_big = 0x1_0000_0000

unfoldable pub capped : ℕ → ℕ
capped n = cond (leb n too_big) n too_big

-- a number, or none
abbrev pub number_if : Bool → ℕ → Number
number_if ok n = record { ok = ok; value = cond ok (capped n) 0 }

-- the number that digits of a base stand for
unfoldable pub number_of : (base : ℕ) → List ℕ → Number
number_of base ds = number_if (ltb 0 (length ds) && all_digits base ds) (value_after 0 base ds)

unfoldable pub number_in : List ℕ → Number
number_in w = number_if (is_number w) (value_of w)

-- what a line means: its fault, or the number of its statements, 0 or 1, and the record of its statement
pub record LineResult : Type 0 where
  pub fault : ℕ
  pub statements : ℕ
  pub found : Record

abbrev pub no_record : Record
no_record = record { mark = 0; kind = 0; width = 0; port = 0; target = 0; value = 0 }

-- a line with a fault, or without a statement
abbrev pub refused : ℕ → LineResult
refused fault = record { fault = fault; statements = 0; found = no_record }

abbrev pub found_in : List Record → LineResult
found_in [] = refused 0
found_in (r ∷ rs) = record { fault = 0; statements = 1; found = r }

unfoldable pub result_of : Record → LineResult
result_of r = cond (fits_fields r) (found_in (r ∷ [])) (refused number.number_too_big)

-- the result of a line without its comment
unfoldable pub statement_result : List ℕ → LineResult
statement_result s =
    cond (is_empty (word s)) (refused 0)
    (cond (is_statement s) (result_of (statement_record s)) (refused number.not_in_grammar))

unfoldable pub line_result : List ℕ → LineResult
line_result line =
    cond (eqb (line_fault line) 0) (found_in (line_records line)) (refused (line_fault line))
