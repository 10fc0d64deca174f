-- Refusals 1 to 8 of a script: one definition for each row of the table, and the order of the checks (`script_refusal`).
-- See docs/CHIP.md, "Refusals".
use Rattle.std.specs.Prelude.{ℕ, suc, ◌%◌, Bool, cond, not, ◌&&◌, ◌||◌, List, [], ◌∷◌, eqb, leb, ltb, length}
use Rattle.lists.specs.Tests.{first_from}
use Rattle.outcome.specs.Number as number
use Rattle.outcome.specs.Refusal.{Refusal, refusal}
use Rattle.record.specs.Record.{most_records, record_size}
use Rattle.record.specs.declared.Record.{Record}
use Rattle.script.specs.Fields.{kind_fields}
use Rattle.script.specs.Kind as kind
use Rattle.script.specs.Records.{record_count, records_of}

-- 1: "script length no multiple of 12, or over 1,024 records (0)"
abbrev pub bad_length : List ℕ → Bool
bad_length bytes = not (eqb (length bytes % record_size) 0) || ltb most_records (record_count bytes)

-- 2: "wrong mark (record)"; "Script mark 5A A5"
abbrev pub wrong_mark : Record → Bool
wrong_mark r = not (eqb r.mark 0xA55A)

-- 3: "kind not 1 to 7"
abbrev pub bad_kind : Record → Bool
bad_kind r = not (leb kind.write r.kind && leb r.kind kind.end)

-- 4: "bad width, value or unused field". Kinds: 1 write, 2 read, 3 delay, 4 repeat, 5 if, 6 else, 7 end
abbrev pub good_fields : Record → Bool
good_fields r = eqb r.target 0 && kind_fields kind.if r

abbrev pub bad_fields : Record → Bool
bad_fields r = not (good_fields r)

-- ---- the open blocks, innermost first: a repeat, an if that has no else yet, an if after its else
abbrev pub open_repeat : ℕ
open_repeat = 4

abbrev pub open_if : ℕ
open_if = 5

abbrev pub open_else : ℕ
open_else = 6

abbrev pub innermost : List ℕ → ℕ
innermost [] = 0
innermost (b ∷ bs) = b

abbrev pub outer : List ℕ → List ℕ
outer [] = []
outer (b ∷ bs) = bs

abbrev pub repeats_in : List ℕ → ℕ
repeats_in [] = 0
repeats_in (b ∷ bs) = cond (eqb b open_repeat) (suc (repeats_in bs)) (repeats_in bs)

-- the open blocks after a record of this kind
abbrev pub open_after : List ℕ → ℕ → List ℕ
open_after blocks k =
    cond (eqb k kind.repeat) (open_repeat ∷ blocks)
    (cond (eqb k kind.if) (open_if ∷ blocks)
    (cond (eqb k kind.else) (open_else ∷ outer blocks) (cond (eqb k kind.end) (outer blocks) blocks)))

-- 5: "else not in an if still without one; end with no open block"; "in" means in the innermost open block
abbrev pub misplaced : List ℕ → ℕ → Bool
misplaced blocks k =
    (eqb k kind.else && not (eqb (innermost blocks) open_if)) || (eqb k kind.end && eqb (innermost blocks) 0)

abbrev pub most_blocks : ℕ
most_blocks = 16

abbrev pub most_repeats : ℕ
most_repeats = 8

-- 6: "a block opened inside 16, or a repeat inside 8 repeats"
abbrev pub too_deep : List ℕ → ℕ → Bool
too_deep blocks k =
    ((eqb k kind.repeat || eqb k kind.if) && leb most_blocks (length blocks)) || (eqb k kind.repeat && leb most_repeats (repeats_in blocks))

-- the smallest number of the refusals of a record, or 0
unfoldable pub record_fault : List ℕ → Record → ℕ
record_fault blocks r =
    first_from number.wrong_mark (wrong_mark r ∷ bad_kind r ∷ bad_fields r ∷ misplaced blocks r.kind ∷ too_deep blocks r.kind ∷ [])

-- "the first record with a fault, least number; then 7": "a block still open (record count)"
abbrev pub first_fault : List ℕ → ℕ → List Record → Refusal
first_fault blocks place [] = cond (eqb (innermost blocks) 0) (refusal 0 0) (refusal number.still_open place)
first_fault blocks place (r ∷ rs) =
    cond (eqb (record_fault blocks r) 0) (first_fault (open_after blocks r.kind) (suc place) rs)
    (refusal (record_fault blocks r) place)

-- "Records give one word in order, except that the end of an if gives none; a halt follows."
abbrev pub emits_word : List ℕ → ℕ → Bool
emits_word blocks k = not (eqb k kind.end) || eqb (innermost blocks) open_repeat

-- the words of these records, and the halt
abbrev pub word_count : List ℕ → List Record → ℕ
word_count blocks [] = 1
word_count blocks (r ∷ rs) =
    cond (emits_word blocks r.kind) (suc (word_count (open_after blocks r.kind) rs))
    (word_count (open_after blocks r.kind) rs)

abbrev pub words_in : List ℕ → ℕ
words_in bytes = word_count [] (records_of bytes)

-- 8: "over 1,024 words (record count)"
abbrev pub too_many_words : List ℕ → Bool
too_many_words bytes = ltb most_records (words_in bytes)

-- "Compiler: 1; then the first record with a fault, least number; then 7, 8 [..]"
unfoldable pub script_refusal : List ℕ → Refusal
script_refusal bytes =
    cond (bad_length bytes) (refusal number.bad_length 0)
    (cond (eqb (first_fault [] 0 (records_of bytes)).number 0)
    (cond (too_many_words bytes) (refusal number.too_many_words (record_count bytes)) (refusal 0 0))
    (first_fault [] 0 (records_of bytes)))
