-- The words of an image, and which of them are bad: `bad_word`. See docs/CHIP.md, "Words" and "Runs".
use Rattle.std.specs.Prelude.{ℕ, ◌*◌, ◌/◌, Bool, not, ◌&&◌, ◌||◌, List, eqb, leb, length}
use Rattle.record.specs.Record.{record_at, record_size}
use Rattle.record.specs.WordKind as word_kind
use Rattle.record.specs.declared.Record.{Record}
use Rattle.script.specs.Fields.{kind_fields}

abbrev pub image_words : List ℕ → ℕ
image_words image = length image / record_size

abbrev pub word_at : List ℕ → ℕ → Record
word_at image place = record_at image (record_size * place)

-- "word mark C3 3C"
abbrev pub wrong_word_mark : Record → Bool
wrong_word_mark r = not (eqb r.mark 0x3CC3)

-- "1, 2, 3 as above; 4 enter [..]; 5 loop end [..]; 6 test [..]; 7 jump; 8 halt"
abbrev pub bad_word_kind : Record → Bool
bad_word_kind r = not (leb word_kind.write r.kind && leb r.kind word_kind.halt)

-- "4 to 7 use target too"
abbrev pub uses_target : Record → Bool
uses_target r = leb word_kind.enter r.kind && leb r.kind word_kind.jump

-- "Word 4 has script kind 4's fields and value rule, word 6 those of script kind 5"; "Unused fields are zero."
abbrev pub good_word_fields : Record → Bool
good_word_fields r = (uses_target r || eqb r.target 0) && kind_fields word_kind.test r

-- "A bad word has a wrong mark, a kind not 1 to 8, or a width, value or unused field wrong by the rules above."
unfoldable pub bad_word : Record → Bool
bad_word r = wrong_word_mark r || (bad_word_kind r || not (good_word_fields r))
