-- A second definition of a script's words: one pass over the flat list of records, which looks ahead for the target of each block.
-- It gives the words of Words.antt (proofs/Ahead.antt). The code does not look ahead; it fills a table with the same targets
-- (proofs/Targets.antt). Only contracts and proofs inside this crate use this file.
use Rattle.std.specs.Prelude.{ℕ, suc, ◌≡◌, Bool, cond, not, ◌&&◌, ◌||◌, List, [], ◌∷◌, eqb, get_or}
use Rattle.record.specs.declared.Record.{Record}
use Rattle.script.specs.Kind as kind
use Rattle.script.specs.Kinds.{word_kind_for}
use Rattle.script.specs.Refusals.{innermost, outer}
use Rattle.compiler.specs.Words.{halt, word}

-- ---- frames: the open blocks, innermost first; 0 for an if, the place of its body for a repeat
abbrev pub frames_after : List ℕ → ℕ → ℕ → List ℕ
frames_after frames place k =
    cond (eqb k kind.repeat) (suc place ∷ frames)
    (cond (eqb k kind.if) (0 ∷ frames) (cond (eqb k kind.end) (outer frames) frames))

-- only the end of an if becomes no word; the frame is the innermost one
abbrev pub emits_word : ℕ → ℕ → Bool
emits_word frame k = not (eqb k kind.end && eqb frame 0)

-- the place after the word of a record, if it has one
abbrev pub place_after_record : ℕ → ℕ → ℕ → ℕ
place_after_record frame place k = cond (emits_word frame k) (suc place) place

-- ---- looking ahead, from inside a block: the place of its end, or the place after the jump of its else
-- the frames are those of blocks opened inside it, whose ends are passed over
abbrev pub look_ahead : List ℕ → ℕ → List Record → ℕ
look_ahead frames place [] = place
look_ahead [] place (r ∷ rs) =
    cond (eqb r.kind kind.end) place
    (cond (eqb r.kind kind.else) (suc place) (look_ahead (frames_after [] place r.kind) (suc place) rs))
look_ahead (f ∷ fs) place (r ∷ rs) =
    look_ahead (frames_after (f ∷ fs) place r.kind) (place_after_record f place r.kind) rs

-- ---- the word of a record, from its innermost frame and the place found by looking ahead (lead)
-- "Enter aims behind its loop end, loop end at its body, test behind its else's jump or at its end, else at its end."
abbrev pub target_for : ℕ → ℕ → ℕ → ℕ
target_for frame lead k =
    cond (eqb k kind.end) frame (cond (eqb k kind.repeat) (suc lead) (cond (eqb k kind.if || eqb k kind.else) lead 0))

-- the other fields are copied; those that the record does not use are 0
abbrev pub word_for : ℕ → ℕ → Record → Record
word_for frame lead r =
    word (word_kind_for r.kind) r.width r.port (target_for frame lead r.kind) r.value

-- the words of the records, and the halt
abbrev pub emit_flat : List ℕ → ℕ → List Record → List Record
emit_flat frames place [] = halt ∷ []
emit_flat frames place (r ∷ rs) =
    cond (emits_word (innermost frames) r.kind)
    (word_for (innermost frames) (look_ahead [] (suc place) rs) r
    ∷ emit_flat (frames_after frames place r.kind) (suc place) rs)
    (emit_flat (frames_after frames place r.kind) place rs)

-- ---- the table has the target of every record from record k on
abbrev pub TargetsFrom : List ℕ → ℕ → List ℕ → ℕ → List Record → Type 0
TargetsFrom targets k frames place [] = Unit {0}
TargetsFrom targets k frames place (r ∷ rs) =
    (get_or targets k 0 ≡ target_for (innermost frames) (look_ahead [] (suc place) rs) r.kind)
    × TargetsFrom targets (suc k) (frames_after frames place r.kind) (place_after_record (innermost frames) place r.kind) rs
