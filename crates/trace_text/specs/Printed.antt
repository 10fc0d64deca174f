-- What the programs `trace` and `interpret` print: a line for each entry of the log and a line with the ending, or one line with the refusal.
use Rattle.std.specs.Prelude.{ℕ, cond, List, [], ◌∷◌, ◌++◌, take}
use Rattle.digits.specs.Text.{decimal_text, hex_text}
use Rattle.log_entry.specs.Entry.{entry_owner, entry_value}
use Rattle.refusal_text.specs.Refused.{numbers_text, refused_text}
use Rattle.sequencer.specs.Run.{is_refusal}
use Rattle.trace_text.specs.declared.Summary.{Summary}

-- "It prints `READ` and eight upper-case hex digits per logged value". A later request: "each `READ` line of 01 gains a space and this
-- digit", the number of the owner
abbrev pub read_text : ℕ → List ℕ
read_text entry =
    0x52 ∷ 0x45 ∷ 0x41 ∷ 0x44 ∷ 0x20 ∷ (hex_text (entry_value entry) ++ (0x20 ∷ (decimal_text (entry_owner entry) ++ (0x0A ∷ []))))

abbrev pub reads_text : List ℕ → List ℕ
reads_text [] = []
reads_text (e ∷ es) = read_text e ++ reads_text es

-- "then `END`, outcome, steps"
abbrev pub end_text : ℕ → ℕ → List ℕ
end_text outcome steps = 0x45 ∷ 0x4E ∷ 0x44 ∷ 0x20 ∷ numbers_text outcome steps

-- the whole text: of the first entries, as many as were logged, and of the ending; "or only `REFUSED`, number, place (decimal)"
abbrev pub printed : Summary → List ℕ → List ℕ
printed r log =
    cond (is_refusal r.outcome) (refused_text r.outcome r.place)
    (reads_text (take r.logged log) ++ end_text r.outcome r.steps)

-- the number of entries in the log of both programs, and the greatest length of their text. A line of an entry has 15 bytes and the digits of the
-- owner, of which a 32-bit number has at most 10. The last line has at most 26 bytes
abbrev pub log_size : ℕ
log_size = 1024

abbrev pub text_size : ℕ
text_size = 25626

-- the text of the rules' own case: "each `READ` line of 01 gains a space and this digit, so the two lines of its case end in 1"
--     READ 00000004 1
--     READ 000000FF 1
--     END 0 8
abbrev pub unlock_text : List ℕ
unlock_text =
    0x52 ∷ 0x45 ∷ 0x41 ∷ 0x44 ∷ 0x20 ∷ 0x30 ∷ 0x30 ∷ 0x30 ∷ 0x30 ∷ 0x30 ∷ 0x30 ∷ 0x30 ∷ 0x34 ∷ 0x20 ∷ 0x31 ∷ 0x0A
    ∷ 0x52 ∷ 0x45 ∷ 0x41 ∷ 0x44 ∷ 0x20 ∷ 0x30 ∷ 0x30 ∷ 0x30 ∷ 0x30 ∷ 0x30 ∷ 0x30 ∷ 0x46 ∷ 0x46 ∷ 0x20 ∷ 0x31 ∷ 0x0A
    ∷ 0x45 ∷ 0x4E ∷ 0x44 ∷ 0x20 ∷ 0x30 ∷ 0x20 ∷ 0x38 ∷ 0x0A ∷ []
