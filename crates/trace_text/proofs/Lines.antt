-- The text that `trace` and `interpret` print, line by line, and that the buffer has room for the whole text.
use Rattle.std.proofs.Common.{◌≡◌, ℕ, zero, suc, ◌+◌, ◌*◌, ◌<◌, ◌≤◌, true, false, List, [], ◌∷◌, ◌++◌, length, take, get_or, refl, ap, ◌∙◌, arith, length-append, Result, Ok, Err}
use borrow.Author.Tests.{lt-leb}
use Rattle.std.specs.List.{flat_map}
use Rattle.digits.proofs.Puts.{decimal_length, puts_whole}
use Rattle.digits.proofs.Writes.{writes_piece, writes_twice}
use Rattle.digits.specs.Text.{decimal_text, hex_text, line_at, puts}
use Rattle.digits.specs.Written.{writes}
use Rattle.digits.specs.declared.Writer.{Writer}
use Rattle.log_entry.specs.Entry.{entry_owner, entry_value, log_entry}
use Rattle.mask.proofs.Branch.{branch}
use Rattle.outcome.specs.Number as number
use Rattle.outcome.specs.Refused.{ending_number, refusal_number}
use Rattle.outcome.specs.declared.Ending.{Ending}
use Rattle.outcome.specs.declared.Ending.TheVariants.{Halted, BudgetSpent, BadWord, BeyondLastWord, NinthCounter, NoCounter, LogFull}
use Rattle.outcome.specs.declared.RefusalKind.{RefusalKind}
use Rattle.outcome.specs.declared.RefusalKind.TheVariants.{
  BadLength,
  WrongMark,
  BadKind,
  BadField,
  Misplaced,
  TooDeep,
  StillOpen,
  TooManyWords,
  BufferTooShort,
  BadImage,
  BadState,
  BadEvent,
  LineTooLong,
  NotInGrammar,
  NumberTooBig,
  RecordsTooShort,
  TextTooShort,
}
use Rattle.outcome.specs.declared.Refused.{Refused}
use Rattle.refusal_text.proofs.Line.{all_put, numbers_length}
use Rattle.refusal_text.specs.Refused.{Put, refused_text}
use Rattle.sequencer.specs.Run.{is_refusal}
use Rattle.trace_text.specs.Printed.{end_text, log_size, printed, read_text, reads_text, text_size, unlock_text}
use Rattle.trace_text.specs.Shown.{shown, summary_of}
use Rattle.trace_text.specs.declared.RunSummary.{RunSummary}
use Rattle.trace_text.specs.declared.Summary.{Summary}

-- the pieces of a line, put one after the other, are the text of the line
pub pieces_put : (entry v o : ℕ) (w : Writer) → v ≡ entry_value entry → o ≡ entry_owner entry
    → writes (0x0A ∷ []) (writes (decimal_text o) (writes (0x20 ∷ []) (writes (hex_text v) (writes (0x52 ∷ 0x45 ∷ 0x41 ∷ 0x44 ∷ 0x20 ∷ []) w))))
    ≡ writes (read_text entry) w
pieces_put entry v o w ev eo =
    let name = 0x52 ∷ 0x45 ∷ 0x41 ∷ 0x44 ∷ 0x20 ∷ [] in
    ap (λ (x : Writer). writes (0x0A ∷ []) (writes (decimal_text o) (writes (0x20 ∷ []) x))) (writes_twice w name (hex_text v))
    ∙ ap (λ (x : Writer). writes (0x0A ∷ []) (writes (decimal_text o) x)) (writes_twice w (name ++ hex_text v) (0x20 ∷ []))
    ∙ ap (writes (0x0A ∷ [])) (writes_twice w ((name ++ hex_text v) ++ (0x20 ∷ [])) (decimal_text o))
    ∙ writes_twice w (((name ++ hex_text v) ++ (0x20 ∷ [])) ++ decimal_text o) (0x0A ∷ [])
    ∙ rw (ev, eo)

reads_flat : (es : List ℕ) → reads_text es ≡ flat_map read_text es
reads_flat [] = refl
reads_flat (e ∷ es) = ap (λ (t : List ℕ). read_text e ++ t) (reads_flat es)

-- the line of the next entry
pub next_line : (w : Writer) (log : List ℕ) (k : ℕ) → k < length log
    → writes (read_text (get_or log k 0)) (writes (reads_text (take k log)) w) ≡ writes (reads_text (take (k + 1) log)) w
next_line w log k h = rw (reads_flat (take k log), reads_flat (take (k + 1) log)) (writes_piece w read_text log k h)

-- the first n entries of a log are at most n entries, and at most the whole log
at_most : (n : ℕ) (l : List ℕ) → (length (take n l) ≤ n) × (length (take n l) ≤ length l)
at_most zero l = (omega arith, omega arith)
at_most (suc n) [] = (omega arith, omega arith)
at_most (suc n) (x ∷ l) = let h = at_most n l in (omega (arith, h.0), omega (arith, h.1))

-- ---- the longest text has at most `text_size` bytes, so the buffer has room for it
one_digit_length : (n : ℕ) → n < 10 → length (decimal_text n) ≡ 1
one_digit_length n h = simp (
  lt-leb 1000000000 n (omega arith),
  lt-leb 100000000 n (omega arith),
  lt-leb 10000000 n (omega arith),
  lt-leb 1000000 n (omega arith),
  lt-leb 100000 n (omega arith),
  lt-leb 10000 n (omega arith),
  lt-leb 1000 n (omega arith),
  lt-leb 100 n (omega arith),
  lt-leb 10 n h,
)

read_length : (entry : ℕ) → length (read_text entry) ≤ 25
read_length entry =
    let a = length-append (decimal_text (entry_owner entry)) (0x0A ∷ []) in
    let o = decimal_length (entry_owner entry) in
    omega (arith, a, o)

-- an owner has one digit, so a line has 16 bytes (`one_digit` in the proofs of `device`)
pub line_length : (entry : ℕ) → entry_owner entry < 10 → length (read_text entry) ≡ 16
line_length entry h =
    let a = length-append (decimal_text (entry_owner entry)) (0x0A ∷ []) in
    let o = one_digit_length (entry_owner entry) h in
    omega (arith, a, o)

-- the text of the case of the rules: two entries of the configuration, halted after 8 steps
pub unlock_printed : reads_text (log_entry 1 0x04 ∷ log_entry 1 0xFF ∷ []) ++ end_text 0 8 ≡ unlock_text
unlock_printed = refl

reads_length : (es : List ℕ) → length (reads_text es) ≤ 25 * length es
reads_length [] = omega arith
reads_length (e ∷ es) =
    let a = length-append (read_text e) (reads_text es) in
    let r = read_length e in
    let h = reads_length es in
    omega (arith, a, r, h)

pub refusal_length : (number place : ℕ) → length (refused_text number place) ≤ text_size
refusal_length number place = let n = numbers_length number place in omega (arith, n)

run_length : (logged outcome steps : ℕ) (log : List ℕ) → length log ≤ log_size
    → length (reads_text (take logged log) ++ end_text outcome steps) ≤ text_size
run_length logged outcome steps log h =
    let a = length-append (reads_text (take logged log)) (end_text outcome steps) in
    let b = reads_length (take logged log) in
    let m = at_most logged log in
    let n = numbers_length outcome steps in
    omega (arith, a, b, m.1, n, h)

printed_length : (r : Summary) (log : List ℕ) → length log ≤ log_size → length (printed r log) ≤ text_size
printed_length r log h =
    branch (λ (t : List ℕ). length t ≤ text_size) (is_refusal r.outcome) (refusal_length r.outcome r.place)
    (run_length r.logged r.outcome r.steps log h)

shown_length : (r : Result RunSummary Refused) (log : List ℕ) → length log ≤ log_size → length (shown r log) ≤ text_size
shown_length (Ok r) log h = run_length r.logged (ending_number r.ending) r.steps log h
shown_length (Err f) log h = refusal_length (refusal_number f.kind) f.place

-- a text for which the buffer has room is put completely: the index after it is its length
pub fits_counted : (xs text : List ℕ) → length xs ≤ text_size → length text ≡ text_size → (puts xs (line_at text 0)).at ≡ length xs
fits_counted xs text h l = let w = puts_whole xs (line_at text 0) (omega (arith, h, l)) in omega (arith, w)

-- so it is in the front of the buffer
pub fits_front : (xs text after : List ℕ) (n : ℕ) → length xs ≤ text_size → length text ≡ text_size
    → line_at after n ≡ puts xs (line_at text 0) → Put xs after n
fits_front xs text after n h l e = all_put xs text after n (omega (arith, h, l)) e

-- both of the text of any numbers
pub whole : (text : List ℕ) (r : Summary) (log : List ℕ) → length text ≡ text_size → length log ≤ log_size
    → (puts (printed r log) (line_at text 0)).at ≡ length (printed r log)
whole text r log l h = fits_counted (printed r log) text (printed_length r log h) l

pub whole_printed : (text after : List ℕ) (n : ℕ) (r : Summary) (log : List ℕ) → length text ≡ text_size → length log ≤ log_size
    → line_at after n ≡ puts (printed r log) (line_at text 0) → Put (printed r log) after n
whole_printed text after n r log l h e = fits_front (printed r log) text after n (printed_length r log h) l e

-- the second of the text that is shown
pub whole_shown : (text after : List ℕ) (n : ℕ) (r : Result RunSummary Refused) (log : List ℕ) → length text ≡ text_size
    → length log ≤ log_size → line_at after n ≡ puts (shown r log) (line_at text 0) → Put (shown r log) after n
whole_shown text after n r log l h e = fits_front (shown r log) text after n (shown_length r log h) l e

-- ---- the text is what document 01 says of the numbers of a run and of its refusals; a text is refused with 30 or above
no_refusal : (e : Ending) → is_refusal (ending_number e) ≡ false
no_refusal Halted = refl
no_refusal BudgetSpent = refl
no_refusal BadWord = refl
no_refusal BeyondLastWord = refl
no_refusal NinthCounter = refl
no_refusal NoCounter = refl
no_refusal LogFull = refl

run_refusal : (k : RefusalKind) → refusal_number k < number.line_too_long → is_refusal (refusal_number k) ≡ true
run_refusal BadLength h = refl
run_refusal WrongMark h = refl
run_refusal BadKind h = refl
run_refusal BadField h = refl
run_refusal Misplaced h = refl
run_refusal TooDeep h = refl
run_refusal StillOpen h = refl
run_refusal TooManyWords h = refl
run_refusal BufferTooShort h = refl
run_refusal BadImage h = refl
run_refusal BadState h = refl
run_refusal BadEvent h = refl
run_refusal LineTooLong h = absurd (omega (arith, h))
run_refusal NotInGrammar h = absurd (omega (arith, h))
run_refusal NumberTooBig h = absurd (omega (arith, h))
run_refusal RecordsTooShort h = absurd (omega (arith, h))
run_refusal TextTooShort h = absurd (omega (arith, h))

pub shown_is_printed_lem : (r : Result RunSummary Refused) (log : List ℕ) → (summary_of r).outcome < number.line_too_long
    → shown r log ≡ printed (summary_of r) log
shown_is_printed_lem (Ok r) log h = rw (no_refusal r.ending)
shown_is_printed_lem (Err f) log h = rw (run_refusal f.kind h)
