-- `scan` returns `script_scan`: refusal 1, then those of the records, then 8.
use Rattle.std.proofs.Common.{refl, sym}
use Rattle.std.proofs.lemmas.Result.{err_from_is_err_and}
use Rattle.outcome.proofs.Numbers.{refusal_number_above}
use Rattle.script.proofs.Scanning.{scan_length, scan_long, scan_refused, scan_whole}
use Rattle.script.proofs.scan.Goals as goal

pub returns-then-bad_length : goal.returns-then-bad_length
returns-then-bad_length c = scan_length _ (sym c.if-bad_length.ensures)

pub returns-in_err-words : goal.returns-in_err-words
returns-in_err-words c =
    let p = err_from_is_err_and c.from_residual.result c.from_residual.ensures.1 in
    rw (p.1, p.2) (scan_refused _ _ c.in_err-words.ensures (sym c.if-bad_length.ensures) (refusal_number_above _))

pub returns-then-words-gt-MOST_WORDS : goal.returns-then-words-gt-MOST_WORDS
returns-then-words-gt-MOST_WORDS c = scan_long _ _ c.in_ok-words.ensures (sym c.if-bad_length.ensures) refl c.if-words-gt-MOST_WORDS.true

pub returns : goal.returns
returns c = scan_whole _ _ c.in_ok-words.ensures (sym c.if-bad_length.ensures) refl c.if-words-gt-MOST_WORDS.false
