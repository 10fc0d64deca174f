-- `split_word` skips the blanks, and ends the word at the next one.
use Rattle.std.proofs.Common.{◌≡◌, ◌-◌, ◌∙◌, drop, length, take}
use Rattle.statement.specs.Line.{is_blank, not_blank, run}
use Rattle.statement.proofs.Reading.{split_back, split_front}
use Rattle.statement.proofs.Runs.{blank_run, run_most, word_run}
use Rattle.statement.proofs.split_word.Goals as goal

pub slice_bounds-s-count : goal.slice_bounds-s-count
slice_bounds-s-count c =
    let s = c.args.s.now in
    rw (c.unwrap_or-from.ensures, c.first_not_blank.ensures, blank_run s) (run_most is_blank s)

pub split_at-requires : goal.split_at-requires
split_at-requires c =
    let s = c.args.s.now in
    let t = take (length s - c.unwrap_or-from.result) (drop c.unwrap_or-from.result s) in
    rw (c.unwrap_or-to.ensures, c.first_blank.ensures, word_run t) (run_most not_blank t)

pub returns-clause-word : goal.returns-clause-word
returns-clause-word c =
    let s = c.args.s.now in
    let t = take (length s - c.unwrap_or-from.result) (drop c.unwrap_or-from.result s) in
    let from : c.unwrap_or-from.result ≡ run is_blank s = rw (c.unwrap_or-from.ensures, c.first_not_blank.ensures) (blank_run s) in
    let to : c.unwrap_or-to.result ≡ run not_blank t = rw (c.unwrap_or-to.ensures, c.first_blank.ensures) (word_run t) in
    c.split_at.ensures.front ∙ split_front s _ _ from to

pub returns-clause-rest : goal.returns-clause-rest
returns-clause-rest c =
    let s = c.args.s.now in
    let t = take (length s - c.unwrap_or-from.result) (drop c.unwrap_or-from.result s) in
    let from : c.unwrap_or-from.result ≡ run is_blank s = rw (c.unwrap_or-from.ensures, c.first_not_blank.ensures) (blank_run s) in
    let to : c.unwrap_or-to.result ≡ run not_blank t = rw (c.unwrap_or-to.ensures, c.first_blank.ensures) (word_run t) in
    c.split_at.ensures.back ∙ split_back s _ _ from to
