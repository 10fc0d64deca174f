-- What the checks of a word return: its kind, or its fault. Only contracts inside `step` and `sequencer`, and their proofs, use this file.
use Rattle.std.specs.Prelude.{ℕ, ◌<◌, ◌≡◌, Bool, true, false, ◌&&◌, leb, Option, Result, MatchOption, MatchResult}
use Rattle.outcome.specs.Refused.{ending_number}
use Rattle.outcome.specs.declared.Ending.{Ending}
use Rattle.record.specs.WordKind as word_kind
use Rattle.record.specs.WordKinds.{word_kind_number}
use Rattle.record.specs.declared.Record.{Record}
use Rattle.record.specs.declared.word_kind.WordKind.{WordKind}
use Rattle.step.specs.Step.{word_fault}
use Rattle.step.specs.Word.{bad_word}

-- `uses_target` of a word of this kind
abbrev pub kind_uses_target : WordKind → Bool
kind_uses_target k = leb word_kind.enter (word_kind_number k) && leb (word_kind_number k) word_kind.jump

-- the kind of a word that is not bad
abbrev pub ChecksKind : Record → Option WordKind → Type 0
ChecksKind r result = MatchOption result (bad_word r ≡ true) (λ k. (bad_word r ≡ false) × (word_kind_number k ≡ r.kind))

-- the kind of a word without a fault, or its fault
abbrev pub ChecksWord : (words room used logged : ℕ) → Record → Result WordKind Ending → Type 0
ChecksWord words room used logged r result =
    MatchResult result (λ k. (word_fault words room used logged r ≡ 0) × (word_kind_number k ≡ r.kind))
    (λ e. (word_fault words room used logged r ≡ ending_number e) × (0 < ending_number e))
