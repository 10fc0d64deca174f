-- The kinds of words as an enum, and their numbers.
use Rattle.std.specs.Prelude.{ℕ, ◌≡◌, ◌<◌, ◌≤◌, Result, MatchResult}
use Rattle.record.specs.WordKind as kind
use Rattle.record.specs.declared.word_kind.UnknownKind.{UnknownKind}
use Rattle.record.specs.declared.word_kind.WordKind.{WordKind}
use Rattle.record.specs.declared.word_kind.WordKind.TheVariants.{Write, Read, Delay, Enter, LoopEnd, Test, Jump, Halt}

abbrev pub word_kind_number : WordKind → ℕ
word_kind_number Write = kind.write
word_kind_number Read = kind.read
word_kind_number Delay = kind.delay
word_kind_number Enter = kind.enter
word_kind_number LoopEnd = kind.loop_end
word_kind_number Test = kind.test
word_kind_number Jump = kind.jump
word_kind_number Halt = kind.halt

-- the kind with this number, or the number if no kind has it: the kinds are 1 to 8
abbrev pub NumberedWordKind : ℕ → Result WordKind UnknownKind → Type 0
NumberedWordKind n r = MatchResult r (λ k. word_kind_number k ≡ n) (λ e. (e.0 ≡ n) × (kind.write ≤ n → kind.halt < n))
