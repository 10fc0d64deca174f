-- The kinds of records as an enum, and their numbers.
use Rattle.std.specs.Prelude.{ℕ, ◌≡◌, ◌<◌, ◌≤◌, Result, MatchResult, cond, eqb}
use Rattle.record.specs.WordKind as wordKind
use Rattle.script.specs.Kind as kind
use Rattle.script.specs.declared.kind.RecordKind.{RecordKind}
use Rattle.script.specs.declared.kind.RecordKind.TheVariants.{Write, Read, Delay, Repeat, If, Else, End}
use Rattle.script.specs.declared.kind.UnknownKind.{UnknownKind}

abbrev pub kind_number : RecordKind → ℕ
kind_number Write = kind.write
kind_number Read = kind.read
kind_number Delay = kind.delay
kind_number Repeat = kind.repeat
kind_number If = kind.if
kind_number Else = kind.else
kind_number End = kind.end

-- an if becomes a test, an else a jump, the end of a repeat a loop end; the other kinds keep their number
abbrev pub word_kind_for : ℕ → ℕ
word_kind_for k =
    cond (eqb k kind.if) wordKind.test
    (cond (eqb k kind.else) wordKind.jump (cond (eqb k kind.end) wordKind.loop_end k))

-- the kind with this number, or the number if no kind has it: the kinds are 1 to 7
abbrev pub NumberedKind : ℕ → Result RecordKind UnknownKind → Type 0
NumberedKind n r = MatchResult r (λ k. kind_number k ≡ n) (λ e. (e.0 ≡ n) × (kind.write ≤ n → kind.end < n))
