-- What the functions of src/execute.rt do to the position, the counters and the log, in equations. `interpreter` calls these functions too.
use Rattle.std.specs.Prelude.{ℕ, ◌+◌, ◌-◌, ◌≤◌, ◌<◌, ◌≡◌, Bool, true, cond, not, ◌&&◌, List, eqb, drop, get_or, length, set}
use Rattle.log_entry.specs.Entry.{log_entry}
use Rattle.mask.specs.Mask.{has_bit}
use Rattle.record.specs.Record.{most_records}
use Rattle.record.specs.WordKind as word_kind
use Rattle.record.specs.WordKinds.{word_kind_number}
use Rattle.record.specs.declared.word_kind.WordKind.{WordKind}
use Rattle.semantics.specs.World.{events_after}
use Rattle.step.specs.declared.execute.Position.{Position}
use Rattle.step.specs.declared.execute.ControlResult.{ControlResult}

-- ---- the words that change only the place and the counters
abbrev pub control_result : (used place : ℕ) → ControlResult
control_result used place = record { used = used; place = place }

abbrev pub enter_result : Position → (times target : ℕ) → ControlResult
enter_result x times target = cond (eqb times 0) (control_result x.used target) (control_result (x.used + 1) (x.place + 1))

abbrev pub enter_counters : Position → (times : ℕ) → List ℕ → List ℕ
enter_counters x times counters = cond (eqb times 0) counters (set counters x.used times)

-- the turns left of the innermost loop after this one
abbrev pub turns_left : Position → List ℕ → ℕ
turns_left x counters = get_or counters (x.used - 1) 0 - 1

abbrev pub loop_end_result : Position → (target : ℕ) → List ℕ → ControlResult
loop_end_result x target counters =
    cond (eqb (turns_left x counters) 0) (control_result (x.used - 1) (x.place + 1)) (control_result x.used target)

abbrev pub loop_end_counters : Position → List ℕ → List ℕ
loop_end_counters x counters = set counters (x.used - 1) (turns_left x counters)

-- ---- the words that access the device
abbrev pub is_read : WordKind → Bool
is_read k = eqb (word_kind_number k) word_kind.read

-- a test whose mask has no common 1 with the value read jumps; every other access moves to the next place
abbrev pub jumps : WordKind → (mask value : ℕ) → Bool
jumps k mask value = eqb (word_kind_number k) word_kind.test && not (has_bit mask value)

pub record AnswerEffect (k : WordKind) (mask target owner value : ℕ) (events : List ℕ) (x : Position) (log : List ℕ) (y : Position) (log' : List ℕ)
    : Type 0 where
  pub used : y.used ≡ x.used
  pub place : y.place ≡ cond (jumps k mask value) target (x.place + 1)
  pub inside : y.taken ≤ length events
  pub left : drop y.taken events ≡ events_after (drop x.taken events)
  pub logged : y.logged ≡ cond (is_read k) (x.logged + 1) x.logged
  pub lines : log' ≡ cond (is_read k) (set log x.logged (log_entry owner value)) log

-- what `apply_answer` requires
pub record AnswerReady (k : WordKind) (x : Position) (events log : List ℕ) : Type 0 where
  pub near : x.place < most_records
  pub inside : x.taken ≤ length events
  pub reads : is_read k ≡ true → x.logged < length log
