-- One step of the sequencer: the faults of a word (`word_fault`), what a word does (`execute`), and the step (`next_step`).
-- See docs/CHIP.md, "Words" and "Runs".
use Rattle.std.specs.Prelude.{ℕ, suc, ◌-◌, Bool, cond, not, ◌&&◌, List, ◌∷◌, ◌++◌, eqb, leb, drop, length}
use Rattle.outcome.specs.Ending as ending
use Rattle.record.specs.WordKind as word_kind
use Rattle.record.specs.declared.Record.{Record}
use Rattle.script.specs.Refusals.{innermost, outer}
use Rattle.semantics.specs.World.{World, after_write, after_read, after_test, shares_one, after_delay}
use Rattle.step.specs.Sequencer.{counter_count}
use Rattle.step.specs.Word.{bad_word, image_words, uses_target, word_at}

-- the state of a run: the place, the counters in use, top first, and the world (device, events left, values logged, accesses)
pub record Machine : Type 0 where
  pub place : ℕ
  pub counters : List ℕ
  pub world : World

abbrev pub machine : ℕ → List ℕ → World → Machine
machine p cs w = record { place = p; counters = cs; world = w }

-- ---- the faults of a word
-- 21: "target [..] beyond the last word", "taken or not"
abbrev pub target_beyond : (words : ℕ) → Record → Bool
target_beyond words r = uses_target r && leb words r.target

-- 22: "ninth counter"
abbrev pub ninth_counter : (used : ℕ) → Record → Bool
ninth_counter used r = eqb r.kind word_kind.enter && (not (eqb r.value 0) && leb counter_count used)

-- 23: "loop end without one"
abbrev pub no_counter : (used : ℕ) → Record → Bool
no_counter used r = eqb r.kind word_kind.loop_end && eqb used 0

-- 24: "log full"
abbrev pub log_full : (room logged : ℕ) → Record → Bool
log_full room logged r = eqb r.kind word_kind.read && leb room logged

-- the first fault, or 0: "20, 21 for the target (taken or not), 22 to 24"
unfoldable pub word_fault : (words room used logged : ℕ) → Record → ℕ
word_fault words room used logged r =
    cond (bad_word r) ending.bad_word
    (cond (target_beyond words r) ending.beyond_last_word
    (cond (ninth_counter used r) ending.ninth_counter
    (cond (no_counter used r) ending.no_counter (cond (log_full room logged r) ending.log_full 0))))

-- ---- what a word does if it neither faults nor halts
-- "4 enter (0 jumps to target, else pushes value)"
abbrev pub enter : Record → Machine → Machine
enter r m =
    cond (eqb r.value 0) (machine r.target m.counters m.world)
    (machine (suc m.place) (r.value ∷ m.counters) m.world)

-- "5 loop end (one off the top; to target if not 0, else pop and next)"
abbrev pub loop_end : Record → Machine → Machine
loop_end r m =
    cond (eqb (innermost m.counters - 1) 0) (machine (suc m.place) (outer m.counters) m.world)
    (machine r.target ((innermost m.counters - 1) ∷ outer m.counters) m.world)

-- "6 test (to target if no shared one)"
abbrev pub test_word : Record → Machine → Machine
test_word r m =
    machine (cond (shares_one r.port r.width r.value m.world) (suc m.place) r.target) m.counters
    (after_test r.port r.width m.world)

-- "1, 2, 3 as above; 4 enter [..]; 5 loop end [..]; 6 test [..]; 7 jump"
unfoldable pub execute : Record → Machine → Machine
execute r m =
    cond (eqb r.kind word_kind.write) (machine (suc m.place) m.counters (after_write r.port r.width r.value m.world))
    (cond (eqb r.kind word_kind.read) (machine (suc m.place) m.counters (after_read r.port r.width m.world))
    (cond (eqb r.kind word_kind.delay) (machine (suc m.place) m.counters (after_delay r.value m.world))
    (cond (eqb r.kind word_kind.enter) (enter r m)
    (cond (eqb r.kind word_kind.loop_end) (loop_end r m)
    (cond (eqb r.kind word_kind.test) (test_word r m) (machine r.target m.counters m.world))))))

-- ---- one step, without the budget
pub data Step : Type 0 where
  continues : Machine → Step
  halts : Step
  faults : ℕ → Step

abbrev pub step_from : Record → ℕ → Machine → Step
step_from r fault m = cond (eqb fault 0) (cond (eqb r.kind word_kind.halt) halts (continues (execute r m))) (faults fault)

abbrev pub fault_at : List ℕ → ℕ → Machine → ℕ
fault_at image room m =
    word_fault (image_words image) room (length m.counters) (length m.world.logged) (word_at image m.place)

-- the place is checked before the word: "then 21 for the place, 20, [..]"
unfoldable pub next_step : List ℕ → ℕ → Machine → Step
next_step image room m =
    cond (leb (image_words image) m.place) (faults ending.beyond_last_word) (step_from (word_at image m.place) (fault_at image room m) m)

-- ---- the log after a run; `lent` is the log before it. "The log fills from its front; the rest stays as lent."
abbrev pub log_filled : List ℕ → List ℕ → List ℕ
log_filled entries lent = entries ++ drop (length entries) lent
