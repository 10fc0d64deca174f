-- How the state of the code (`RunState`) represents the state of the definitions (`Machine`). Only contracts inside `step`
-- and `sequencer`, and their proofs, use this file.
use Rattle.std.specs.Prelude.{ℕ, ◌≤◌, ◌<◌, ◌≡◌, Bool, true, false, cond, List, eqb, drop, length}
use Rattle.access.specs.declared.Access.{Access}
use Rattle.device.specs.Dispatch.{AccessResult, device_access}
use Rattle.device.specs.declared.Device.{Device}
use Rattle.semantics.specs.World.{after_next_event, read_of, write_of}
use Rattle.record.specs.WordKind as word_kind
use Rattle.record.specs.Record.{most_records}
use Rattle.record.specs.WordKinds.{word_kind_number}
use Rattle.record.specs.declared.Record.{Record}
use Rattle.record.specs.declared.word_kind.WordKind.{WordKind}
use Rattle.record.specs.declared.word_kind.WordKind.TheVariants.{Write, Read, Enter, LoopEnd, Test, Jump}
use Rattle.step.specs.Sequencer.{counter_array, counter_count}
use Rattle.step.specs.Step.{Machine, execute, log_filled}
use Rattle.step.specs.declared.execute.Position.{Position}
use Rattle.step.specs.declared.execute.ControlResult.{ControlResult}

-- the state of the code between two words
pub record RunState : Type 0 where
  pub device : Device
  pub place : ℕ
  pub counters : List ℕ
  pub used : ℕ
  pub taken : ℕ
  pub logged : ℕ

abbrev pub run_state : Device → Position → List ℕ → RunState
run_state d x cs = record {
  device = d;
  place = x.place;
  counters = cs;
  used = x.used;
  taken = x.taken;
  logged = x.logged;
}

-- control words: enter, loop end, jump
abbrev pub is_control : WordKind → Bool
is_control Enter = true
is_control LoopEnd = true
is_control Jump = true
is_control _ = false

-- x represents m; `lent` is the log before the run, `log` the log now
pub record Represents (x : RunState) (events lent log : List ℕ) (m : Machine) : Type 0 where
  pub device : x.device ≡ m.world.device
  pub place : x.place ≡ m.place
  pub counters : x.counters ≡ counter_array m.counters
  pub used : x.used ≡ length m.counters
  pub few : length m.counters ≤ counter_count
  pub taken : drop x.taken events ≡ m.world.events
  pub inside : x.taken ≤ length events
  pub logged : x.logged ≡ length m.world.logged
  pub lines : log ≡ log_filled m.world.logged lent

-- the step of the code from x and log to y and log' does what the word does to every machine that x represents
abbrev pub Implements : Record → List ℕ → RunState → List ℕ → RunState → List ℕ → Type 0
Implements word events x log y log' =
    (lent : List ℕ) (m : Machine) → Represents x events lent log m → Represents y events lent log' (execute word m)

-- the same for a word that does not change the log
abbrev pub KeepsLog : Record → List ℕ → RunState → RunState → Type 0
KeepsLog word events x y = (log : List ℕ) → Implements word events x log y log

-- and takes no event
abbrev pub KeepsEvents : Record → RunState → RunState → Type 0
KeepsEvents word x y = (events : List ℕ) → KeepsLog word events x y

-- the position after a control word
abbrev pub position_after : Position → ControlResult → Position
position_after x y = record { used = y.used; taken = x.taken; logged = x.logged; place = y.place }

-- and does not change the device: a control word
abbrev pub KeepsDevice : Record → Position → List ℕ → ControlResult → List ℕ → Type 0
KeepsDevice word x cs y cs' = (d : Device) → KeepsEvents word (run_state d x cs) (run_state d (position_after x y) cs')

-- and does not change the counters: a jump
abbrev pub KeepsCounters : Record → Position → ControlResult → Type 0
KeepsCounters word x y = (cs : List ℕ) → KeepsDevice word x cs y cs

-- ---- what `execute_control` requires; it holds for every control word without a fault (proofs/Faults.antt)
pub record ControlReady (x : Position) (kind : WordKind) (word : Record) : Type 0 where
  pub near : x.place < most_records
  pub kind_is : word_kind_number kind ≡ word.kind
  pub control : is_control kind ≡ true
  pub enters : kind ≡ Enter → counter_count ≤ x.used → word.value ≡ 0
  pub loops : kind ≡ LoopEnd → 0 < x.used
  pub few : x.used ≤ counter_count

-- ---- the words that access the device
abbrev pub is_access : WordKind → Bool
is_access Write = true
is_access Read = true
is_access Test = true
is_access _ = false

abbrev pub access_of : Record → Access
access_of r = cond (eqb r.kind word_kind.write) (write_of r.port r.width r.value) (read_of r.port r.width)

-- the step of the code does what the word does, given the owner and the value that the access returned after the next event
abbrev pub ImplementsAccess : Record → (owner value : ℕ) → List ℕ → Position → List ℕ → Position → List ℕ → Type 0
ImplementsAccess word owner value events x log y log' =
    (d arrived : Device) (cs : List ℕ) (r : AccessResult) → arrived ≡ after_next_event d (drop x.taken events)
    → r ≡ device_access arrived (access_of word) → r.owner ≡ owner → r.answer.value ≡ value
    → Implements word events (run_state d x cs) log (run_state r.device y cs) log'
