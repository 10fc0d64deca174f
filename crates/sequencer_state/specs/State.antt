-- A saved sequencer: the place, the number of counters in use and the eight counters, four bytes each, "least byte first"; and the way back. See
-- docs/STATE.md, "A saved sequencer".
use Rattle.std.specs.Prelude.{ℕ, zero, suc, ◌+◌, Bool, cond, List, [], ◌∷◌, ◌++◌, Result, Ok, Err, eqb, get_or, length}
use Rattle.little_endian.specs.Bytes.{four_at, four_bytes}
use Rattle.outcome.specs.Number as number
use Rattle.outcome.specs.Refusal.{Refusal, refusal}
use Rattle.outcome.specs.Refused.{refusal_of}
use Rattle.outcome.specs.declared.Refused.{Refused}
use Rattle.step.specs.Sequencer.{counter_count, fresh_sequencer}
use Rattle.step.specs.declared.Sequencer.{Sequencer}

abbrev pub sequencer_size : ℕ
sequencer_size = 40

-- ---- a sequencer as bytes
-- n counters, from counter k on
abbrev pub counter_bytes : ℕ → ℕ → List ℕ → List ℕ
counter_bytes zero k counters = []
counter_bytes (suc n) k counters = four_bytes (get_or counters k 0) ++ counter_bytes n (suc k) counters

abbrev pub sequencer_bytes : Sequencer → List ℕ
sequencer_bytes s = four_bytes s.place ++ (four_bytes s.used ++ counter_bytes counter_count 0 s.counters)

-- ---- bytes as a sequencer
-- n counters, from a place in the bytes on
abbrev pub counters_from : ℕ → ℕ → List ℕ → List ℕ
counters_from zero at bytes = []
counters_from (suc n) at bytes = four_at bytes at ∷ counters_from n (at + 4) bytes

unfoldable pub sequencer_from : List ℕ → Sequencer
sequencer_from bytes = record { place = four_at bytes 0; counters = counters_from counter_count 8 bytes; used = four_at bytes 4 }

-- ---- saving: only a slice of the length of a saved sequencer is written
unfoldable pub saved : Sequencer → List ℕ → List ℕ
saved s bytes = cond (eqb (length bytes) sequencer_size) (sequencer_bytes s) bytes

abbrev pub save_refusal : List ℕ → Refusal
save_refusal bytes = cond (eqb (length bytes) sequencer_size) (refusal 0 0) (refusal number.bad_state 0)

-- ---- loading: any 40 bytes hold a sequencer; bytes of another length are refused with 11 at place 0
abbrev pub holds_sequencer : List ℕ → Bool
holds_sequencer bytes = eqb (length bytes) sequencer_size

pub record LoadResult : Type 0 where
  pub refusal : Refusal
  pub sequencer : Sequencer

-- after a refusal the sequencer is one that no caller can get
unfoldable pub loaded : List ℕ → LoadResult
loaded bytes =
    cond (holds_sequencer bytes)
    (record { refusal = refusal 0 0; sequencer = sequencer_from bytes })
    (record { refusal = refusal number.bad_state 0; sequencer = fresh_sequencer })

-- the loaded sequencer, or another one after a refusal
abbrev pub sequencer_or : LoadResult → Sequencer → Sequencer
sequencer_or l otherwise = cond (eqb l.refusal.number 0) l.sequencer otherwise

-- the result of the call `load` in these terms: number 0 and the sequencer, or the refusal
abbrev pub load_of : Result Sequencer Refused → LoadResult
load_of (Ok s) = record { refusal = refusal 0 0; sequencer = s }
load_of (Err r) = record { refusal = refusal_of r; sequencer = fresh_sequencer }
