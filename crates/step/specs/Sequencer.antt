-- The state of the sequencer, and which states are valid. See docs/CHIP.md, "Runs" and "Valid and saved states".
use Rattle.std.specs.Prelude.{ℕ, ◌-◌, Bool, cond, ◌&&◌, List, ◌++◌, reverse, eqb, leb, ltb, get_or, length, replicate}
use Rattle.lists.specs.Stack.{stack_of}
use Rattle.mask.specs.Every.{all_below}
use Rattle.record.specs.Record.{most_turns}
use Rattle.step.specs.declared.Sequencer.{Sequencer}

abbrev pub counter_count : ℕ
counter_count = 8

-- place 0, no counter in use
abbrev pub fresh_sequencer : Sequencer
fresh_sequencer = record { place = 0; counters = replicate counter_count 0; used = 0 }

abbrev pub counter_in_range : (used k counter : ℕ) → Bool
counter_in_range used k c = cond (ltb k used) (leb 1 c && leb c most_turns) (eqb c 0)

-- "at most 8 counters, those in use 1 to 65,535, the rest 0"; any place is valid, and a place not in the image ends the run with 21
unfoldable pub sequencer_in_range : Sequencer → Bool
sequencer_in_range s = leb s.used counter_count && all_below counter_count (λ k. counter_in_range s.used k (get_or s.counters k 0))

-- the counters in use, top first
abbrev pub counters_of : Sequencer → List ℕ
counters_of s = stack_of s.used s.counters

-- the array of a list of counters in use, top first: they are stored bottom first, and 0 follows
abbrev pub counter_array : List ℕ → List ℕ
counter_array cs = reverse cs ++ replicate (counter_count - length cs) 0

abbrev pub sequencer_at : ℕ → List ℕ → Sequencer
sequencer_at place cs = record { place = place; counters = counter_array cs; used = length cs }
