-- The bytes of the first `k` counters are written.
use Rattle.std.proofs.Common.{◌≡◌, ◌*◌, length, take}
use Rattle.sequencer_state.specs.State.{counter_bytes}
use Rattle.sequencer_state.proofs.counter_bytes.Given as goal

abbrev pub invariant-loop-k : goal.invariant-loop-k
invariant-loop-k l = (length l.bytes ≡ 32) × (take (4 * l.k) l.bytes ≡ counter_bytes l.k 0 l.fn.counters)
