-- `counter_bytes`: an iteration writes the four bytes of one more counter.
use Rattle.std.proofs.Common.{◌≡◌, ℕ, zero, suc, ◌+◌, ◌*◌, ◌<◌, List, ◌++◌, length, take, get_or, ap, ◌∙◌, arith, add-one, rules}
use Rattle.std.proofs.lemmas.Slice.{overwrites, take-put_mid}
use borrow.Rule.Slice.PartMut.{put_mid}
use Rattle.little_endian.proofs.Std.{four_bytes_of}
use Rattle.little_endian.specs.Bytes.{four_bytes}
use Rattle.sequencer_state.specs.State.{counter_bytes}
use Rattle.sequencer_state.proofs.counter_bytes.Goals as goal

-- the last of n + 1 counters
last_counter : (n k : ℕ) (cs : List ℕ) → counter_bytes (suc n) k cs ≡ counter_bytes n k cs ++ four_bytes (get_or cs (k + n) 0)
last_counter zero k cs =
    let z : k + 0 ≡ k = omega arith in
    rw z
last_counter (suc n) k cs =
    let z : k + suc n ≡ suc k + n = omega arith in
    rw z (ap (λ r. four_bytes (get_or cs k 0) ++ r) (last_counter n (suc k) cs))

one_more : (k j : ℕ) (bytes part cs : List ℕ) → k < 8 → length bytes ≡ 32 → j ≡ 4 → take (4 * k) bytes ≡ counter_bytes k 0 cs → part ≡ four_bytes (get_or cs k 0)
    → (length (put_mid (4 * k) j bytes part) ≡ 32) × (take (4 * (k + 1)) (put_mid (4 * k) j bytes part) ≡ counter_bytes (k + 1) 0 cs)
one_more k j bytes part cs l n f t p =
    let size : length part ≡ 4 = ap length p in
    let zero_k : 0 + k ≡ k = omega arith in (
      search (rules, overwrites),
      take-put_mid (4 * k) j bytes part (4 * (k + 1)) (omega arith) (omega arith)
          ∙ rw (t, p, add-one, last_counter k 0 cs, zero_k),
    )

pub loop-k-preserved : goal.loop-k-preserved
loop-k-preserved c =
    one_more c.loop-k.k _ c.loop-k.bytes _ c.args.counters (omega arith) c.loop-k.invariant.0 (omega arith) c.loop-k.invariant.1
    (c.copy_from_slice.ensures.after ∙ c.to_le_bytes.ensures ∙ four_bytes_of _)
