-- The counters as an array and as a list, top first. A store at index `used` is a push, a store one below changes the top
-- counter, and a 0 stored there pops it. A valid sequencer has valid counters in the list, and valid counters make a valid
-- sequencer.
use Prim.Native.Nat.{ℕ, zero, suc, ◌+◌, ◌-◌, ◌≤◌, ◌<◌}
use mathlib.Core.Path.{◌≡◌, ap, sym, ◌∙◌}
use mathlib.Core.Bool.{true, ◌&&◌}
use mathlib.Core.List.{List, [], ◌∷◌, reverse}
use native.Mathlib.Decide.{dec_lt}
use native.Mathlib.Omega.{arith}
use borrow.Author.Tests.{eqb-true, le-leb, le-ltb, leb-true, lt-ltb}
use lib.Dec.{leb}
use lib.ListN.{length, get_or, set, replicate, length-reverse}
use lib.Seq.{get_or-append-add}
use Rattle.lists.specs.Stack.{stack_of}
use Rattle.lists.proofs.Replicate.{replicate_at, slice_replicate}
use Rattle.lists.proofs.Slice.{slice_whole}
use Rattle.lists.proofs.Stack.{array_push, array_set_top, array_stack, array_top, stack_array, stack_length}
use Rattle.mask.proofs.Every.{all_at, all_true, and_both, and_left, and_right}
use Rattle.script.specs.Refusals.{innermost}
use Rattle.step.specs.Sequencer.{counter_in_range, counters_of, counter_array, sequencer_at, sequencer_in_range}
use Rattle.step.specs.declared.Sequencer.{Sequencer}

-- ---- push, read, change and pop the top counter
pub counter_pushed : (cs : List ℕ) (v : ℕ) → length cs < 8 → set (counter_array cs) (length cs) v ≡ counter_array (v ∷ cs)
counter_pushed cs v h =
    let e : 8 - length cs ≡ suc (8 - suc (length cs)) = omega arith in
    rw e (array_push cs (replicate (8 - suc (length cs)) 0) 0 v)

pub counter_top : (c : ℕ) (cs : List ℕ) → get_or (counter_array (c ∷ cs)) (length cs) 0 ≡ c
counter_top c cs = ap innermost (stack_array (c ∷ cs) (replicate (8 - suc (length cs)) 0))

pub counter_set : (c : ℕ) (cs : List ℕ) (v : ℕ) → set (counter_array (c ∷ cs)) (length cs) v ≡ counter_array (v ∷ cs)
counter_set c cs v = array_set_top c cs (replicate (8 - suc (length cs)) 0) v

pub counter_popped : (c : ℕ) (cs : List ℕ) → length cs < 8 → set (counter_array (c ∷ cs)) (length cs) 0 ≡ counter_array cs
counter_popped c cs h =
    let e : 8 - length cs ≡ suc (8 - suc (length cs)) = omega arith in
    counter_set c cs 0 ∙ (rw e (array_top 0 cs (replicate (8 - suc (length cs)) 0)))

-- ---- the counters of a valid sequencer
pub used_few : (s : Sequencer) → sequencer_in_range s ≡ true → s.used ≤ 8
unfolding sequencer_in_range
used_few s h = leb-true s.used 8 (and_left _ _ h)

pub used_length : (s : Sequencer) → s.used ≡ length (counters_of s)
used_length s = sym (stack_length s.used s.counters)

in_range_at :
    (s : Sequencer) → sequencer_in_range s ≡ true → (k : ℕ) → k < 8
    → counter_in_range s.used k (get_or s.counters k 0) ≡ true
unfolding sequencer_in_range
in_range_at s h k l =
    all_at 8 (λ j. counter_in_range s.used j (get_or s.counters j 0)) (and_right (leb s.used 8) _ h) k l

rest_zero :
    (s : Sequencer) → sequencer_in_range s ≡ true → (k : ℕ) → s.used ≤ k → k < 8 → get_or s.counters k 0 ≡ 0
rest_zero s h k l m = eqb-true _ 0 (rw (le-ltb k s.used l) at (in_range_at s h k m))

-- the array of a valid sequencer holds its counters in use, then zeros
pub counters_array :
    (s : Sequencer) → length s.counters ≡ 8 → sequencer_in_range s ≡ true → s.counters ≡ counter_array (counters_of s)
counters_array s w h =
    let n = s.used in
    let xs = s.counters in
    let few = used_few s h in
    let e : n + (8 - n) ≡ 8 = omega (arith, few) in
    let z = slice_replicate 0 (8 - n) n xs (λ k l. rest_zero s h (n + k) (omega arith) (omega (arith, l, few))) in
    sym (slice_whole 0 8 xs w) ∙ rw (stack_length n xs, ← z) (sym (rw e at (array_stack n (8 - n) xs)))

-- ---- valid counters, as a list and as an array
-- "those in use 1 to 65,535"
abbrev pub Counts : ℕ → Type 0
Counts c = (1 ≤ c) × (c ≤ 65535)

abbrev pub AllCount : List ℕ → Type 0
AllCount [] = Unit {0}
AllCount (c ∷ cs) = Counts c × AllCount cs

stack_in_range : (s : Sequencer) → sequencer_in_range s ≡ true → (n : ℕ) → n ≤ s.used → AllCount (stack_of n s.counters)
stack_in_range s h zero l = tt
stack_in_range s h (suc n) l =
    let c = get_or s.counters n 0 in
    let few = used_few s h in
    let g : (leb 1 c && leb c 65535) ≡ true =
    rw (lt-ltb n s.used l) at (in_range_at s h n (omega (arith, l, few))) in (
      (leb-true 1 c (and_left _ _ g), leb-true c 65535 (and_right (leb 1 c) _ g)),
      stack_in_range s h n (omega (arith, l)),
    )

pub counters_in_range : (s : Sequencer) → sequencer_in_range s ≡ true → AllCount (counters_of s)
counters_in_range s h = stack_in_range s h s.used (omega arith)

stack_at : (n : ℕ) (xs : List ℕ) → AllCount (stack_of n xs) → (k : ℕ) → k < n → Counts (get_or xs k 0)
stack_at zero xs h k l = absurd (omega arith)
stack_at (suc n) xs h k l = pick (λ m. stack_at n xs h.1 k m) (dec_lt k n)
  where
    pick : (k < n → Counts (get_or xs k 0)) → Dec (k < n) → Counts (get_or xs k 0)
    pick f (yes m) = f m
    pick f (no m) =
        let e : k ≡ n = omega arith in
        rw e h.0

used_at : (cs : List ℕ) → AllCount cs → (k : ℕ) → k < length cs → Counts (get_or (counter_array cs) k 0)
used_at cs h = stack_at (length cs) (counter_array cs) (rw (stack_array cs (replicate (8 - length cs) 0)) h)

rest_at : (cs : List ℕ) (k : ℕ) → length cs ≤ k → get_or (counter_array cs) k 0 ≡ 0
rest_at cs k l =
    let e : k ≡ length (reverse cs) + (k - length cs) = omega (arith, l, length-reverse cs) in
    ap (λ (j : ℕ). get_or (counter_array cs) j 0) e
    ∙ get_or-append-add (reverse cs) (replicate (8 - length cs) 0) (k - length cs) 0
    ∙ replicate_at 0 (8 - length cs) (k - length cs)

-- at most 8 valid counters make a valid sequencer, at any place
pub array_in_range :
    (place : ℕ) (cs : List ℕ) → length cs ≤ 8 → AllCount cs → sequencer_in_range (sequencer_at place cs) ≡ true
unfolding sequencer_in_range
array_in_range place cs few h =
    and_both (leb (length cs) 8) _ (le-leb (length cs) 8 few) (all_true 8 _ (λ k l. pick k (dec_lt k (length cs))))
  where
    pick : (k : ℕ) → Dec (k < length cs) → counter_in_range (length cs) k (get_or (counter_array cs) k 0) ≡ true
    pick k (yes m) =
        let c = get_or (counter_array cs) k 0 in
        let u = used_at cs h k m in
        rw (lt-ltb k (length cs) m) (and_both (leb 1 c) (leb c 65535) (le-leb 1 c u.0) (le-leb c 65535 u.1))
    pick k (no m) =
        let l : length cs ≤ k = omega (arith, m) in
        rw (le-ltb k (length cs) l, rest_at cs k l)

-- ---- resuming: the counters that a run returns are those that the next run starts with
pub counters_back : (place : ℕ) (cs : List ℕ) → counters_of (sequencer_at place cs) ≡ cs
counters_back place cs = stack_array cs (replicate (8 - length cs) 0)
