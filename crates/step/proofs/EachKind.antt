-- For each kind of word: the change that the code makes to its state is what `execute` does to the machine that it
-- represents.
use Prim.Native.Nat.{ℕ, suc, ◌+◌, ◌-◌, ◌≤◌, ◌<◌}
use mathlib.Core.Path.{◌≡◌, refl, ap, sym, ◌∙◌}
use mathlib.Core.Bool.{Bool, true, false, cond, false≢true}
use mathlib.Core.List.{List, [], ◌∷◌, ◌++◌, append-nil}
use native.Mathlib.Numerals.{add-one}
use native.Mathlib.Decide.{dec_lt}
use native.Mathlib.Omega.{arith}
use borrow.Author.Tests.{eq-eqb, eqb-false, eqb-true, ne_eqb}
use lib.Dec.{eqb}
use lib.ListN.{length, drop, get_or, set, length-append, length-drop}
use Rattle.access.specs.declared.Access.{Access}
use Rattle.device.specs.Event.{apply_event, tick_event}
use Rattle.device.specs.Dispatch.{AccessResult, device_access}
use Rattle.device.specs.declared.Device.{Device}
use Rattle.mask.specs.Mask.{has_bit}
use Rattle.lists.proofs.Stores.{stored}
use Rattle.log_entry.specs.Entry.{log_entry}
use Rattle.record.specs.WordKinds.{word_kind_number}
use Rattle.record.specs.declared.Record.{Record}
use Rattle.record.specs.declared.word_kind.WordKind.{WordKind}
use Rattle.record.specs.declared.word_kind.WordKind.TheVariants.{Write, Read, Delay, Enter, LoopEnd, Test, Jump, Halt}
use Rattle.semantics.specs.World.{
  after_access,
  answer_to,
  after_delay,
  entry_logged,
  events_after,
  after_next_event,
  after_read,
  read_of,
  shares_one,
  after_test,
  value_read,
  write_of,
  after_write,
}
use Rattle.step.specs.Effects.{
  AnswerEffect,
  control_result,
  enter_counters,
  enter_result,
  is_read,
  loop_end_counters,
  loop_end_result,
  turns_left,
}
use Rattle.step.specs.Represents.{
  Implements,
  ImplementsAccess,
  KeepsDevice,
  KeepsEvents,
  KeepsLog,
  Represents,
  RunState,
  access_of,
  is_access,
  is_control,
  run_state,
}
use Rattle.step.specs.Sequencer.{counter_array}
use Rattle.step.specs.Step.{Machine, execute, enter, loop_end, machine, test_word}
use Rattle.step.specs.declared.execute.Position.{Position}
use Rattle.step.proofs.CounterArray.{counter_pushed, counter_top, counter_set, counter_popped}

-- ---- `execute`, for each kind
execute_write :
    (r : Record) (m : Machine) → r.kind ≡ 1
    → execute r m ≡ machine (suc m.place) m.counters (after_write r.port r.width r.value m.world)
unfolding execute
execute_write r m k = rw k

execute_read :
    (r : Record) (m : Machine) → r.kind ≡ 2
    → execute r m ≡ machine (suc m.place) m.counters (after_read r.port r.width m.world)
unfolding execute
execute_read r m k = rw k

execute_delay :
    (r : Record) (m : Machine) → r.kind ≡ 3
    → execute r m ≡ machine (suc m.place) m.counters (after_delay r.value m.world)
unfolding execute
execute_delay r m k = rw k

execute_enter : (r : Record) (m : Machine) → r.kind ≡ 4 → execute r m ≡ enter r m
unfolding execute
execute_enter r m k = rw k

execute_loop : (r : Record) (m : Machine) → r.kind ≡ 5 → execute r m ≡ loop_end r m
unfolding execute
execute_loop r m k = rw k

execute_test : (r : Record) (m : Machine) → r.kind ≡ 6 → execute r m ≡ test_word r m
unfolding execute
execute_test r m k = rw k

execute_jump : (r : Record) (m : Machine) → r.kind ≡ 7 → execute r m ≡ machine r.target m.counters m.world
unfolding execute
execute_jump r m k = rw k

-- ---- an access after the next event
pub access_write : (r : Record) → r.kind ≡ 1 → access_of r ≡ write_of r.port r.width r.value
access_write r k = rw k

pub access_read : (r : Record) → (r.kind ≡ 1 → ⊥) → access_of r ≡ read_of r.port r.width
access_read r n = rw (ne_eqb r.kind 1 n)

-- an access of the code: the device after the event, the answer, and the number of events taken
pub record Accessing (x : RunState) (events : List ℕ) (a : Access) (r : AccessResult) (t : ℕ) : Type 0 where
  pub arrived : Device
  pub applied : arrived ≡ after_next_event x.device (drop x.taken events)
  pub answered : r ≡ device_access arrived a
  pub inside : t ≤ length events
  pub left : drop t events ≡ events_after (drop x.taken events)

same_answer :
    {x : RunState} {events lent log : List ℕ} {m : Machine} {a : Access} {r : AccessResult} {t : ℕ}
    → Represents x events lent log m → Accessing x events a r t → r ≡ answer_to m.world a
same_answer h g = g.answered ∙ rw (g.applied, h.device, h.taken)

same_left :
    {x : RunState} {events lent log : List ℕ} {m : Machine} {a : Access} {r : AccessResult} {t : ℕ}
    → Represents x events lent log m → Accessing x events a r t → drop t events ≡ events_after m.world.events
same_left h g = g.left ∙ ap events_after h.taken

-- the state after an access that logs nothing
abbrev pub accessed_to : RunState → AccessResult → (place taken : ℕ) → RunState
accessed_to x r p t = record {
  device = r.device;
  place = p;
  counters = x.counters;
  used = x.used;
  taken = t;
  logged = x.logged;
}

after_access_lem :
    {x : RunState} {events lent log : List ℕ} {m : Machine} {a : Access} {r : AccessResult} {t : ℕ} {p q : ℕ}
    → Represents x events lent log m → Accessing x events a r t → p ≡ q
    → Represents (accessed_to x r p t) events lent log (machine q m.counters (after_access m.world a []))
after_access_lem {x} {events} {lent} {log} {m} {a} {r} {t} {p} {q} h g e =
    let n = append-nil m.world.logged in
    record {
      device = ap (λ (y : AccessResult). y.device) (same_answer h g);
      place = e;
      counters = h.counters;
      used = h.used;
      few = h.few;
      taken = same_left h g;
      inside = g.inside;
      logged = rw n h.logged;
      lines = rw n h.lines;
    }

-- a write
pub wrote :
    (word : Record) (x : RunState) (events : List ℕ) (r : AccessResult) (t : ℕ) → word.kind ≡ 1
    → Accessing x events (write_of word.port word.width word.value) r t
    → KeepsLog word events x (accessed_to x r (x.place + 1) t)
unfolding after_write
wrote word x events r t k g = λ log lent m h.
    rw (execute_write word m k) (after_access_lem h g (add-one _ ∙ ap suc h.place))

-- ---- a test: it continues if the value and the mask have a common 1, and jumps otherwise
pub test_passed :
    (word : Record) (x : RunState) (events : List ℕ) (r : AccessResult) (t v : ℕ) → word.kind ≡ 6
    → Accessing x events (read_of word.port word.width) r t → r.answer.value ≡ v → has_bit word.value v ≡ true
    → KeepsLog word events x (accessed_to x r (x.place + 1) t)
unfolding after_test shares_one value_read
test_passed word x events r t v k g e b = λ log lent m h.
    let s : shares_one word.port word.width word.value m.world ≡ true =
    ap (has_bit word.value) (sym (ap (λ (y : AccessResult). y.answer.value) (same_answer h g)) ∙ e) ∙ b in
    rw (execute_test word m k, s) (after_access_lem h g (add-one _ ∙ ap suc h.place))

pub test_failed :
    (word : Record) (x : RunState) (events : List ℕ) (r : AccessResult) (t v : ℕ) → word.kind ≡ 6
    → Accessing x events (read_of word.port word.width) r t → r.answer.value ≡ v → has_bit word.value v ≡ false
    → KeepsLog word events x (accessed_to x r word.target t)
unfolding after_test shares_one value_read
test_failed word x events r t v k g e b = λ log lent m h.
    let s : shares_one word.port word.width word.value m.world ≡ false =
    ap (has_bit word.value) (sym (ap (λ (y : AccessResult). y.answer.value) (same_answer h g)) ∙ e) ∙ b in
    rw (execute_test word m k, s) (after_access_lem h g refl)

-- ---- a read, which logs its owner and its value
abbrev pub read_to : RunState → AccessResult → (taken : ℕ) → RunState
read_to x r t = record {
  device = r.device;
  place = x.place + 1;
  counters = x.counters;
  used = x.used;
  taken = t;
  logged = x.logged + 1;
}

pub one_more : (entries : List ℕ) (e : ℕ) → length (entries ++ (e ∷ [])) ≡ suc (length entries)
one_more entries e = let l = length-append entries (e ∷ []) in omega (arith, l)

-- storing an entry at the number of entries appends it to the filled part of the log
pub logs :
    (entries lent log : List ℕ) (n new : ℕ) → n ≡ length entries → log ≡ entries ++ drop (length entries) lent → n < length log
    → set log n new ≡ (entries ++ (new ∷ [])) ++ drop (length (entries ++ (new ∷ []))) lent
logs entries lent log n new e h l =
    let a = length-append entries (drop (length entries) lent) in
    let d = length-drop (length entries) lent in
    let b : length log ≡ length (entries ++ drop (length entries) lent) = ap length h in
    rw (e, one_more entries new) (stored entries lent log new h (omega (arith, a, b, d, e, l)))

pub read_out :
    (word : Record) (x : RunState) (events log : List ℕ) (r : AccessResult) (t entry : ℕ) → word.kind ≡ 2
    → Accessing x events (read_of word.port word.width) r t → entry ≡ log_entry r.owner r.answer.value → x.logged < length log
    → Implements word events x log (read_to x r t) (set log x.logged entry)
unfolding after_read entry_logged value_read
read_out word x events log r t entry k g e l = λ lent m h.
    let s = same_answer h g in
    let w : entry ≡ entry_logged word.port word.width m.world =
    e ∙ ap (λ (y : AccessResult). log_entry y.owner y.answer.value) s in
    rw (execute_read word m k)
    (record {
      device = ap (λ (y : AccessResult). y.device) s;
      place = add-one _ ∙ ap suc h.place;
      counters = h.counters;
      used = h.used;
      few = h.few;
      taken = same_left h g;
      inside = g.inside;
      logged = add-one _ ∙ ap suc h.logged ∙ sym (one_more m.world.logged _);
      lines = rw w (logs m.world.logged lent log x.logged _ h.logged h.lines l);
    })

-- ---- words that take no event
abbrev pub moved_to : RunState → Device → (place : ℕ) → RunState
moved_to x d p = record {
  device = d;
  place = p;
  counters = x.counters;
  used = x.used;
  taken = x.taken;
  logged = x.logged;
}

-- a delay
pub after_delay_by :
    (word : Record) (x : RunState) (d : Device) → word.kind ≡ 3 → d ≡ apply_event x.device (tick_event word.value)
    → KeepsEvents word x (moved_to x d (x.place + 1))
unfolding after_delay
after_delay_by word x d k e = λ events log lent m h.
    rw (execute_delay word m k)
    (record {
      device = e ∙ ap (λ (y : Device). apply_event y (tick_event word.value)) h.device;
      place = add-one _ ∙ ap suc h.place;
      counters = h.counters;
      used = h.used;
      few = h.few;
      taken = h.taken;
      inside = h.inside;
      logged = h.logged;
      lines = h.lines;
    })

to_target :
    {x : RunState} {events lent log : List ℕ} {m : Machine} (p : ℕ) → Represents x events lent log m
    → Represents (moved_to x x.device p) events lent log (machine p m.counters m.world)
to_target p h = record {
  device = h.device;
  place = refl;
  counters = h.counters;
  used = h.used;
  few = h.few;
  taken = h.taken;
  inside = h.inside;
  logged = h.logged;
  lines = h.lines;
}

-- a jump
pub jumped : (word : Record) (x : RunState) → word.kind ≡ 7 → KeepsEvents word x (moved_to x x.device word.target)
jumped word x k = λ events log lent m h. rw (execute_jump word m k) (to_target word.target h)

-- an enter with value 0
pub enter_none :
    (word : Record) (x : RunState) → word.kind ≡ 4 → word.value ≡ 0
    → KeepsEvents word x (moved_to x x.device word.target)
enter_none word x k z = λ events log lent m h. rw (execute_enter word m k, eq-eqb word.value 0 z) (to_target word.target h)

-- ---- words that change the counters
abbrev pub counted_to : RunState → (counters : List ℕ) (used place : ℕ) → RunState
counted_to x cs u p = record {
  device = x.device;
  place = p;
  counters = cs;
  used = u;
  taken = x.taken;
  logged = x.logged;
}

with_counters :
    {x : RunState} {events lent log : List ℕ} {m : Machine} (xs : List ℕ) (u p q : ℕ) (cs : List ℕ)
    → Represents x events lent log m → xs ≡ counter_array cs → u ≡ length cs → length cs ≤ 8 → p ≡ q
    → Represents (counted_to x xs u p) events lent log (machine q cs m.world)
with_counters xs u p q cs h a b l e = record {
  device = h.device;
  place = e;
  counters = a;
  used = b;
  few = l;
  taken = h.taken;
  inside = h.inside;
  logged = h.logged;
  lines = h.lines;
}

-- if 8 counters in use require the value 0, another value leaves room for a counter
pub room_left_lem : (used value : ℕ) → (8 ≤ used → value ≡ 0) → (value ≡ 0 → ⊥) → used < 8
room_left_lem used value f n = pick (dec_lt used 8)
  where
    pick : Dec (used < 8) → used < 8
    pick (yes l) = l
    pick (no l) = absurd (n (f (omega arith)))

-- an enter with another value
pub enter_pushed :
    (word : Record) (x : RunState) → word.kind ≡ 4 → (word.value ≡ 0 → ⊥) → x.used < 8
    → KeepsEvents word x (counted_to x (set x.counters x.used word.value) (x.used + 1) (x.place + 1))
enter_pushed word x k z l = λ events log lent m h.
    let few : length m.counters < 8 = omega (arith, l, h.used) in
    rw (execute_enter word m k, ne_eqb word.value 0 z)
    (with_counters _ _ _ _ (word.value ∷ m.counters) h
    (rw (h.counters, h.used) (counter_pushed m.counters word.value few)) (add-one _ ∙ ap suc h.used) few
    (add-one _ ∙ ap suc h.place))

-- a stack of counters that is not empty: its top, and what is below
pub record Topped (x : RunState) (m : Machine) : Type 0 where
  pub top : ℕ
  pub below : List ℕ
  pub split : m.counters ≡ top ∷ below
  pub read : get_or x.counters (x.used - 1) 0 ≡ top
  pub under : x.used - 1 ≡ length below
  pub room : length below < 8
  pub popped : set x.counters (x.used - 1) 0 ≡ counter_array below
  pub lowered : (v : ℕ) → set x.counters (x.used - 1) v ≡ counter_array (v ∷ below)

topped :
    (x : RunState) (m : Machine) → x.counters ≡ counter_array m.counters → x.used ≡ length m.counters
    → length m.counters ≤ 8 → 0 < x.used → Topped x m
topped x m a u l z = pick m.counters refl
  where
    pick : (cs : List ℕ) → m.counters ≡ cs → Topped x m
    pick [] e = absurd (let n : length m.counters ≡ 0 = ap length e in omega (arith, n, u, z))
    pick (c ∷ cs) e =
        let n : length m.counters ≡ suc (length cs) = ap length e in
        let w : x.used - 1 ≡ length cs = omega (arith, n, u) in
        record {
          top = c;
          below = cs;
          split = e;
          read = rw (w, a, e) (counter_top c cs);
          under = w;
          room = omega (arith, n, l);
          popped = rw (w, a, e) (counter_popped c cs (omega (arith, n, l)));
          lowered = λ v. rw (w, a, e) (counter_set c cs v);
        }

-- a loop end at the last turn
pub loop_over :
    (word : Record) (x : RunState) → word.kind ≡ 5 → 0 < x.used → get_or x.counters (x.used - 1) 0 - 1 ≡ 0
    → KeepsEvents word x (counted_to x (set x.counters (x.used - 1) 0) (x.used - 1) (x.place + 1))
loop_over word x k z l = λ events log lent m h.
    let t = topped x m h.counters h.used h.few z in
    let one : t.top - 1 ≡ 0 = omega (arith, l, t.read) in
    rw (execute_loop word m k, t.split, eq-eqb (t.top - 1) 0 one)
    (with_counters _ _ _ _ t.below h
    t.popped t.under
    (omega (arith, t.room)) (add-one _ ∙ ap suc h.place))

-- a loop end before the last turn
pub loop_again :
    (word : Record) (x : RunState) → word.kind ≡ 5 → 0 < x.used → (get_or x.counters (x.used - 1) 0 - 1 ≡ 0 → ⊥)
    → KeepsEvents word x
    (counted_to x (set x.counters (x.used - 1) (get_or x.counters (x.used - 1) 0 - 1)) x.used word.target)
loop_again word x k z l = λ events log lent m h.
    let t = topped x m h.counters h.used h.few z in
    rw (execute_loop word m k, t.split, ne_eqb (t.top - 1) 0 (λ q. l (rw t.read q)))
    (with_counters _ _ _ _ ((t.top - 1) ∷ t.below) h
    (rw t.read (t.lowered (t.top - 1)))
    (omega (arith, t.under, z)) (omega (arith, t.room)) refl)

-- ---- the functions of src/execute.rt
-- `enter`
pub entered :
    (word : Record) (x : Position) (cs : List ℕ) → word.kind ≡ 4 → (8 ≤ x.used → word.value ≡ 0)
    → KeepsDevice word x cs (enter_result x word.value word.target) (enter_counters x word.value cs)
entered word x cs k f = pick (eqb word.value 0) refl
  where
    pick : (b : Bool) → eqb word.value 0 ≡ b
        → KeepsDevice word x cs (cond b (control_result x.used word.target) (control_result (x.used + 1) (x.place + 1)))
        (cond b cs (set cs x.used word.value))
    pick true e = λ d. enter_none word (run_state d x cs) k (eqb-true word.value 0 e)
    pick false e = λ d.
        let z = eqb-false word.value 0 e in
        enter_pushed word (run_state d x cs) k z (room_left_lem x.used word.value f z)

-- `loop_end`
pub loop_ended :
    (word : Record) (x : Position) (cs : List ℕ) → word.kind ≡ 5 → 0 < x.used
    → KeepsDevice word x cs (loop_end_result x word.target cs) (loop_end_counters x cs)
loop_ended word x cs k l = pick (eqb (turns_left x cs) 0) refl
  where
    pick : (b : Bool) → eqb (turns_left x cs) 0 ≡ b
        → KeepsDevice word x cs (cond b (control_result (x.used - 1) (x.place + 1)) (control_result x.used word.target))
        (loop_end_counters x cs)
    pick true e = λ d.
        let z = eqb-true (turns_left x cs) 0 e in
        rw z (loop_over word (run_state d x cs) k l z)
    pick false e = λ d. loop_again word (run_state d x cs) k l (eqb-false (turns_left x cs) 0 e)

-- the third control word
pub jump_left : (kind : WordKind) → is_control kind ≡ true → (kind ≡ Enter → ⊥) → (kind ≡ LoopEnd → ⊥) → kind ≡ Jump
jump_left Jump h a b = refl
jump_left Enter h a b = absurd (a refl)
jump_left LoopEnd h a b = absurd (b refl)
jump_left Write h a b = absurd (false≢true h)
jump_left Read h a b = absurd (false≢true h)
jump_left Delay h a b = absurd (false≢true h)
jump_left Test h a b = absurd (false≢true h)
jump_left Halt h a b = absurd (false≢true h)

-- `apply_answer`, for the answer of the access that it is given
pub answered :
    (kind : WordKind) (word : Record) (owner value : ℕ) (events : List ℕ) (x : Position) (log : List ℕ) (y : Position) (log' : List ℕ)
    → word_kind_number kind ≡ word.kind → is_access kind ≡ true → (is_read kind ≡ true → x.logged < length log)
    → AnswerEffect kind word.value word.target owner value events x log y log'
    → ImplementsAccess word owner value events x log y log'
answered Write word owner value events x log y log' k a l h = λ d arrived cs r p g o v.
    rw (h.used, h.place, h.logged, h.lines)
    (wrote word (run_state d x cs) events r y.taken (sym k)
    (record {
      arrived = arrived;
      applied = p;
      answered = g ∙ ap (device_access arrived) (access_write word (sym k));
      inside = h.inside;
      left = h.left;
    }) log)
answered Read word owner value events x log y log' k a l h = λ d arrived cs r p g o v.
    rw (h.used, h.place, h.logged, h.lines)
    (read_out word (run_state d x cs) events log r y.taken _ (sym k)
    (record {
      arrived = arrived;
      applied = p;
      answered = g ∙ ap (device_access arrived) (access_read word (λ q. omega (arith, k, q)));
      inside = h.inside;
      left = h.left;
    }) (sym (rw (o, v))) (l refl))
answered Test word owner value events x log y log' k a l h = λ d arrived cs r p g o v.
    pick (has_bit word.value value) refl h d arrived cs r p g o v
  where
    pick : (b : Bool) → has_bit word.value value ≡ b → AnswerEffect Test word.value word.target owner value events x log y log'
        → ImplementsAccess word owner value events x log y log'
    pick true e h = λ d arrived cs r p g o v.
        let q : y.place ≡ x.place + 1 = rw e at h.place in
        rw (h.used, q, h.logged, h.lines)
        (test_passed word (run_state d x cs) events r y.taken value (sym k)
        (record {
          arrived = arrived;
          applied = p;
          answered = g ∙ ap (device_access arrived) (access_read word (λ q. omega (arith, k, q)));
          inside = h.inside;
          left = h.left;
        }) v e log)
    pick false e h = λ d arrived cs r p g o v.
        let q : y.place ≡ word.target = rw e at h.place in
        rw (h.used, q, h.logged, h.lines)
        (test_failed word (run_state d x cs) events r y.taken value (sym k)
        (record {
          arrived = arrived;
          applied = p;
          answered = g ∙ ap (device_access arrived) (access_read word (λ q. omega (arith, k, q)));
          inside = h.inside;
          left = h.left;
        }) v e log)
answered Delay word owner value events x log y log' k a l h = absurd (false≢true a)
answered Enter word owner value events x log y log' k a l h = absurd (false≢true a)
answered LoopEnd word owner value events x log y log' k a l h = absurd (false≢true a)
answered Jump word owner value events x log y log' k a l h = absurd (false≢true a)
answered Halt word owner value events x log y log' k a l h = absurd (false≢true a)
