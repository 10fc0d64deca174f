-- What every run keeps to: it returns a valid device and sequencer if it gets valid ones, makes at most as many steps as its
-- budget, and logs at most as many values as the log has room for. A run that has spent its budget can be resumed as if it
-- had not stopped.
use Prim.Native.Nat.{ℕ, zero, suc, ◌+◌, ◌-◌, ◌≤◌}
use mathlib.Core.Path.{◌≡◌, refl}
use mathlib.Core.Bool.{Bool, true, false, cond}
use mathlib.Core.List.{List, [], ◌∷◌, ◌++◌}
use native.Mathlib.Omega.{arith}
use borrow.Author.Tests.{eqb-false, eqb-true}
use lib.Dec.{eqb, leb}
use lib.ListN.{length, length-append}
use Rattle.access.specs.declared.Access.{Access}
use Rattle.device.proofs.Range.{access_in_range, event_in_range}
use Rattle.device.specs.Device.{device_in_range}
use Rattle.device.specs.Event.{tick_event}
use Rattle.device.specs.declared.Device.{Device}
use Rattle.mask.proofs.Branch.{branch, branch_on}
use Rattle.record.specs.declared.Record.{Record}
use Rattle.script.specs.Refusals.{innermost, outer}
use Rattle.semantics.specs.World.{
  World,
  answer_to,
  after_delay,
  after_next_event,
  after_read,
  entry_logged,
  read_of,
  start_world,
  after_test,
  write_of,
  after_write,
}
use Rattle.sequencer.specs.Run.{RunEnd, RunResult, run_result, follow, image_run, run_from, run_answer, run_refusal}
use Rattle.step.specs.Sequencer.{counters_of, sequencer_in_range}
use Rattle.step.specs.Step.{
  Machine,
  Step,
  target_beyond,
  execute,
  enter,
  fault_at,
  faults,
  continues,
  halts,
  log_full,
  loop_end,
  machine,
  ninth_counter,
  no_counter,
  next_step,
  word_fault,
}
use Rattle.step.specs.Word.{bad_word, image_words, word_at}
use Rattle.step.specs.declared.Sequencer.{Sequencer}
use Rattle.step.proofs.EachKind.{room_left_lem}
use Rattle.step.proofs.Faults.{Clean, clean, enter_room, enter_value, read_room}
use Rattle.step.proofs.CounterArray.{AllCount, counters_in_range, array_in_range, used_few, used_length}

-- ---- a property that every step keeps holds at the end of a run
-- a step that does not end the run executes a word without a fault
pub when_continues :
    (image : List ℕ) (room : ℕ) (m n : Machine) → next_step image room m ≡ continues n
    → (fault_at image room m ≡ 0) × (execute (word_at image m.place) m ≡ n)
unfolding next_step
when_continues image room m n h =
    pick (leb (image_words image) m.place) (eqb (fault_at image room m) 0) (eqb (word_at image m.place).kind 8) refl h
  where
    pick : (a b c : Bool) → eqb (fault_at image room m) 0 ≡ b
        → cond a (faults 21)
        (cond b (cond c halts (continues (execute (word_at image m.place) m))) (faults (fault_at image room m)))
        ≡ continues n
        → (fault_at image room m ≡ 0) × (execute (word_at image m.place) m ≡ n)
    pick true b c q z = let y : ◌≡◌ {A = ℕ} 0 1 = cc in absurd (omega arith)
    pick false false c q z = let y : ◌≡◌ {A = ℕ} 0 1 = cc in absurd (omega arith)
    pick false true true q z = let y : ◌≡◌ {A = ℕ} 0 1 = cc in absurd (omega arith)
    pick false true false q z = (eqb-true (fault_at image room m) 0 q, cc)

-- every word without a fault keeps P, if the log has this room
abbrev pub Keeps : (room : ℕ) → (Machine → Type 0) → Type 0
Keeps room P =
    (words : ℕ) (r : Record) (m : Machine) → Clean words room (length m.counters) (length m.world.logged) r → P m
    → P (execute r m)

module _ (image : List ℕ) (room : ℕ) (P : Machine → Type 0) (keeps : Keeps room P) where
  step_keeps : (m n : Machine) → next_step image room m ≡ continues n → P m → P n
  step_keeps m n e h =
      let g = when_continues image room m n e in
      let r = word_at image m.place in
      rw g.1 at (keeps (image_words image) r m (clean (image_words image) room _ _ r g.0) h)

  follow_keeps :
      (rest : Machine → RunEnd) (steps : ℕ) (m : Machine) → P m → ((n : Machine) → P n → P (rest n).machine)
      → (s : Step) → next_step image room m ≡ s → P (follow rest steps m s).machine
  follow_keeps rest steps m h i (continues n) e = i n (step_keeps m n e h)
  follow_keeps rest steps m h i halts e = h
  follow_keeps rest steps m h i (faults f) e = h

  pub run_from_keeps : (left steps : ℕ) (m : Machine) → P m → P (run_from image room left steps m).machine
  run_from_keeps zero steps m h = h
  run_from_keeps (suc left) steps m h =
      follow_keeps (run_from image room left (suc steps)) steps m h (λ n k. run_from_keeps left (suc steps) n k)
      (next_step image room m) refl

-- ---- the device
applied_in_range : (d : Device) (events : List ℕ) → device_in_range d ≡ true → device_in_range (after_next_event d events) ≡ true
applied_in_range d [] h = h
applied_in_range d (e ∷ es) h = event_in_range d e h

answered_in_range :
    (w : World) (x : Access) → device_in_range w.device ≡ true → device_in_range (answer_to w x).device ≡ true
answered_in_range w x h =
    access_in_range (after_next_event w.device w.events) x (applied_in_range w.device w.events h)

-- ---- the device and the counters
pub record MachineInRange (m : Machine) : Type 0 where
  pub device : device_in_range m.world.device ≡ true
  pub few : length m.counters ≤ 8
  pub counters : AllCount m.counters

-- a word that does not change the counters
counters_kept :
    {m : Machine} (p : ℕ) (w : World) → MachineInRange m → device_in_range w.device ≡ true
    → MachineInRange (machine p m.counters w)
counters_kept p w h d = record { device = d; few = h.few; counters = h.counters }

-- "4 enter (0 jumps to target, else pushes value)"
enter_in_range :
    (r : Record) (m : Machine) → r.value ≤ 65535 → (8 ≤ length m.counters → r.value ≡ 0) → MachineInRange m
    → MachineInRange (enter r m)
enter_in_range r m v room h =
    branch_on MachineInRange (eqb r.value 0) (λ z. counters_kept r.target m.world h h.device) (λ z.
    let n = eqb-false r.value 0 z in
    record {
      device = h.device;
      few = room_left_lem (length m.counters) r.value room n;
      counters = ((omega (arith, n), v), h.counters);
    })

-- "5 loop end (one off the top; to target if not 0, else pop and next)"
loop_end_in_range : (r : Record) (m : Machine) → MachineInRange m → MachineInRange (loop_end r m)
loop_end_in_range r m h = pick m.counters h.few h.counters
  where
    pick : (cs : List ℕ) → length cs ≤ 8 → AllCount cs
        → MachineInRange
        (cond (eqb (innermost cs - 1) 0) (machine (suc m.place) (outer cs) m.world)
        (machine r.target ((innermost cs - 1) ∷ outer cs) m.world))
    pick [] l k = record { device = h.device; few = l; counters = k }
    pick (c ∷ cs) l k =
        branch_on MachineInRange (eqb (c - 1) 0)
        (λ z. record { device = h.device; few = omega (arith, l); counters = k.1 }) (λ z.
        let n = eqb-false (c - 1) 0 z in
        record { device = h.device; few = l; counters = ((omega (arith, n), omega (arith, k.0.1)), k.1) })

execute_in_range : (room : ℕ) → Keeps room MachineInRange
unfolding execute after_write after_read after_test after_delay
execute_in_range room words r m c h =
    let P = MachineInRange in
    let w = m.world in
    let next = suc m.place in
    let write = write_of r.port r.width r.value in
    let read = read_of r.port r.width in
    branch P (eqb r.kind 1) (counters_kept next _ h (answered_in_range w write h.device))
    (branch P (eqb r.kind 2) (counters_kept next _ h (answered_in_range w read h.device))
    (branch P (eqb r.kind 3) (counters_kept next _ h (event_in_range w.device (tick_event r.value) h.device))
    (branch_on P (eqb r.kind 4) (λ k.
    let four = eqb-true r.kind 4 k in
    enter_in_range r m (enter_value r four c.good) (enter_room (length m.counters) r four c.counter) h) (λ k.
    branch P (eqb r.kind 5) (loop_end_in_range r m h)
    (branch P (eqb r.kind 6) (counters_kept _ _ h (answered_in_range w read h.device))
    (counters_kept r.target w h h.device))))))

-- ---- the answer of a run
abbrev start_machine : Device → Sequencer → List ℕ → Machine
start_machine d s events = machine s.place (counters_of s) (start_world d events)

start_in_range :
    (d : Device) (s : Sequencer) (events : List ℕ) → device_in_range d ≡ true → sequencer_in_range s ≡ true
    → MachineInRange (start_machine d s events)
start_in_range d s events h k = record {
  device = h;
  few = rw (used_length s) at (used_few s k);
  counters = counters_in_range s k;
}

abbrev BothInRange : RunResult → Type 0
BothInRange r = (device_in_range r.device ≡ true) × (sequencer_in_range r.sequencer ≡ true)

answer_in_range : (events : List ℕ) (e : RunEnd) → MachineInRange e.machine → BothInRange (run_result events e)
answer_in_range events e h =
    (h.device, array_in_range e.machine.place e.machine.counters h.few h.counters)

-- a run that gets a valid device and a valid sequencer returns valid ones
pub run_in_range :
    (image : List ℕ) (d : Device) (s : Sequencer) (events : List ℕ) (budget : ℕ) (log : List ℕ) → device_in_range d ≡ true
    → sequencer_in_range s ≡ true
    → (device_in_range (run_answer image d s events budget log).device ≡ true)
    × (sequencer_in_range (run_answer image d s events budget log).sequencer ≡ true)
unfolding run_answer image_run
run_in_range image d s events budget log h k =
    branch BothInRange (eqb (run_refusal image d s events).number 0)
    (answer_in_range events (image_run image d s events budget (length log))
    (run_from_keeps image (length log) MachineInRange (execute_in_range (length log)) budget 0 (start_machine d s events)
    (start_in_range d s events h k)))
    (h, k)

-- ---- the number of steps
follow_within :
    (rest : Machine → RunEnd) (left steps : ℕ) (m : Machine) → ((n : Machine) → (rest n).steps ≤ suc steps + left)
    → (s : Step) → (follow rest steps m s).steps ≤ steps + suc left
follow_within rest left steps m h (continues n) = omega (arith, h n)
follow_within rest left steps m h halts = omega arith
follow_within rest left steps m h (faults f) = omega arith

pub steps_within :
    (image : List ℕ) (room left steps : ℕ) (m : Machine) → (run_from image room left steps m).steps ≤ steps + left
steps_within image room zero steps m = omega arith
steps_within image room (suc left) steps m =
    follow_within (run_from image room left (suc steps)) left steps m (λ n. steps_within image room left (suc steps) n)
    (next_step image room m)

-- "Steps in the run's result, [..] bounded by the lent budget."
pub run_steps_within :
    (image : List ℕ) (d : Device) (s : Sequencer) (events : List ℕ) (budget room : ℕ)
    → (image_run image d s events budget room).steps ≤ budget
unfolding image_run
run_steps_within image d s events budget room = omega (arith, steps_within image room budget 0 (start_machine d s events))

-- ---- the number of values logged
abbrev LogsWithin : (room : ℕ) → Machine → Type 0
LogsWithin room m = length m.world.logged ≤ room

execute_logs : (room : ℕ) → Keeps room (LogsWithin room)
unfolding execute after_write after_read after_test after_delay
execute_logs room words r m c h =
    let P = LogsWithin room in
    let logged = m.world.logged in
    let none : length (logged ++ []) ≤ room = omega (arith, length-append logged []) in
    branch P (eqb r.kind 1) none
    (branch_on P (eqb r.kind 2) (λ k.
    let left = read_room room (length logged) r (eqb-true r.kind 2 k) c.log_room in
    let entry = entry_logged r.port r.width m.world in
    omega (arith, left, length-append logged (entry ∷ []))) (λ k.
    branch P (eqb r.kind 3) h
    (branch P (eqb r.kind 4) (branch P (eqb r.value 0) h h)
    (branch P (eqb r.kind 5) (branch P (eqb (innermost m.counters - 1) 0) h h)
    (branch P (eqb r.kind 6) none h)))))

-- a run never logs more values than the log has room for
pub never_logs_beyond :
    (image : List ℕ) (d : Device) (s : Sequencer) (events : List ℕ) (budget room : ℕ)
    → length (image_run image d s events budget room).machine.world.logged ≤ room
unfolding image_run
never_logs_beyond image d s events budget room =
    run_from_keeps image room (LogsWithin room) (execute_logs room) budget 0 (start_machine d s events) (omega arith)

-- ---- a run in two parts
-- the fault of a word is never 19
abbrev Not19 : ℕ → Type 0
Not19 n = n ≡ 19 → ⊥

fault_not_19 : (words room used logged : ℕ) (r : Record) → Not19 (word_fault words room used logged r)
unfolding word_fault
fault_not_19 words room used logged r =
    branch Not19 (bad_word r) (λ e. omega (arith, e))
    (branch Not19 (target_beyond words r) (λ e. omega (arith, e))
    (branch Not19 (ninth_counter used r) (λ e. omega (arith, e))
    (branch Not19 (no_counter used r) (λ e. omega (arith, e))
    (branch Not19 (log_full room logged r) (λ e. omega (arith, e)) (λ e. omega (arith, e))))))

-- nor is that of a step
abbrev NotSpent : Step → Type 0
NotSpent s = (f : ℕ) → s ≡ faults f → Not19 f

pub step_not_19 : (image : List ℕ) (room : ℕ) (m : Machine) → NotSpent (next_step image room m)
unfolding next_step
step_not_19 image room m =
    branch NotSpent (leb (image_words image) m.place) (λ f e z. let y : ◌≡◌ {A = ℕ} 21 19 = cc in omega (arith, y))
    (branch NotSpent (eqb (fault_at image room m) 0)
    (branch NotSpent (eqb (word_at image m.place).kind 8) (λ f e z. let y : ◌≡◌ {A = ℕ} 0 1 = cc in omega (arith, y))
    (λ f e z. let y : ◌≡◌ {A = ℕ} 0 1 = cc in omega (arith, y)))
    (λ f e z.
    let y : fault_at image room m ≡ 19 = cc in
    fault_not_19 (image_words image) room (length m.counters) (length m.world.logged) (word_at image m.place) y))

-- "A run may start from a stopped state."; a run with budget a, resumed with budget b, is one run with budget a + b
pub run_in_two :
    (image : List ℕ) (room a b steps : ℕ) (m : Machine) → (run_from image room a steps m).outcome ≡ 19
    → run_from image room (a + b) steps m ≡ run_from image room b (steps + a) (run_from image room a steps m).machine
run_in_two image room zero b steps m h =
    let e : 0 + b ≡ b = omega arith in
    let f : steps + 0 ≡ steps = omega arith in
    rw (e, f)
run_in_two image room (suc a) b steps m h =
    let e : suc a + b ≡ suc (a + b) = omega arith in
    let f : steps + suc a ≡ suc steps + a = omega arith in
    rw (e, f) (pick (λ n. run_in_two image room a b (suc steps) n) (next_step image room m) refl h)
  where
    near : Machine → RunEnd
    near = run_from image room a (suc steps)

    pick :
        ((n : Machine) → (near n).outcome ≡ 19
        → run_from image room (a + b) (suc steps) n ≡ run_from image room b (suc steps + a) (near n).machine) → (s : Step)
        → next_step image room m ≡ s → (follow near steps m s).outcome ≡ 19
        → follow (run_from image room (a + b) (suc steps)) steps m s ≡ run_from image room b (suc steps + a) (follow near steps m s).machine
    pick i (continues n) p z = i n z
    pick i halts p z = absurd (omega (arith, z))
    pick i (faults f) p z = absurd (step_not_19 image room m f p z)
