-- A run does not depend on what was logged and accessed before it. So a run that starts with entries and accesses in front makes the same steps as
-- one that starts with none, if its log has as much room left; its entries and accesses follow those in front.
use Prim.Native.Nat.{ℕ, zero, suc, ◌+◌, ◌-◌, ◌≤◌}
use mathlib.Core.Path.{◌≡◌, refl, ap, sym, ◌∙◌}
use mathlib.Core.Bool.{Bool, true, false, cond}
use mathlib.Core.List.{List, [], ◌∷◌, ◌++◌, append_assoc, append-nil}
use native.Mathlib.Decide.{dec_le}
use native.Mathlib.Omega.{arith}
use borrow.Author.Tests.{le-leb, lt-leb}
use lib.Dec.{eqb, leb}
use lib.ListN.{length, length-append}
use Rattle.access.specs.declared.Access.{Access}
use Rattle.record.specs.WordKind as word_kind
use Rattle.record.specs.declared.Record.{Record}
use Rattle.script.specs.Refusals.{innermost}
use Rattle.semantics.specs.World.{
  AccessEntry,
  World,
  after_access,
  after_delay,
  after_read,
  after_test,
  after_write,
  entry_logged,
  read_of,
  shares_one,
  start_world,
  value_read,
  write_of,
}
use Rattle.sequencer.specs.Run.{RunEnd, follow, run_end, run_from}
use Rattle.step.specs.Step.{
  Machine,
  Step,
  continues,
  execute,
  fault_at,
  faults,
  halts,
  log_full,
  machine,
  next_step,
  word_fault,
}
use Rattle.step.specs.Word.{image_words, word_at}

-- ---- a choice between two values that f gives is a value that f gives
choose : {A B : Type 0} (f : A → B) (c : Bool) {x y : B} {x' y' : A} → x ≡ f x' → y ≡ f y' → cond c x y ≡ f (cond c x' y')
choose f true p q = p
choose f false p q = q

-- ---- with entries and accesses in front
abbrev pub world_after : List ℕ → List AccessEntry → World → World
world_after entries accesses w = record {
  device = w.device;
  events = w.events;
  logged = entries ++ w.logged;
  accesses = accesses ++ w.accesses;
}

abbrev pub machine_after : List ℕ → List AccessEntry → Machine → Machine
machine_after entries accesses m = machine m.place m.counters (world_after entries accesses m.world)

-- the end of a run with n steps, entries and accesses in front
abbrev pub end_after : ℕ → List ℕ → List AccessEntry → RunEnd → RunEnd
end_after n entries accesses e = run_end e.outcome (n + e.steps) (machine_after entries accesses e.machine)

abbrev map_step : (Machine → Machine) → Step → Step
map_step f (continues m) = continues (f m)
map_step f halts = halts
map_step f (faults n) = faults n

leb_shifted : (n a b : ℕ) → leb (n + a) (n + b) ≡ leb a b
leb_shifted n a b = pick (dec_le a b)
  where
    pick : Dec (a ≤ b) → leb (n + a) (n + b) ≡ leb a b
    pick (yes h) = le-leb (n + a) (n + b) (omega arith) ∙ sym (le-leb a b h)
    pick (no h) = lt-leb (n + a) (n + b) (omega (arith, h)) ∙ sym (lt-leb a b (omega (arith, h)))

module _ (L : List ℕ) (A : List AccessEntry) where
  -- ---- what a word does
  access_after :
      (w : World) (x : Access) (entries : List ℕ) → after_access (world_after L A w) x entries ≡ world_after L A (after_access w x entries)
  access_after w x entries = rw (append_assoc L w.logged entries, append_assoc A w.accesses)

  write_after : (p wd v : ℕ) (w : World) → after_write p wd v (world_after L A w) ≡ world_after L A (after_write p wd v w)
  unfolding after_write
  write_after p wd v w = access_after w (write_of p wd v) []

  read_after : (p wd : ℕ) (w : World) → after_read p wd (world_after L A w) ≡ world_after L A (after_read p wd w)
  unfolding after_read entry_logged value_read
  read_after p wd w = access_after w (read_of p wd) (entry_logged p wd w ∷ [])

  test_after : (p wd : ℕ) (w : World) → after_test p wd (world_after L A w) ≡ world_after L A (after_test p wd w)
  unfolding after_test
  test_after p wd w = access_after w (read_of p wd) []

  delay_after : (n : ℕ) (w : World) → after_delay n (world_after L A w) ≡ world_after L A (after_delay n w)
  unfolding after_delay
  delay_after n w = refl

  same_test : (p wd m : ℕ) (w : World) → shares_one p wd m (world_after L A w) ≡ shares_one p wd m w
  unfolding shares_one value_read
  same_test p wd m w = refl

  execute_after : (r : Record) (m : Machine) → execute r (machine_after L A m) ≡ machine_after L A (execute r m)
  unfolding execute
  execute_after r m =
      let f = machine_after L A in
      let w = m.world in
      let next = suc m.place in
      choose f (eqb r.kind word_kind.write) (ap (machine next m.counters) (write_after r.port r.width r.value w))
      (choose f (eqb r.kind word_kind.read) (ap (machine next m.counters) (read_after r.port r.width w))
      (choose f (eqb r.kind word_kind.delay) (ap (machine next m.counters) (delay_after r.value w))
      (choose f (eqb r.kind word_kind.enter) (choose f (eqb r.value 0) refl refl)
      (choose f (eqb r.kind word_kind.loop_end) (choose f (eqb (innermost m.counters - 1) 0) refl refl)
      (choose f (eqb r.kind word_kind.test)
      (rw (same_test r.port r.width r.value w, test_after r.port r.width w)) refl)))))

  -- ---- one step
  module _ (image : List ℕ) (room : ℕ) where
    full_after : (logged : List ℕ) (r : Record) → log_full (length L + room) (length (L ++ logged)) r ≡ log_full room (length logged) r
    full_after logged r = rw (length-append L logged, leb_shifted (length L) room (length logged))

    fault_after : (m : Machine) → fault_at image (length L + room) (machine_after L A m) ≡ fault_at image room m
    unfolding word_fault
    fault_after m = rw (full_after m.world.logged (word_at image m.place))

    step_after : (m : Machine) → next_step image (length L + room) (machine_after L A m) ≡ map_step (machine_after L A) (next_step image room m)
    unfolding next_step
    step_after m =
        let f = map_step (machine_after L A) in
        let r = word_at image m.place in
        rw (fault_after m)
        (choose f (leb (image_words image) m.place) refl
        (choose f (eqb (fault_at image room m) 0)
        (choose f (eqb r.kind word_kind.halt) refl (ap continues (execute_after r m))) refl))

    -- ---- a run
    run_after :
        (n left steps : ℕ) (m : Machine)
        → run_from image (length L + room) left (n + steps) (machine_after L A m) ≡ end_after n L A (run_from image room left steps m)
    run_after n zero steps m = refl
    run_after n (suc left) steps m = rw (step_after m) (pick (λ k. run_after n left (suc steps) k) (next_step image room m))
      where
        later : suc (n + steps) ≡ n + suc steps
        later = omega arith

        pick :
            ((k : Machine)
            → run_from image (length L + room) left (n + suc steps) (machine_after L A k) ≡ end_after n L A (run_from image room left (suc steps) k))
            → (s : Step)
            → follow (run_from image (length L + room) left (suc (n + steps))) (n + steps) (machine_after L A m) (map_step (machine_after L A) s)
            ≡ end_after n L A (follow (run_from image room left (suc steps)) steps m s)
        pick i (continues k) = rw later (i k)
        pick i halts = rw later
        pick i (faults f) = refl

-- a run from any machine is the run from its place, counters, device and events, with its entries and accesses in front
pub run_again :
    (image : List ℕ) (room free n left : ℕ) (m : Machine) → length m.world.logged + free ≡ room
    → run_from image room left n m
    ≡ end_after n m.world.logged m.world.accesses
    (run_from image free left 0 (machine m.place m.counters (start_world m.world.device m.world.events)))
run_again image room free n left m e =
    let entries = m.world.logged in
    let accesses = m.world.accesses in
    let again = machine m.place m.counters (start_world m.world.device m.world.events) in
    let none : n + 0 ≡ n = omega arith in
    rw (e, none, append-nil entries, append-nil accesses) at (run_after entries accesses image free n left 0 again)
