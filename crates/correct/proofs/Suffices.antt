-- Where the log and the budget suffice for the script's own run, the walk is that run (`own_walk`). The own run only adds to the log and to
-- the steps, so what suffices at its end suffices at every step.
use Prim.Native.Nat.{ℕ, zero, suc, ◌≤◌, ◌<◌}
use mathlib.Core.Path.{◌≡◌, refl}
use mathlib.Core.Bool.{Bool, true, false, cond}
use mathlib.Core.List.{List, [], ◌∷◌}
use native.Mathlib.Omega.{arith}
use borrow.Author.Tests.{lt-ltb}
use lib.Dec.{ltb}
use lib.ListN.{length, length-append}
use Rattle.device.specs.declared.Device.{Device}
use Rattle.interpreter.specs.Walk.{Rest, WalkEnd, halt, script_walk, turns, walk, walk_end}
use Rattle.script.specs.Nested.{Body, done, write, read, delay, repeat, if, if_else, script_body}
use Rattle.semantics.specs.OwnRun.{Run, count_step, one_step, own_run, repeat_times, run, script_run}
use Rattle.semantics.specs.World.{World, after_delay, after_read, after_test, after_write, entry_logged, shares_one, start_world}

-- the number of values logged
abbrev lines : Run → ℕ
lines r = length r.world.logged

-- ---- one record
write_lines : (p w v : ℕ) (r : Run) → lines r ≤ lines (one_step (after_write p w v) r)
unfolding after_write
write_lines p w v r = omega (arith, length-append r.world.logged [])

read_lines : (p w : ℕ) (r : Run) → lines r < lines (one_step (after_read p w) r)
unfolding after_read
read_lines p w r = omega (arith, length-append r.world.logged (entry_logged p w r.world ∷ []))

delay_lines : (n : ℕ) (r : Run) → lines r ≤ lines (one_step (after_delay n) r)
unfolding after_delay
delay_lines n r = omega arith

test_lines : (p w : ℕ) (r : Run) → lines r ≤ lines (one_step (after_test p w) r)
unfolding after_test
test_lines p w r = omega (arith, length-append r.world.logged [])

-- ---- repeats, ifs and bodies
module _ (budget room : ℕ) where
  -- the own run from r to `own` only adds to the log and to the steps; if both suffice for it, the walk from r, which ends as x, is that run
  record Owns (r own : Run) (x : WalkEnd) : Type 0 where
    logs : lines r ≤ lines own
    counts : r.steps ≤ own.steps
    same : lines own ≤ room → own.steps ≤ budget → x ≡ walk_end 0 own

  -- a step in front of the rest of a walk; the world after it may differ
  steps_first : {own : Run} {x : WalkEnd} (r : Run) (world : World) → lines r ≤ length world.logged
      → Owns (run world (suc r.steps)) own x → Owns r own (cond (ltb r.steps budget) x (walk_end 19 r))
  steps_first r world more h = record {
    logs = omega arith;
    counts = omega arith;
    same = λ g l. rw (lt-ltb r.steps budget (omega arith)) (h.same g l);
  }

  counts_first : {own : Run} {x : WalkEnd} (r : Run) → Owns (count_step r) own x
      → Owns r own (cond (ltb r.steps budget) x (walk_end 19 r))
  counts_first r h = steps_first r r.world (omega arith) h

  -- a read finds room: it logs a value, so the log before it is shorter than at the end
  finds_room : {own : Run} {x : WalkEnd} (p w : ℕ) (r : Run) → Owns (one_step (after_read p w) r) own x
      → Owns (one_step (after_read p w) r) own (cond (ltb (lines r) room) x (walk_end 24 r))
  finds_room p w r h = record {
    logs = h.logs;
    counts = h.counts;
    same = λ g l. rw (lt-ltb (lines r) room (omega (arith, read_lines p w r))) (h.same g l);
  }

  either : {r : Run} {x y : WalkEnd} (t : Bool) (f : Run → Run) (a b : Run) → Owns r (f a) x → Owns r (f b) y
      → Owns r (f (cond t a b)) (cond t x y)
  either true f a b h k = h
  either false f a b h k = k

  -- the rest of a walk is the rest of an own run
  abbrev Ends : (Run → Run) → Rest → Type 0
  Ends own rest = (r : Run) → Owns r (own r) (rest r)

  -- the turns of a repeat, given its body
  turning :
      (b : Body) → ((own : Run → Run) (rest : Rest) → Ends own rest → Ends (λ r. own (own_run b r)) (walk budget room b rest))
      → (own : Run → Run) (rest : Rest) → Ends own rest → (n : ℕ)
      → Ends (λ r. own (repeat_times n (own_run b) r)) (turns budget n (walk budget room b) rest)
  turning b h own rest k zero r = k r
  turning b h own rest k (suc n) r =
      h (λ s. own (repeat_times n (own_run b) (count_step s))) _ (λ s. counts_first s (turning b h own rest k n (count_step s))) r

  -- a body in front of the rest
  owns : (b : Body) (own : Run → Run) (rest : Rest) → Ends own rest → Ends (λ r. own (own_run b r)) (walk budget room b rest)
  owns done own after k r = k r
  owns (write p w v rest) own after k r =
      steps_first r _ (write_lines p w v r) (owns rest own after k (one_step (after_write p w v) r))
  owns (read p w rest) own after k r =
      steps_first r _ (omega (arith, read_lines p w r)) (finds_room p w r (owns rest own after k (one_step (after_read p w) r)))
  owns (delay n rest) own after k r = steps_first r _ (delay_lines n r) (owns rest own after k (one_step (after_delay n) r))
  owns (repeat n b rest) own after k r =
      counts_first r (turning b (owns b) (λ s. own (own_run rest s)) _ (owns rest own after k) n (count_step r))
  owns (if p w m b rest) own after k r =
      let t = one_step (after_test p w) r in
      let f : Run → Run = λ s. own (own_run rest s) in
      let following = owns rest own after k in
      steps_first r _ (test_lines p w r)
      (either (shares_one p w m r.world) f (own_run b t) t (owns b f _ following t) (following t))
  owns (if_else p w m b c rest) own after k r =
      let t = one_step (after_test p w) r in
      let f : Run → Run = λ s. own (own_run rest s) in
      let following = owns rest own after k in
      steps_first r _ (test_lines p w r)
      (either (shares_one p w m r.world) f (count_step (own_run b t)) (own_run c t)
      (owns b (λ s. f (count_step s)) _ (λ s. counts_first s (following (count_step s))) t) (owns c f _ following t))

  pub own_walk :
      (script : List ℕ) (d : Device) (events : List ℕ) → length (script_run script d events).world.logged ≤ room
      → (script_run script d events).steps ≤ budget → script_walk script d events budget room ≡ walk_end 0 (script_run script d events)
  unfolding script_run script_walk
  own_walk script d events =
      (owns (script_body script) count_step (halt budget)
      (λ r. counts_first r (record { logs = omega arith; counts = omega arith; same = λ g l. refl })) (run (start_world d events) 0)).same
