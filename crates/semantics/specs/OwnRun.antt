-- What a script means: its records run in order on a device and an event list. `script_run` is the complete definition.
-- See docs/CHIP.md, "What a script means".
-- "The script's own run is fed the records, a device and an event list; it has no words, budget or log size. It holds device, events
-- left, values logged, accesses and steps, the last three none at first."
use Rattle.std.specs.Prelude.{ℕ, zero, suc, cond, List}
use Rattle.device.specs.declared.Device.{Device}
use Rattle.script.specs.Nested.{Body, done, write, read, delay, repeat, if, if_else, script_body}
use Rattle.semantics.specs.World.{World, start_world, after_write, after_read, after_test, shares_one, after_delay}

pub record Run : Type 0 where
  pub world : World
  pub steps : ℕ

abbrev pub run : World → ℕ → Run
run w n = record { world = w; steps = n }

-- one step that changes the world by `f`
abbrev pub one_step : (World → World) → Run → Run
one_step f r = run (f r.world) (suc r.steps)

-- one step that does not change the world: of a repeat, of each turn, of a then-part that has an else, and of the end
abbrev pub count_step : Run → Run
count_step r = run r.world (suc r.steps)

-- n turns; each has the steps of the body "and 1"
abbrev pub repeat_times : ℕ → (Run → Run) → Run → Run
repeat_times zero body r = r
repeat_times (suc n) body r = repeat_times n body (count_step (body r))

-- "In order, each write, read and delay does as above. An if tests; on a shared one it runs the part before its else or end,
-- otherwise the part behind its else, if any. A repeat runs its body value times. Steps here: 1 for write, read, delay; if
-- 1 plus the part taken, plus 1 for a then-part that has an else; repeat 1 plus, per turn, its body and 1"
abbrev pub own_run : Body → Run → Run
own_run done r = r
own_run (write p w v rest) r = own_run rest (one_step (after_write p w v) r)
own_run (read p w rest) r = own_run rest (one_step (after_read p w) r)
own_run (delay n rest) r = own_run rest (one_step (after_delay n) r)
own_run (repeat n b rest) r = own_run rest (repeat_times n (own_run b) (count_step r))
own_run (if p w m b rest) r =
    own_run rest
    (cond (shares_one p w m r.world) (own_run b (one_step (after_test p w) r)) (one_step (after_test p w) r))
own_run (if_else p w m b c rest) r =
    own_run rest
    (cond (shares_one p w m r.world) (count_step (own_run b (one_step (after_test p w) r))) (own_run c (one_step (after_test p w) r)))

-- "then 1 at the end"
unfoldable pub script_run : List ℕ → Device → List ℕ → Run
script_run script d events = count_step (own_run (script_body script) (run (start_world d events) 0))
