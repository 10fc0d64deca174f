-- The walk through a script: its nested records run in order, under a budget and with a log of limited room. It has no words. `script_walk` is
-- the complete definition. Where neither the budget nor the log stops it, it is the script's own run (`semantics`, OwnRun.antt).
-- See docs/CHIP.md, "Interpreting a script".
-- "Walk the nested records directly, block by block, over the same device, events, log and budget"
use Rattle.std.specs.Prelude.{ℕ, zero, suc, cond, List, ltb, length}
use Rattle.device.specs.declared.Device.{Device}
use Rattle.outcome.specs.Ending as ending
use Rattle.script.specs.Nested.{Body, done, write, read, delay, repeat, if, if_else, script_body}
use Rattle.semantics.specs.OwnRun.{Run, count_step, one_step, run}
use Rattle.semantics.specs.World.{after_delay, after_read, after_test, after_write, shares_one, start_world}

-- the end of a walk: the outcome, and the run up to there
pub record WalkEnd : Type 0 where
  pub outcome : ℕ
  pub run : Run

abbrev pub walk_end : ℕ → Run → WalkEnd
walk_end o r = record { outcome = o; run = r }

-- what remains of a walk, from a run on
abbrev pub Rest : Type 0
Rest = Run → WalkEnd

-- "Budget is looked at first": "19 budget spent", before everything that counts a step
abbrev pub in_budget : (budget : ℕ) → Rest → Rest
in_budget budget rest r = cond (ltb r.steps budget) (rest r) (walk_end ending.budget_spent r)

-- "24 log full": a read that finds no room does nothing, takes no event and counts no step
abbrev pub in_log : (room : ℕ) → Rest → Rest
in_log room rest r = cond (ltb (length r.world.logged) room) (rest r) (walk_end ending.log_full r)

-- n turns of a body; a step is counted at the end of each
abbrev pub turns : (budget : ℕ) → ℕ → (Rest → Rest) → Rest → Rest
turns budget zero body rest r = rest r
turns budget (suc n) body rest r = body (in_budget budget (λ s. turns budget n body rest (count_step s))) r

-- the records of a body, and then what remains after it
abbrev pub walk : (budget room : ℕ) → Body → Rest → Rest
walk budget room done after r = after r
walk budget room (write p w v rest) after r = in_budget budget (λ s. walk budget room rest after (one_step (after_write p w v) s)) r
walk budget room (read p w rest) after r =
    in_budget budget (in_log room (λ s. walk budget room rest after (one_step (after_read p w) s))) r
walk budget room (delay n rest) after r = in_budget budget (λ s. walk budget room rest after (one_step (after_delay n) s)) r
walk budget room (repeat n b rest) after r =
    in_budget budget (λ s. turns budget n (walk budget room b) (walk budget room rest after) (count_step s)) r
walk budget room (if p w m b rest) after r =
    in_budget budget
    (λ s.
    cond (shares_one p w m s.world) (walk budget room b (walk budget room rest after) (one_step (after_test p w) s))
    (walk budget room rest after (one_step (after_test p w) s)))
    r
walk budget room (if_else p w m b c rest) after r =
    in_budget budget
    (λ s.
    cond (shares_one p w m s.world)
    (walk budget room b (in_budget budget (λ t. walk budget room rest after (count_step t))) (one_step (after_test p w) s))
    (walk budget room c (walk budget room rest after) (one_step (after_test p w) s)))
    r

-- the end of the script: "0 halted", "then 1 at the end"
abbrev pub halt : (budget : ℕ) → Rest
halt budget = in_budget budget (λ r. walk_end ending.halted (count_step r))

unfoldable pub script_walk : List ℕ → Device → List ℕ → (budget room : ℕ) → WalkEnd
script_walk script d events budget room =
    walk budget room (script_body script) (halt budget) (run (start_world d events) 0)
