-- The open blocks around a place of the walk, and what remains of the walk: the rest of the body at the place, and then the rest of each open
-- block, innermost first. A frame has what is needed after the end of its body.
use Prim.Native.Nat.{ℕ, suc, ◌≤◌}
use mathlib.Core.Path.{◌≡◌}
use mathlib.Core.List.{List, [], ◌∷◌}
use borrow.Author.Tests.{le-ltb}
use lib.ListN.{length}
use Rattle.script.specs.Nested.{Body, done, write, read, delay, repeat, if, if_else, else_record, end_record}
use Rattle.script.specs.Records.{record_count}
use Rattle.semantics.specs.OwnRun.{Run, count_step}
use Rattle.interpreter.specs.Walk.{Rest, halt, in_budget, turns, walk, walk_end}
use Rattle.interpreter.proofs.Ready.{Goes, Is, Ready}
use Rattle.interpreter.proofs.Tabled.{records_end}

pub data Frame : Type 0 where
  -- in a repeat, with this many turns after the present one; its record is at place at
  in_repeat : (more at : ℕ) → (body rest : Body) → Frame
  -- in a then-part that has an else
  in_then : (other rest : Body) → Frame
  -- in an else-part, or in an if that has none
  in_last : (rest : Body) → Frame

-- the loop counters, innermost first
abbrev pub counts : List Frame → List ℕ
counts [] = []
counts (in_repeat more at b rest ∷ fs) = suc more ∷ counts fs
counts (in_then c rest ∷ fs) = counts fs
counts (in_last rest ∷ fs) = counts fs

abbrev pub depth : List Frame → ℕ
depth fs = length (counts fs)

-- what remains after the body at the place
abbrev pub resume : (budget room : ℕ) → List Frame → Rest
resume budget room [] r = halt budget r
resume budget room (in_repeat more at b rest ∷ fs) r =
    in_budget budget (λ s. turns budget more (walk budget room b) (walk budget room rest (resume budget room fs)) (count_step s)) r
resume budget room (in_then c rest ∷ fs) r = in_budget budget (λ s. walk budget room rest (resume budget room fs) (count_step s)) r
resume budget room (in_last rest ∷ fs) r = walk budget room rest (resume budget room fs) r

-- the script and the table around a body that ends at place e
abbrev pub Around : (script table : List ℕ) → ℕ → List Frame → Type 0
Around script table e [] = e ≡ record_count script
Around script table e (in_repeat more at b rest ∷ fs) =
    Is script table e end_record × Goes script table e (suc at) × (records_end (suc at) b ≡ e)
    × Ready script table (suc at) (suc (depth fs)) b × Ready script table (suc e) (depth fs) rest
    × Around script table (records_end (suc e) rest) fs
Around script table e (in_then c rest ∷ fs) =
    let f = records_end (suc e) c in
    Is script table e else_record × Goes script table e (suc f) × Ready script table (suc f) (depth fs) rest
    × Around script table (records_end (suc f) rest) fs
Around script table e (in_last rest ∷ fs) =
    Is script table e end_record × Goes script table e 0 × Ready script table (suc e) (depth fs) rest
    × Around script table (records_end (suc e) rest) fs

-- ---- when the budget is spent, the walk ends wherever it is: only the ends of ifs count no step, and they change nothing
walk_spent : (budget room : ℕ) (b : Body) (after : Rest) (r : Run) → budget ≤ r.steps → after r ≡ walk_end 19 r
    → walk budget room b after r ≡ walk_end 19 r
walk_spent budget room done after r l h = h
walk_spent budget room (write p w v rest) after r l h = rw (le-ltb r.steps budget l)
walk_spent budget room (read p w rest) after r l h = rw (le-ltb r.steps budget l)
walk_spent budget room (delay n rest) after r l h = rw (le-ltb r.steps budget l)
walk_spent budget room (repeat n b rest) after r l h = rw (le-ltb r.steps budget l)
walk_spent budget room (if p w m b rest) after r l h = rw (le-ltb r.steps budget l)
walk_spent budget room (if_else p w m b c rest) after r l h = rw (le-ltb r.steps budget l)

resume_spent : (budget room : ℕ) (fs : List Frame) (r : Run) → budget ≤ r.steps → resume budget room fs r ≡ walk_end 19 r
resume_spent budget room [] r l = rw (le-ltb r.steps budget l)
resume_spent budget room (in_repeat more at b rest ∷ fs) r l = rw (le-ltb r.steps budget l)
resume_spent budget room (in_then c rest ∷ fs) r l = rw (le-ltb r.steps budget l)
resume_spent budget room (in_last rest ∷ fs) r l =
    walk_spent budget room rest (resume budget room fs) r l (resume_spent budget room fs r l)

pub all_spent : (budget room : ℕ) (b : Body) (fs : List Frame) (r : Run) → budget ≤ r.steps
    → walk budget room b (resume budget room fs) r ≡ walk_end 19 r
all_spent budget room b fs r l = walk_spent budget room b (resume budget room fs) r l (resume_spent budget room fs r l)
