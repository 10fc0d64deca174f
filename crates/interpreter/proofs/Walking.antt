-- The loop invariant of `walk_script`: the state of the code represents a run, and what remains of the walk from this run on ends as the whole walk
-- does. It holds at the start, each record keeps it, and it gives the answer at each ending.
use Prim.Native.Nat.{ℕ, zero, suc, ◌+◌, ◌-◌, ◌*◌, ◌≤◌, ◌<◌}
use mathlib.Core.Path.{◌≡◌, refl, ap, sym, subst, ◌∙◌}
use mathlib.Core.Bool.{Bool, true, false, cond, false≢true}
use mathlib.Core.List.{List, [], ◌∷◌}
use native.Mathlib.Numerals.{add-one}
use native.Mathlib.Omega.{arith}
use borrow.Author.Tests.{eq-eqb, le-ltb, leb-false, leb-true, lt-ltb, ne_eqb}
use lib.Dec.{eqb, leb, ltb}
use lib.ListN.{drop, get_or, length, length-drop, length-replicate, length-set, replicate, set}
use Rattle.device.specs.Dispatch.{AccessResult, device_access}
use Rattle.device.specs.Event.{apply_event, tick_event}
use Rattle.device.specs.declared.Device.{Device}
use Rattle.lists.proofs.Stack.{stack_length, stack_push, stack_set_top, stack_store, stack_top}
use Rattle.lists.specs.Stack.{stack_of}
use Rattle.outcome.specs.Refused.{ending_number}
use Rattle.outcome.specs.declared.Ending.{Ending}
use Rattle.outcome.specs.declared.Ending.TheVariants.{BudgetSpent, Halted, LogFull}
use Rattle.record.specs.Record.{record_at}
use Rattle.record.specs.declared.Record.{Record}
use Rattle.script.specs.Nested.{Body, done, write, read, delay, repeat, if, if_else, else_record, end_record, script_body, script_record}
use Rattle.script.specs.Records.{record_count}
use Rattle.script.specs.Refusals.{innermost, outer, script_refusal}
use Rattle.semantics.specs.OwnRun.{Run, count_step, one_step, run}
use Rattle.semantics.specs.World.{after_delay, after_next_event, after_read, after_test, after_write, shares_one, start_world}
use Rattle.step.specs.Effects.{enter_counters, enter_result, loop_end_counters, loop_end_result}
use Rattle.step.specs.Represents.{access_of}
use Rattle.step.specs.declared.execute.Position.{Position}
use Rattle.interpreter.specs.Partners.{script_partners}
use Rattle.interpreter.specs.State.{
  EndsAs,
  Holds,
  Passed,
  counted,
  is_access,
  log_full,
  pass_counters,
  pass_result,
  passed,
  walk_answer,
}
use Rattle.interpreter.specs.Walk.{WalkEnd, in_budget, script_walk, walk, walk_end}
use Rattle.interpreter.specs.declared.InterpretResult as code
use Rattle.interpreter.proofs.Frames.{Around, Frame, all_spent, counts, depth, in_last, in_repeat, in_then, resume}
use Rattle.interpreter.proofs.Ready.{Ready, script_ready}
use Rattle.interpreter.proofs.Tabled.{records_end}
use Rattle.interpreter.proofs.Answers.{AnswerEffect}
use Rattle.interpreter.proofs.Worlds.{Accessing, after_delay_lem, after_read_lem, after_test_lem, after_write_lem, test_is}

pub record Walking (script table : List ℕ) (whole : WalkEnd) (events lent : List ℕ) (budget : ℕ) (log : List ℕ) (d : Device) (x : Position)
    (counters : List ℕ) (steps : ℕ) : Type 0 where
  pub body : Body
  pub frames : List Frame
  pub present : Run
  pub holds : Holds events lent d x.taken x.logged log present.world
  pub counted : steps ≡ present.steps
  pub rest : whole ≡ walk budget (length lent) body (resume budget (length lent) frames) present
  pub here : Ready script table x.place (depth frames) body
  pub around : Around script table (records_end x.place body) frames
  pub stack : stack_of x.used counters ≡ counts frames
  pub few : depth frames ≤ 8
  pub sized : length counters ≡ 8
  pub same : length log ≡ length lent

abbrev pub position : (used taken logged place : ℕ) → Position
position used taken logged place = record { used = used; taken = taken; logged = logged; place = place }

-- it holds at the start
pub starts : (script : List ℕ) (d : Device) (events lent : List ℕ) (budget : ℕ) (table counters : List ℕ)
    → (script_refusal script).number ≡ 0 → table ≡ script_partners script → counters ≡ replicate 8 0
    → Walking script table (script_walk script d events budget (length lent)) events lent budget lent d (position 0 0 0 0) counters 0
unfolding script_walk
starts script d events lent budget table counters h t c =
    let a = script_ready script h in
    rw (t, c)
    (record {
      body = script_body script;
      frames = [];
      present = run (start_world d events) 0;
      holds = record { device = refl; left = refl; inside = omega arith; logged = refl; lines = refl };
      counted = refl;
      rest = refl;
      here = a.body;
      around = a.whole;
      stack = refl;
      few = omega arith;
      sized = length-replicate {A = ℕ} 8 0;
      same = refl;
    })

-- ---- what `pass_control` does, in each case
not_zero : (n : ℕ) → eqb (suc n) 0 ≡ false
not_zero n = ne_eqb (suc n) 0 (λ e. omega arith)

record Passes (x : Position) (k v t : ℕ) (counters : List ℕ) (r : Passed) (cs : List ℕ) : Type 0 where
  result : pass_result x k v t counters ≡ r
  after : pass_counters x k v t counters ≡ cs

module _ (x : Position) (counters : List ℕ) where
  pass_none : (t : ℕ) → Passes x 4 0 t counters (passed x.used t 1) counters
  unfolding pass_result pass_counters
  pass_none t = record { result = refl; after = refl }

  pass_enter : (n t : ℕ) → Passes x 4 (suc n) t counters (passed (x.used + 1) (suc x.place) 1) (set counters x.used (suc n))
  unfolding pass_result pass_counters
  pass_enter n t = record { result = rw (not_zero n, add-one x.place); after = rw (not_zero n) }

  pass_else : (t : ℕ) → Passes x 6 0 t counters (passed x.used t 1) counters
  unfolding pass_result pass_counters
  pass_else t = record { result = refl; after = refl }

  pass_if : Passes x 7 0 0 counters (passed x.used (suc x.place) 0) counters
  unfolding pass_result pass_counters
  pass_if = record { result = rw (add-one x.place); after = refl }

  pass_last : (t : ℕ) → get_or counters (x.used - 1) 0 ≡ 1
      → Passes x 7 0 (suc t) counters (passed (x.used - 1) (suc x.place) 1) (set counters (x.used - 1) 0)
  unfolding pass_result pass_counters
  pass_last t c = record { result = rw (not_zero t, c, add-one x.place); after = rw (not_zero t, c) }

  pass_again : (t n : ℕ) → get_or counters (x.used - 1) 0 ≡ suc (suc n)
      → Passes x 7 0 (suc t) counters (passed x.used (suc t) 1) (set counters (x.used - 1) (suc n))
  unfolding pass_result pass_counters
  pass_again t n c =
      let o : suc (suc n) - 1 ≡ suc n = omega arith in
      record { result = rw (not_zero t, c, o, not_zero n); after = rw (not_zero t, c, o) }

-- a read that does not find the log full has room
pub read_room : (room logged kind : ℕ) → kind ≡ 2 → log_full room logged kind ≡ false → logged < room
read_room room logged kind k f = leb-false room logged (rw k at f)

-- ---- the endings
-- the answer of the code is that of the run that its state represents
ends : {events lent log : List ℕ} {d : Device} {n k : ℕ} (ending : Ending) (r : Run) (whole : WalkEnd) (answer : code.InterpretResult)
    → Holds events lent d n k log r.world → whole ≡ walk_end (ending_number ending) r → answer ≡ walk_answer ending r.steps d n k
    → EndsAs events lent log answer whole
ends {events} {lent} {log} {d} {n} {k} ending r whole answer h w e =
    let t : length events - length r.world.events ≡ n =
    rw (sym h.left) (let l = length-drop n events in omega (arith, l, h.inside)) in
    rw w (record { answered = rw e (rw (t, sym h.device, sym h.logged)); lines = h.lines })

module _ {script table : List ℕ} {whole : WalkEnd} {events lent : List ℕ} {budget : ℕ} {log : List ℕ} {d : Device} {x : Position}
    {counters : List ℕ} {steps : ℕ} (g : Walking script table whole events lent budget log d x counters steps) where
  -- "Budget is looked at first"
  pub spent : (answer : code.InterpretResult) → budget ≤ steps → answer ≡ walk_answer BudgetSpent steps d x.taken x.logged
      → EndsAs events lent log answer whole
  spent answer l e =
      let r = g.present in
      ends BudgetSpent r whole answer g.holds
      (g.rest ∙ all_spent budget (length lent) g.body g.frames r (omega (arith, l, g.counted)))
      (e ∙ ap (λ (n : ℕ). walk_answer BudgetSpent n d x.taken x.logged) g.counted)

  used_is : x.used ≡ depth g.frames
  used_is = sym (stack_length x.used counters) ∙ ap length g.stack

  -- there is budget for a step
  in_budget_lem : steps < budget → ltb g.present.steps budget ≡ true
  in_budget_lem l = lt-ltb g.present.steps budget (omega (arith, l, g.counted))

  -- after the last record the walk halts and counts a step
  pub halted : (answer : code.InterpretResult) → steps < budget → record_count script ≤ x.place
      → answer ≡ walk_answer Halted (steps + 1) d x.taken x.logged → EndsAs events lent log answer whole
  halted answer l m e =
      ends Halted (count_step g.present) whole answer g.holds
      (g.rest ∙ pick g.body g.frames g.here g.around)
      (e ∙ ap (λ (n : ℕ). walk_answer Halted n d x.taken x.logged) (add-one steps ∙ ap suc g.counted))
    where
      pick : (b : Body) (fs : List Frame) → Ready script table x.place (depth fs) b → Around script table (records_end x.place b) fs
          → walk budget (length lent) b (resume budget (length lent) fs) g.present ≡ walk_end 0 (count_step g.present)
      pick done [] h a = rw (in_budget_lem l)
      pick done (in_repeat more at b rest ∷ fs) h a = absurd (omega (arith, m, a.0.0))
      pick done (in_then c rest ∷ fs) h a = absurd (omega (arith, m, a.0.0))
      pick done (in_last rest ∷ fs) h a = absurd (omega (arith, m, a.0.0))
      pick (write p w v rest) fs h a = absurd (omega (arith, m, h.0.0))
      pick (read p w rest) fs h a = absurd (omega (arith, m, h.0.0))
      pick (delay n rest) fs h a = absurd (omega (arith, m, h.0.0))
      pick (repeat n b rest) fs h a = absurd (omega (arith, m, h.0.0))
      pick (if p w v b rest) fs h a = absurd (omega (arith, m, h.0.0))
      pick (if_else p w v b c rest) fs h a = absurd (omega (arith, m, h.0.0))

  -- ---- the record at the place, and its entry in the table
  module _ (q : Record) (p : ℕ) (m : x.place < record_count script) (few_records_lem : record_count script ≤ 1024)
      (fq : q ≡ record_at script (12 * x.place)) (fp : p ≡ get_or table x.place 0) where
    -- the record at the place is not of another kind
    unlike : (is : ℕ → Bool) (r : Record) → record_at script (12 * x.place) ≡ r → is r.kind ≡ false → is q.kind ≡ true → ⊥
    unlike is r e f t = false≢true (sym f ∙ ap (λ (y : Record). is y.kind) (sym (fq ∙ e)) ∙ t)

    kind_is : (r : Record) → record_at script (12 * x.place) ≡ r → q.kind ≡ r.kind
    kind_is r e = ap (λ (y : Record). y.kind) (fq ∙ e)

    -- nor does it access the device if the test says that it does not
    other : is_access q.kind ≡ false → (r : Record) → record_at script (12 * x.place) ≡ r → is_access r.kind ≡ true → ⊥
    other n r e t = false≢true (sym n ∙ ap (λ (y : Record). is_access y.kind) (fq ∙ e) ∙ t)

    -- a read finds the log full
    pub full : (answer : code.InterpretResult) → steps < budget → log_full (length log) x.logged q.kind ≡ true
        → answer ≡ walk_answer LogFull steps d x.taken x.logged → EndsAs events lent log answer whole
    full answer l t e =
        ends LogFull g.present whole answer g.holds (g.rest ∙ pick g.body g.frames g.here g.around)
        (e ∙ ap (λ (n : ℕ). walk_answer LogFull n d x.taken x.logged) g.counted)
      where
        is : ℕ → Bool
        is k = log_full (length log) x.logged k

        pick : (b : Body) (fs : List Frame) → Ready script table x.place (depth fs) b
            → Around script table (records_end x.place b) fs
            → walk budget (length lent) b (resume budget (length lent) fs) g.present ≡ walk_end 24 g.present
        pick (read port width rest) fs h a =
            let u : leb (length log) x.logged ≡ true = ap (λ (y : Record). is y.kind) (sym (fq ∙ h.0.1)) ∙ t in
            let v = leb-true (length log) x.logged u in
            rw (in_budget_lem l, le-ltb (length g.present.world.logged) (length lent) (omega (arith, v, g.same, g.holds.logged)))
        pick done [] h a = absurd (omega (arith, m, a))
        pick done (in_repeat more at b rest ∷ fs) h a = absurd (unlike is end_record a.0.1 refl t)
        pick done (in_then c rest ∷ fs) h a = absurd (unlike is else_record a.0.1 refl t)
        pick done (in_last rest ∷ fs) h a = absurd (unlike is end_record a.0.1 refl t)
        pick (write port width v rest) fs h a = absurd (unlike is _ h.0.1 refl t)
        pick (delay n rest) fs h a = absurd (unlike is _ h.0.1 refl t)
        pick (repeat n b rest) fs h a = absurd (unlike is _ h.0.1 refl t)
        pick (if port width v b rest) fs h a = absurd (unlike is _ h.0.1 refl t)
        pick (if_else port width v b c rest) fs h a = absurd (unlike is _ h.0.1 refl t)

    -- ---- a repeat, an else or an end
    -- the new place with its body and frames keeps the invariant
    moved : (b : Body) (fs : List Frame) (r : Run) (used place : ℕ) (cs : List ℕ) (n : ℕ)
        → Holds events lent d x.taken x.logged log r.world → n ≡ r.steps
        → whole ≡ walk budget (length lent) b (resume budget (length lent) fs) r → Ready script table place (depth fs) b
        → Around script table (records_end place b) fs → stack_of used cs ≡ counts fs → depth fs ≤ 8 → length cs ≡ 8
        → Walking script table whole events lent budget log d (position used x.taken x.logged place) cs n
    moved b fs r used place cs n h c w y a k f s = record {
      body = b;
      frames = fs;
      present = r;
      holds = h;
      counted = c;
      rest = w;
      here = y;
      around = a;
      stack = k;
      few = f;
      sized = s;
      same = g.same;
    }

    -- the invariant after such a record of this kind and value, with this entry
    abbrev After : Passed → List ℕ → Type 0
    After r cs =
        Walking script table whole events lent budget log d (position r.used x.taken x.logged r.place) cs (steps + r.steps)

    abbrev Next : (k v t : ℕ) → Type 0
    Next k v t = After (pass_result x k v t counters) (pass_counters x k v t counters)

    found : (s : Record) (t : ℕ) {r : Passed} {cs : List ℕ} → record_at script (12 * x.place) ≡ s → get_or table x.place 0 ≡ t
        → Passes x s.kind s.value t counters r cs → After r cs → Next q.kind q.value p
    found s t {r} {cs} a b e h =
        subst (λ (y : Record). Next y.kind y.value p) (sym (fq ∙ a))
        (subst (Next s.kind s.value) (sym (fp ∙ b))
        (subst (λ (ds : List ℕ). After (pass_result x s.kind s.value t counters) ds) (sym e.after)
        (subst (λ (o : Passed). After o cs) (sym e.result) h)))

    one_more_step : steps + 1 ≡ suc g.present.steps
    one_more_step = add-one steps ∙ ap suc g.counted

    -- what remains of the walk from this body and these frames on
    abbrev Remains : Body → List Frame → Run → Type 0
    Remains b fs r = whole ≡ walk budget (length lent) b (resume budget (length lent) fs) r

    -- the end of a repeat, after its last turn and after an earlier one
    turn_last : (at : ℕ) (b rest : Body) (fs : List Frame) → Remains rest fs (count_step g.present)
        → Around script table x.place (in_repeat zero at b rest ∷ fs) → stack_of x.used counters ≡ 1 ∷ counts fs → suc (depth fs) ≤ 8
        → Next q.kind q.value p
    turn_last at b rest fs w a k f =
        let used : x.used ≡ suc (depth fs) = sym (stack_length x.used counters) ∙ ap length k in
        let top = sym (stack_top x.used counters (omega (arith, used))) ∙ k in
        found end_record (suc at) a.0.1 a.1 (pass_last x counters at (ap innermost top))
        (moved rest fs (count_step g.present) (x.used - 1) (suc x.place) (set counters (x.used - 1) 0) (steps + 1) g.holds one_more_step
        w a.4 a.5 (stack_store (x.used - 1) counters (x.used - 1) 0 (omega arith) ∙ ap outer top) (omega (arith, f))
        (length-set counters (x.used - 1) 0 ∙ g.sized))

    turn_again : (more at : ℕ) (b rest : Body) (fs : List Frame) → Remains b (in_repeat more at b rest ∷ fs) (count_step g.present)
        → Around script table x.place (in_repeat (suc more) at b rest ∷ fs) → stack_of x.used counters ≡ suc (suc more) ∷ counts fs
        → suc (depth fs) ≤ 8 → Next q.kind q.value p
    turn_again more at b rest fs w a k f =
        let used : x.used ≡ suc (depth fs) = sym (stack_length x.used counters) ∙ ap length k in
        let top = sym (stack_top x.used counters (omega (arith, used))) ∙ k in
        let lowered = stack_set_top x.used counters (suc more) (omega (arith, used)) (omega (arith, used, f, g.sized)) in
        found end_record (suc at) a.0.1 a.1 (pass_again x counters at more (ap innermost top))
        (moved b (in_repeat more at b rest ∷ fs) (count_step g.present) x.used (suc at) (set counters (x.used - 1) (suc more))
        (steps + 1) g.holds one_more_step w a.3
        (subst (λ (e : ℕ). Around script table e (in_repeat more at b rest ∷ fs)) (sym a.2) a)
        (lowered ∙ ap (λ (cs : List ℕ). suc more ∷ outer cs) top) f (length-set counters (x.used - 1) (suc more) ∙ g.sized))

    enter_some : (n : ℕ) (b rest : Body) (fs : List Frame) → Remains b (in_repeat n x.place b rest ∷ fs) (count_step g.present)
        → Ready script table x.place (depth fs) (repeat (suc n) b rest)
        → Around script table (records_end (suc (records_end (suc x.place) b)) rest) fs → stack_of x.used counters ≡ counts fs
        → Next q.kind q.value p
    enter_some n b rest fs w h a k =
        let used : x.used ≡ depth fs = sym (stack_length x.used counters) ∙ ap length k in
        let pushed = stack_push x.used counters (suc n) (omega (arith, used, g.sized, h.1)) in
        found _ _ h.0.1 h.2 (pass_enter x counters n _)
        (moved b (in_repeat n x.place b rest ∷ fs) (count_step g.present) (x.used + 1) (suc x.place)
        (set counters x.used (suc n)) (steps + 1) g.holds one_more_step w h.3 (h.4, h.5, refl, h.3, h.6, a)
        (pushed ∙ ap (◌∷◌ (suc n)) k) h.1 (length-set counters x.used (suc n) ∙ g.sized))

    pub passes : steps < budget → is_access q.kind ≡ false → (q.kind ≡ 3 → ⊥) → Next q.kind q.value p
    passes l na nd = pick g.body g.frames g.rest g.here g.around g.stack g.few
      where
        pick : (b : Body) (fs : List Frame) → Remains b fs g.present → Ready script table x.place (depth fs) b
            → Around script table (records_end x.place b) fs → stack_of x.used counters ≡ counts fs → depth fs ≤ 8
            → Next q.kind q.value p
        pick done [] w h a k f = absurd (omega (arith, m, a))
        pick done (in_repeat zero at b rest ∷ fs) w h a k f = turn_last at b rest fs (rw (in_budget_lem l) at w) a k f
        pick done (in_repeat (suc more) at b rest ∷ fs) w h a k f = turn_again more at b rest fs (rw (in_budget_lem l) at w) a k f
        pick done (in_then c rest ∷ fs) w h a k f =
            found else_record _ a.0.1 a.1 (pass_else x counters _)
            (moved rest fs (count_step g.present) x.used _ counters (steps + 1) g.holds one_more_step (rw (in_budget_lem l) at w)
            a.2 a.3 k f g.sized)
        pick done (in_last rest ∷ fs) w h a k f =
            let z : steps + 0 ≡ g.present.steps = omega (arith, g.counted) in
            found end_record 0 a.0.1 a.1 (pass_if x counters)
            (moved rest fs g.present x.used (suc x.place) counters (steps + 0) g.holds z w a.2 a.3 k f g.sized)
        pick (repeat zero b rest) fs w h a k f =
            found _ _ h.0.1 h.2 (pass_none x counters _)
            (moved rest fs (count_step g.present) x.used _ counters (steps + 1) g.holds one_more_step (rw (in_budget_lem l) at w)
            h.6 a k f g.sized)
        pick (repeat (suc n) b rest) fs w h a k f = enter_some n b rest fs (rw (in_budget_lem l) at w) h a k
        pick (write port width v rest) fs w h a k f = absurd (other na _ h.0.1 refl)
        pick (read port width rest) fs w h a k f = absurd (other na _ h.0.1 refl)
        pick (delay n rest) fs w h a k f = absurd (nd (kind_is _ h.0.1))
        pick (if port width v b rest) fs w h a k f = absurd (other na _ h.0.1 refl)
        pick (if_else port width v b c rest) fs w h a k f = absurd (other na _ h.0.1 refl)

    -- the same for each of them
    pub repeated : steps < budget → q.kind ≡ 4 → After (counted (enter_result x q.value p)) (enter_counters x q.value counters)
    unfolding pass_result pass_counters
    repeated l k = rw k at (passes l (rw k) (λ z. omega (arith, k, z)))

    pub else_passed : steps < budget → q.kind ≡ 6 → After (passed x.used p 1) counters
    unfolding pass_result pass_counters
    else_passed l k = rw k at (passes l (rw k) (λ z. omega (arith, k, z)))

    pub if_ended : steps < budget → q.kind ≡ 7 → p ≡ 0 → After (passed x.used (x.place + 1) 0) counters
    unfolding pass_result pass_counters
    if_ended l k z = rw (k, z) at (passes l (rw k) (λ y. omega (arith, k, y)))

    pub turn_ended :
        steps < budget → q.kind ≡ 7 → (p ≡ 0 → ⊥) → After (counted (loop_end_result x p counters)) (loop_end_counters x counters)
    unfolding pass_result pass_counters
    turn_ended l k n = rw (k, ne_eqb p 0 n) at (passes l (rw k) (λ y. omega (arith, k, y)))

    -- a repeat finds a free counter, and the end of a repeat finds one in use
    pub few_used : x.used ≤ 8
    few_used = omega (arith, used_is, g.few)

    pub free_counter : q.kind ≡ 4 → x.used < 8
    free_counter k = enters k g.body g.frames used_is g.here g.around
      where
        is4 : ℕ → Bool
        is4 k = eqb k 4

        enters : q.kind ≡ 4 → (b : Body) (fs : List Frame) → x.used ≡ depth fs → Ready script table x.place (depth fs) b
            → Around script table (records_end x.place b) fs → x.used < 8
        enters k (repeat n b rest) fs u h a = omega (arith, u, h.1)
        enters k done [] u h a = absurd (omega (arith, m, a))
        enters k done (in_repeat more at b rest ∷ fs) u h a = absurd (unlike is4 end_record a.0.1 refl (eq-eqb _ _ k))
        enters k done (in_then c rest ∷ fs) u h a = absurd (unlike is4 else_record a.0.1 refl (eq-eqb _ _ k))
        enters k done (in_last rest ∷ fs) u h a = absurd (unlike is4 end_record a.0.1 refl (eq-eqb _ _ k))
        enters k (write port width v rest) fs u h a = absurd (unlike is4 _ h.0.1 refl (eq-eqb _ _ k))
        enters k (read port width rest) fs u h a = absurd (unlike is4 _ h.0.1 refl (eq-eqb _ _ k))
        enters k (delay n rest) fs u h a = absurd (unlike is4 _ h.0.1 refl (eq-eqb _ _ k))
        enters k (if port width v b rest) fs u h a = absurd (unlike is4 _ h.0.1 refl (eq-eqb _ _ k))
        enters k (if_else port width v b c rest) fs u h a = absurd (unlike is4 _ h.0.1 refl (eq-eqb _ _ k))

    pub counter_used : q.kind ≡ 7 → (p ≡ 0 → ⊥) → 0 < x.used
    counter_used k n = turning g.body g.frames used_is g.here g.around
      where
        is7 : ℕ → Bool
        is7 k = eqb k 7

        turning : (b : Body) (fs : List Frame) → x.used ≡ depth fs → Ready script table x.place (depth fs) b
            → Around script table (records_end x.place b) fs → 0 < x.used
        turning done (in_repeat more at b rest ∷ fs) u h a = omega (arith, u)
        turning done (in_then c rest ∷ fs) u h a = absurd (unlike is7 else_record a.0.1 refl (eq-eqb _ _ k))
        turning done (in_last rest ∷ fs) u h a = absurd (n (fp ∙ a.1))
        turning done [] u h a = absurd (omega (arith, m, a))
        turning (repeat c b rest) fs u h a = absurd (unlike is7 _ h.0.1 refl (eq-eqb _ _ k))
        turning (write port width v rest) fs u h a = absurd (unlike is7 _ h.0.1 refl (eq-eqb _ _ k))
        turning (read port width rest) fs u h a = absurd (unlike is7 _ h.0.1 refl (eq-eqb _ _ k))
        turning (delay c rest) fs u h a = absurd (unlike is7 _ h.0.1 refl (eq-eqb _ _ k))
        turning (if port width v b rest) fs u h a = absurd (unlike is7 _ h.0.1 refl (eq-eqb _ _ k))
        turning (if_else port width v b c rest) fs u h a = absurd (unlike is7 _ h.0.1 refl (eq-eqb _ _ k))

    -- the kind is one of the seven
    pub known : (1 ≤ q.kind) × (q.kind ≤ 7)
    known = pick g.body g.frames g.here g.around
      where
        is : (r : Record) → record_at script (12 * x.place) ≡ r → (1 ≤ r.kind) × (r.kind ≤ 7) → (1 ≤ q.kind) × (q.kind ≤ 7)
        is r e h = rw (kind_is r e) h

        pick : (b : Body) (fs : List Frame) → Ready script table x.place (depth fs) b
            → Around script table (records_end x.place b) fs → (1 ≤ q.kind) × (q.kind ≤ 7)
        pick done [] h a = absurd (omega (arith, m, a))
        pick done (in_repeat more at b rest ∷ fs) h a = is end_record a.0.1 (omega arith, omega arith)
        pick done (in_then c rest ∷ fs) h a = is else_record a.0.1 (omega arith, omega arith)
        pick done (in_last rest ∷ fs) h a = is end_record a.0.1 (omega arith, omega arith)
        pick (write port width v rest) fs h a = is _ h.0.1 (omega arith, omega arith)
        pick (read port width rest) fs h a = is _ h.0.1 (omega arith, omega arith)
        pick (delay n rest) fs h a = is _ h.0.1 (omega arith, omega arith)
        pick (repeat n b rest) fs h a = is _ h.0.1 (omega arith, omega arith)
        pick (if port width v b rest) fs h a = is _ h.0.1 (omega arith, omega arith)
        pick (if_else port width v b c rest) fs h a = is _ h.0.1 (omega arith, omega arith)

    -- ---- a delay
    abbrev is3 : ℕ → Bool
    is3 k = eqb k 3

    pub delay_ready : q.kind ≡ 3 → q.value ≤ 65535
    delay_ready k = pick g.body g.frames g.here g.around
      where
        t : is3 q.kind ≡ true
        t = eq-eqb _ _ k

        pick : (b : Body) (fs : List Frame) → Ready script table x.place (depth fs) b
            → Around script table (records_end x.place b) fs → q.value ≤ 65535
        pick (delay n rest) fs h a =
            let e : q.value ≡ n = ap (λ (y : Record). y.value) (fq ∙ h.0.1) in
            omega (arith, e, h.1)
        pick done [] h a = absurd (omega (arith, m, a))
        pick done (in_repeat more at b rest ∷ fs) h a = absurd (unlike is3 end_record a.0.1 refl t)
        pick done (in_then c rest ∷ fs) h a = absurd (unlike is3 else_record a.0.1 refl t)
        pick done (in_last rest ∷ fs) h a = absurd (unlike is3 end_record a.0.1 refl t)
        pick (write port width v rest) fs h a = absurd (unlike is3 _ h.0.1 refl t)
        pick (read port width rest) fs h a = absurd (unlike is3 _ h.0.1 refl t)
        pick (repeat n b rest) fs h a = absurd (unlike is3 _ h.0.1 refl t)
        pick (if port width v b rest) fs h a = absurd (unlike is3 _ h.0.1 refl t)
        pick (if_else port width v b c rest) fs h a = absurd (unlike is3 _ h.0.1 refl t)

    -- a record that counts a step, does not open a repeat, and changes the world as r has it
    stepped : (b : Body) (fs : List Frame) (r : Run) (y : Position) (log' : List ℕ) (d' : Device) (place : ℕ) → y.used ≡ x.used
        → y.place ≡ place → Holds events lent d' y.taken y.logged log' r.world → r.steps ≡ suc g.present.steps
        → whole ≡ walk budget (length lent) b (resume budget (length lent) fs) r → Ready script table place (depth fs) b
        → Around script table (records_end place b) fs → counts fs ≡ counts g.frames → length log' ≡ length log
        → Walking script table whole events lent budget log' d' y counters (steps + 1)
    stepped b fs r y log' d' place u z h c w e a k s = record {
      body = b;
      frames = fs;
      present = r;
      holds = h;
      counted = one_more_step ∙ sym c;
      rest = w;
      here = rw z e;
      around = rw z a;
      stack = rw u g.stack ∙ sym k;
      few = rw k g.few;
      sized = g.sized;
      same = s ∙ g.same;
    }

    pub delayed : steps < budget → q.kind ≡ 3 → (d' : Device) → d' ≡ apply_event d (tick_event q.value)
        → Walking script table whole events lent budget log d' (position x.used x.taken x.logged (x.place + 1)) counters (steps + 1)
    delayed l k d' e = pick g.body g.frames g.rest g.here g.around refl
      where
        t : is3 q.kind ≡ true
        t = eq-eqb _ _ k

        pick : (b : Body) (fs : List Frame) → Remains b fs g.present → Ready script table x.place (depth fs) b
            → Around script table (records_end x.place b) fs → counts fs ≡ counts g.frames
            → Walking script table whole events lent budget log d' (position x.used x.taken x.logged (x.place + 1)) counters
            (steps + 1)
        pick (delay n rest) fs w h a c =
            let v : q.value ≡ n = ap (λ (y : Record). y.value) (fq ∙ h.0.1) in
            stepped rest fs (one_step (after_delay n) g.present) _ log d' (suc x.place) refl (add-one x.place)
            (after_delay_lem g.holds n d' (e ∙ ap (λ (i : ℕ). apply_event d (tick_event i)) v)) refl (rw (in_budget_lem l) at w) h.2 a c refl
        pick done [] w h a c = absurd (omega (arith, m, a))
        pick done (in_repeat more at b rest ∷ fs) w h a c = absurd (unlike is3 end_record a.0.1 refl t)
        pick done (in_then o rest ∷ fs) w h a c = absurd (unlike is3 else_record a.0.1 refl t)
        pick done (in_last rest ∷ fs) w h a c = absurd (unlike is3 end_record a.0.1 refl t)
        pick (write port width v rest) fs w h a c = absurd (unlike is3 _ h.0.1 refl t)
        pick (read port width rest) fs w h a c = absurd (unlike is3 _ h.0.1 refl t)
        pick (repeat n b rest) fs w h a c = absurd (unlike is3 _ h.0.1 refl t)
        pick (if port width v b rest) fs w h a c = absurd (unlike is3 _ h.0.1 refl t)
        pick (if_else port width v b o rest) fs w h a c = absurd (unlike is3 _ h.0.1 refl t)

    -- ---- a write, a read or an if: the access of the code after the next event, and the position after its answer
    module _ (l : steps < budget) (r : AccessResult) (arrived : Device) (y : Position) (log' : List ℕ)
        (applied : arrived ≡ after_next_event d (drop x.taken events)) (answered : r ≡ device_access arrived (access_of q))
        (ans : AnswerEffect q p r.owner r.answer.value events x log y log') (kept : length log' ≡ length log) where
      abbrev Goal : Type 0
      Goal = Walking script table whole events lent budget log' r.device y counters (steps + 1)

      -- the same for the record that is at the place
      answer_of : (s : Record) → record_at script (12 * x.place) ≡ s
          → AnswerEffect s p r.owner r.answer.value events x log y log'
      answer_of s e = subst (λ (z : Record). AnswerEffect z p r.owner r.answer.value events x log y log') (fq ∙ e) ans

      accessing : (s : Record) → record_at script (12 * x.place) ≡ s → Accessing events d x.taken (access_of s) r y.taken
      accessing s e = record {
        arrived = arrived;
        applied = applied;
        answered = answered ∙ ap (λ (z : Record). device_access arrived (access_of z)) (fq ∙ e);
        inside = ans.inside;
        left = ans.left;
      }

      wrote : (port width v : ℕ) (rest : Body) (fs : List Frame) → Remains rest fs (one_step (after_write port width v) g.present)
          → Ready script table x.place (depth fs) (write port width v rest) → Around script table (records_end (suc x.place) rest) fs
          → counts fs ≡ counts g.frames → Goal
      wrote port width v rest fs w h a c =
          let s = script_record 1 width port v in
          let n = answer_of s h.0.1 in
          stepped rest fs (one_step (after_write port width v) g.present) y log' r.device (suc x.place) n.used
          (n.place ∙ add-one x.place)
          (rw (n.logged, n.lines) (after_write_lem g.holds port width v (accessing s h.0.1))) refl w h.1 a c kept

      logged_read : (port width : ℕ) (rest : Body) (fs : List Frame) → x.logged < length log
          → Remains rest fs (one_step (after_read port width) g.present)
          → Ready script table x.place (depth fs) (read port width rest) → Around script table (records_end (suc x.place) rest) fs
          → counts fs ≡ counts g.frames → Goal
      logged_read port width rest fs room w h a c =
          let s = script_record 2 width port 0 in
          let n = answer_of s h.0.1 in
          stepped rest fs (one_step (after_read port width) g.present) y log' r.device (suc x.place) n.used
          (n.place ∙ add-one x.place)
          (rw (n.logged, n.lines) (after_read_lem g.holds port width (accessing s h.0.1) room)) refl w h.1 a c kept

      -- an if that goes on with the body b in the frames fs, at a place
      tested : (port width mask : ℕ) (b : Body) (fs : List Frame) (place : ℕ) → record_at script (12 * x.place) ≡ script_record 5 width port mask
          → cond (shares_one port width mask g.present.world) (x.place + 1) p ≡ place
          → Remains b fs (one_step (after_test port width) g.present) → Ready script table place (depth fs) b
          → Around script table (records_end place b) fs → counts fs ≡ counts g.frames → Goal
      tested port width mask b fs place e z w h a c =
          let s = script_record 5 width port mask in
          let n = answer_of s e in
          let i = accessing s e in
          stepped b fs (one_step (after_test port width) g.present) y log' r.device place n.used
          (n.place ∙ ap (λ (t : Bool). cond t (x.place + 1) p) (test_is g.holds port width mask i) ∙ z)
          (rw (n.logged, n.lines) (after_test_lem g.holds port width i)) refl w h a c kept

      -- the value of a test decides which part is next
      if_tested : (port width mask : ℕ) (b rest : Body) (fs : List Frame)
          → let t = one_step (after_test port width) g.present in
          let after = walk budget (length lent) rest (resume budget (length lent) fs) in
          whole ≡ cond (shares_one port width mask g.present.world) (walk budget (length lent) b after t) (after t)
          → Ready script table x.place (depth fs) (if port width mask b rest)
          → Around script table (records_end (suc (records_end (suc x.place) b)) rest) fs → counts fs ≡ counts g.frames → Goal
      if_tested port width mask b rest fs w h a c = pick (shares_one port width mask g.present.world) refl
        where
          pick : (t : Bool) → shares_one port width mask g.present.world ≡ t → Goal
          pick true e =
              tested port width mask b (in_last rest ∷ fs) (suc x.place) h.0.1 (rw e (add-one x.place)) (rw e at w) h.2
              (h.3, h.4, h.5, a) c
          pick false e = tested port width mask rest fs _ h.0.1 (rw e (fp ∙ h.1)) (rw e at w) h.5 a c

      if_else_tested : (port width mask : ℕ) (b o rest : Body) (fs : List Frame)
          → let t = one_step (after_test port width) g.present in
          let after = walk budget (length lent) rest (resume budget (length lent) fs) in
          whole
          ≡ cond (shares_one port width mask g.present.world)
          (walk budget (length lent) b (in_budget budget (λ s. after (count_step s))) t) (walk budget (length lent) o after t)
          → Ready script table x.place (depth fs) (if_else port width mask b o rest)
          → Around script table (records_end (suc (records_end (suc (records_end (suc x.place) b)) o)) rest) fs
          → counts fs ≡ counts g.frames → Goal
      if_else_tested port width mask b o rest fs w h a c = pick (shares_one port width mask g.present.world) refl
        where
          pick : (t : Bool) → shares_one port width mask g.present.world ≡ t → Goal
          pick true e =
              tested port width mask b (in_then o rest ∷ fs) (suc x.place) h.0.1 (rw e (add-one x.place)) (rw e at w) h.2
              (h.3, h.4, h.8, a) c
          pick false e =
              tested port width mask o (in_last rest ∷ fs) _ h.0.1 (rw e (fp ∙ h.1)) (rw e at w) h.5 (h.6, h.7, h.8, a) c

      pub accessed : is_access q.kind ≡ true → log_full (length log) x.logged q.kind ≡ false → Goal
      accessed t nf = pick g.body g.frames g.rest g.here g.around refl
        where
          pick : (b : Body) (fs : List Frame) → Remains b fs g.present → Ready script table x.place (depth fs) b
              → Around script table (records_end x.place b) fs → counts fs ≡ counts g.frames → Goal
          pick done [] w h a c = absurd (omega (arith, m, a))
          pick done (in_repeat more at b rest ∷ fs) w h a c = absurd (unlike is_access end_record a.0.1 refl t)
          pick done (in_then o rest ∷ fs) w h a c = absurd (unlike is_access else_record a.0.1 refl t)
          pick done (in_last rest ∷ fs) w h a c = absurd (unlike is_access end_record a.0.1 refl t)
          pick (write port width v rest) fs w h a c = wrote port width v rest fs (rw (in_budget_lem l) at w) h a c
          pick (read port width rest) fs w h a c =
              let f : leb (length log) x.logged ≡ false =
              ap (λ (z : Record). log_full (length log) x.logged z.kind) (sym (fq ∙ h.0.1)) ∙ nf in
              let room = leb-false (length log) x.logged f in
              let i : ltb (length g.present.world.logged) (length lent) ≡ true =
              lt-ltb (length g.present.world.logged) (length lent) (omega (arith, room, g.same, g.holds.logged)) in
              logged_read port width rest fs room (rw (in_budget_lem l, i) at w) h a c
          pick (delay n rest) fs w h a c = absurd (unlike is_access _ h.0.1 refl t)
          pick (repeat n b rest) fs w h a c = absurd (unlike is_access _ h.0.1 refl t)
          pick (if port width v b rest) fs w h a c = if_tested port width v b rest fs (rw (in_budget_lem l) at w) h a c
          pick (if_else port width v b o rest) fs w h a c = if_else_tested port width v b o rest fs (rw (in_budget_lem l) at w) h a c
