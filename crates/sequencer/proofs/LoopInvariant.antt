-- The loop invariant of `run_words`: the state of the code represents a machine, and the run from this machine with the rest
-- of the budget ends as the whole run does. It holds at the start, each executed word keeps it, and it gives the answer at
-- each ending.
use Prim.Native.Nat.{ℕ, suc, ◌+◌, ◌-◌, ◌*◌, ◌≤◌, ◌<◌}
use mathlib.Core.Path.{◌≡◌, refl, ap, sym, ◌∙◌}
use mathlib.Core.List.{List}
use native.Mathlib.Numerals.{add-one}
use native.Mathlib.Omega.{arith}
use borrow.Author.Tests.{ne_eqb, le-leb, lt-leb}
use lib.ListN.{length, length-drop}
use Rattle.device.specs.declared.Device.{Device}
use Rattle.outcome.specs.Refused.{ending_number}
use Rattle.outcome.specs.declared.Ending.{Ending}
use Rattle.outcome.specs.declared.Ending.TheVariants.{BeyondLastWord, BudgetSpent, Halted}
use Rattle.record.specs.Record.{record_at}
use Rattle.record.specs.declared.Record.{Record}
use Rattle.semantics.specs.World.{start_world}
use Rattle.step.specs.Represents.{Implements, Represents, RunState, run_state}
use Rattle.sequencer.specs.Ends.{EndsAs, Starts, answer}
use Rattle.sequencer.specs.Run.{RunEnd, run_end, follow, image_run, run_from}
use Rattle.step.specs.Sequencer.{counters_of, counter_array}
use Rattle.step.specs.Step.{Machine, execute, fault_at, machine, next_step, step_from, word_fault}
use Rattle.step.specs.Word.{image_words, word_at}
use Rattle.sequencer.specs.declared.RunResult as code
use Rattle.step.specs.declared.Sequencer.{Sequencer}
use Rattle.step.specs.declared.execute.Position.{Position}

pub record LoopInvariant (image : List ℕ) (whole : RunEnd) (events lent : List ℕ) (budget : ℕ) (log : List ℕ) (x : RunState) (steps : ℕ)
    : Type 0 where
  pub machine : Machine
  pub holds : Represents x events lent log machine
  pub rest : whole ≡ run_from image (length lent) (budget - steps) steps machine
  pub within : steps ≤ budget
  pub same : length log ≡ length lent

-- it holds at the start of the run
pub starts :
    (image : List ℕ) (d : Device) (s : Sequencer) (events lent : List ℕ) (budget : ℕ) (x : Position) (cs : List ℕ) → Starts s x
    → cs ≡ counter_array (counters_of s)
    → LoopInvariant image (image_run image d s events budget (length lent)) events lent budget lent (run_state d x cs) 0
unfolding image_run
starts image d s events lent budget x cs h q =
    let e : budget - 0 ≡ budget = omega arith in
    rw q
    (record {
      machine = machine s.place (counters_of s) (start_world d events);
      holds = h d events lent;
      rest = rw e;
      within = omega arith;
      same = refl;
    })

-- ---- the endings
-- the answer of the code is that of the machine that its state represents
ends :
    {x : RunState} {events lent log : List ℕ} {m : Machine} (ending : Ending) (steps : ℕ) (whole : RunEnd) (r : code.RunResult)
    → Represents x events lent log m → whole ≡ run_end (ending_number ending) steps m → r ≡ answer ending steps x
    → EndsAs events lent log r whole
ends {x} {events} {lent} {log} {m} ending steps whole r h w e =
    let n : length events - length m.world.events ≡ x.taken =
    rw (sym h.taken) (let l = length-drop x.taken events in omega (arith, l, h.inside)) in
    rw w
    (record {
      answered = rw e (rw (n, sym h.device, sym h.place, sym h.counters, sym h.used, sym h.logged));
      lines = h.lines;
    })

-- "Budget is looked at first"
pub spent :
    {image : List ℕ} {whole : RunEnd} {events lent : List ℕ} {budget : ℕ} {log : List ℕ} {x : RunState} {steps : ℕ} (r : code.RunResult)
    → LoopInvariant image whole events lent budget log x steps → budget ≤ steps → r ≡ answer BudgetSpent budget x
    → EndsAs events lent log r whole
spent {image} {whole} {events} {lent} {budget} {log} {x} {steps} r g l e =
    let z : budget - steps ≡ 0 = omega (arith, l) in
    let n : budget ≡ steps = omega (arith, l, g.within) in
    ends BudgetSpent steps whole r g.holds (rw z at g.rest) (rw n at e)

-- the whole run ends as the next step and the rest of the run do
one_step_lem :
    {image : List ℕ} {whole : RunEnd} {events lent : List ℕ} {budget : ℕ} {log : List ℕ} {x : RunState} {steps : ℕ}
    (g : LoopInvariant image whole events lent budget log x steps) → steps < budget
    → whole
    ≡ follow (run_from image (length lent) (budget - suc steps) (suc steps)) steps g.machine (next_step image (length lent) g.machine)
one_step_lem {image} {whole} {events} {lent} {budget} {log} {x} {steps} g l =
    let e : budget - steps ≡ suc (budget - suc steps) = omega (arith, l) in
    g.rest ∙ ap (λ (k : ℕ). run_from image (length lent) k steps g.machine) e

-- "then 21 for the place"
pub place_beyond :
    {image : List ℕ} {whole : RunEnd} {events lent : List ℕ} {budget : ℕ} {log : List ℕ} {x : RunState} {steps : ℕ} (r : code.RunResult)
    → LoopInvariant image whole events lent budget log x steps → steps < budget → image_words image ≤ x.place
    → r ≡ answer BeyondLastWord steps x → EndsAs events lent log r whole
unfolding next_step
place_beyond {image} {whole} {events} {lent} {budget} {log} {x} {steps} r g l b e =
    let t = le-leb (image_words image) g.machine.place (rw g.holds.place at b) in
    ends BeyondLastWord steps whole r g.holds (rw t at (one_step_lem g l)) e

-- ---- the word at the place, and its fault, as the code has them
pub record Fetch (image : List ℕ) (log : List ℕ) (x : RunState) (word : Record) (fault : ℕ) : Type 0 where
  pub there : x.place < image_words image
  pub word_is : word ≡ word_at image x.place
  pub fault_is : fault ≡ word_fault (image_words image) (length log) x.used x.logged word

pub fetched :
    {image log : List ℕ} {x : RunState} {word : Record} {fault : ℕ} → x.place < image_words image
    → word ≡ record_at image (12 * x.place)
    → word_fault (image_words image) (length log) x.used x.logged word ≡ fault → Fetch image log x word fault
fetched {image} there read fault_is = record { there = there; word_is = read; fault_is = sym fault_is }

-- the next step of the machine is the step of this word
step_is :
    {image : List ℕ} {whole : RunEnd} {events lent : List ℕ} {budget : ℕ} {log : List ℕ} {x : RunState} {steps : ℕ}
    (g : LoopInvariant image whole events lent budget log x steps) {word : Record} {fault : ℕ} → Fetch image log x word fault
    → next_step image (length lent) g.machine ≡ step_from word fault g.machine
unfolding next_step
step_is {image} {whole} {events} {lent} {budget} {log} {x} {steps} g {word} {fault} k =
    let h = g.holds in
    let a = lt-leb (image_words image) g.machine.place (rw h.place at k.there) in
    let w : word_at image g.machine.place ≡ word = ap (word_at image) (sym h.place) ∙ sym k.word_is in
    let f : fault_at image (length lent) g.machine ≡ fault =
    sym (k.fault_is ∙ rw (sym w, g.same, h.used, h.logged)) in
    rw (a, f, w)

-- a fault ends the run
pub faulted :
    {image : List ℕ} {whole : RunEnd} {events lent : List ℕ} {budget : ℕ} {log : List ℕ} {x : RunState} {steps : ℕ} (r : code.RunResult)
    {word : Record} {fault : Ending} → LoopInvariant image whole events lent budget log x steps → steps < budget
    → Fetch image log x word (ending_number fault) → 0 < ending_number fault → r ≡ answer fault steps x
    → EndsAs events lent log r whole
faulted {image} {whole} {events} {lent} {budget} {log} {x} {steps} r {word} {fault} g l k n e =
    let z : ending_number fault ≡ 0 → ⊥ = λ q. omega (arith, n, q) in
    ends fault steps whole r g.holds (rw (step_is g k, ne_eqb (ending_number fault) 0 z) at (one_step_lem g l)) e

-- a halt ends the run and counts a step
pub halted :
    {image : List ℕ} {whole : RunEnd} {events lent : List ℕ} {budget : ℕ} {log : List ℕ} {x : RunState} {steps : ℕ} (r : code.RunResult)
    {word : Record} → LoopInvariant image whole events lent budget log x steps → steps < budget
    → Fetch image log x word 0 → word.kind ≡ 8 → r ≡ answer Halted (steps + 1) x
    → EndsAs events lent log r whole
halted {image} {whole} {events} {lent} {budget} {log} {x} {steps} r {word} g l k h e =
    ends Halted (suc steps) whole r g.holds (rw (step_is g k, h) at (one_step_lem g l))
    (e ∙ ap (λ (n : ℕ). answer Halted n x) (add-one steps))

-- a word that neither faults nor halts keeps the invariant
pub further :
    {image : List ℕ} {whole : RunEnd} {events lent : List ℕ} {budget : ℕ} {log : List ℕ} {x : RunState} {steps : ℕ}
    {word : Record} (y : RunState) (log' : List ℕ) → LoopInvariant image whole events lent budget log x steps
    → steps < budget → Fetch image log x word 0 → (word.kind ≡ 8 → ⊥) → Implements word events x log y log'
    → length log' ≡ length log → LoopInvariant image whole events lent budget log' y (steps + 1)
further {image} {whole} {events} {lent} {budget} {log} {x} {steps} {word} y log' g l k h s e =
    let n = one_step_lem g l in
    let m : whole ≡ run_from image (length lent) (budget - suc steps) (suc steps) (execute word g.machine) =
    rw (step_is g k, ne_eqb word.kind 8 h) at n in
    rw (add-one steps)
    (record {
      machine = execute word g.machine;
      holds = s lent g.machine g.holds;
      rest = m;
      within = omega (arith, l);
      same = e ∙ g.same;
    })
