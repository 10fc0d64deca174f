-- The whole run of a compiled script: `run` does not refuse it (`none_refused`), and it ends as the walk of the script does (`whole_walk`). So it
-- is the script's own run (`whole_run`) if the log and the budget are large enough.
use Prim.Native.Nat.{ℕ, suc, ◌-◌, ◌*◌, ◌%◌, ◌≤◌, ◌<◌}
use mathlib.Core.Path.{◌≡◌, refl, sym, ap, ◌∙◌}
use mathlib.Core.Bool.{true, false}
use mathlib.Core.List.{List, [], ◌∷◌, ◌++◌}
use native.Mathlib.Omega.{arith}
use borrow.Author.Tests.{eq-eqb, le-ltb, ne_eqb}
use lib.ListN.{drop, length, take}
use lib.Seq.{take_at}
use Rattle.compiler.proofs.Compiling.{refuses_not}
use Rattle.compiler.proofs.Image.{image_length}
use Rattle.compiler.proofs.Places.{count_words, emit_length}
use Rattle.std.specs.Prelude.{Ok}
use Rattle.compiler.specs.Compile.{CompileResult, compile_result, compiled, image_after}
use Rattle.compiler.specs.Words.{place_after, emit, halt, image_bytes, words_of}
use Rattle.device.specs.Device.{device_in_range}
use Rattle.device.specs.declared.Device.{Device}
use Rattle.interpreter.specs.Walk.{halt as walk_halt, script_walk, walk}
use Rattle.record.specs.declared.Record.{Record}
use Rattle.script.proofs.Flat.{accepts}
use Rattle.script.proofs.Loops.{fields_within, FieldsWithin, loops_within, LoopsWithin}
use Rattle.script.specs.Nested.{Body, script_body}
use Rattle.script.specs.Records.{records_of}
use Rattle.script.specs.Refusals.{script_refusal, words_in}
use Rattle.semantics.specs.OwnRun.{Run, run, script_run}
use Rattle.semantics.specs.World.{start_world}
use Rattle.outcome.specs.Ending as ending
use Rattle.sequencer.specs.Run.{RunEnd, bad_image, run_end, events_refusal, image_run, run_refusal}
use Rattle.step.specs.Sequencer.{fresh_sequencer, sequencer_in_range}
use Rattle.step.specs.Step.{machine}
use Rattle.step.specs.Word.{image_words}
use Rattle.correct.specs.CompilerCorrect.{Bytes, words_written}
use Rattle.correct.proofs.Follows.{SameEnd, halts_there}
use Rattle.correct.proofs.Ports.{ports_within, PortsWithin}
use Rattle.correct.proofs.Simulation.{simulates}
use Rattle.correct.proofs.Steps.{step_halt}
use Rattle.correct.proofs.Suffices.{own_walk}
use Rattle.correct.proofs.Words.{At, all_fit_lem, halt_fits, image_words_lem, lies, lies_after}

-- ---- the words written are those of the script
module _ (script buffer : List ℕ) (accepted : (compile_result script buffer).refusal ≡ 0) where
  pub words_counted : (compile_result script buffer).words ≡ words_in script
  unfolding compile_result
  words_counted = rw accepted

  pub words_are : (compile_result script buffer).words ≡ length (words_of script)
  words_are = words_counted ∙ count_words script (refuses_not script buffer accepted).0

  image_is : image_after script buffer ≡ image_bytes (words_of script) ++ drop (12 * words_in script) buffer
  unfolding image_after compile_result
  image_is = rw accepted

  pub written_are : words_written script buffer ≡ image_bytes (words_of script)
  written_are =
      ap (take (12 * (compile_result script buffer).words)) image_is
      ∙ take_at (image_bytes (words_of script)) (drop (12 * words_in script) buffer) (12 * (compile_result script buffer).words)
      (image_length (words_of script) ∙ ap (λ (n : ℕ). 12 * n) (sym words_are))

-- they fit into the buffer
pub words_fit :
    (script buffer : List ℕ) → (compile_result script buffer).refusal ≡ 0
    → (12 * (compile_result script buffer).words ≤ length buffer) × ((compile_result script buffer).words ≤ 1024)
words_fit script buffer accepted =
    let r = refuses_not script buffer accepted in
    let w = words_counted script buffer accepted in
    let f = (accepts script r.0).few_words_lem in
    (omega (arith, w, r.1), omega (arith, w, f))

-- the words that `compile` counts lie within an image buffer that is as long as it was before the call
pub counted_words_fit :
    (script buffer image : List ℕ) (words : ℕ) → compiled (Ok words) ≡ compile_result script buffer → length image ≡ length buffer
    → 12 * words ≤ length image
counted_words_fit script buffer image words e l =
    let f = words_fit script buffer (sym (ap (λ (r : CompileResult). r.refusal) e)) in
    let w = ap (λ (r : CompileResult). r.words) e in
    omega (arith, f.0, w, l)

-- ---- the run of the words of a body and a halt
module _ (b : Body) (loops : LoopsWithin 0 b) (fields : FieldsWithin b) (ports : PortsWithin b) (few : place_after 0 b < 1024) where
  abbrev words : List Record
  words = emit 0 b (halt ∷ [])

  counted_words : image_words (image_bytes words) ≡ suc (place_after 0 b)
  counted_words = omega (arith, image_words_lem words, emit_length b 0 (halt ∷ []))

  -- it ends as the walk of the body does, at every budget and every length of the log
  body_run :
      (d : Device) (events : List ℕ) (budget room : ℕ)
      → SameEnd (place_after 0 b) (walk budget room b (walk_halt budget) (run (start_world d events) 0))
      (image_run (image_bytes words) d fresh_sequencer events budget room)
  unfolding image_run
  body_run d events budget room =
      let image = image_bytes words in
      let last = place_after 0 b in
      let at : At image 0 words = lies words (all_fit_lem b 0 (halt ∷ []) fields ports (omega arith) (halt_fits, tt)) in
      let inside : last < image_words image = omega (arith, counted_words) in
      let stop = lies_after image b 0 (halt ∷ []) at in
      (simulates image budget room last b 0 [] (walk_halt budget) (halt ∷ []) at inside loops fields
      (λ r. halts_there (step_halt image room last [] r.world inside stop.0)) (run (start_world d events) 0)).ends budget (omega arith)

-- ---- the call of `run`
pub fresh_in_range : sequencer_in_range fresh_sequencer ≡ true
unfolding sequencer_in_range
fresh_in_range = refl

pub good_image : (ws : List Record) → 0 < length ws → length ws ≤ 1024 → bad_image (image_bytes ws) ≡ false
good_image ws some few =
    let l = image_length ws in
    let a = ne_eqb (length (image_bytes ws)) 0 (λ e. omega arith) in
    let b = eq-eqb (length (image_bytes ws) % 12) 0 (omega arith) in
    let c = le-ltb 1024 (image_words (image_bytes ws)) (omega (arith, image_words_lem ws)) in
    rw (a, b, c)

refuses_none :
    (image : List ℕ) (d : Device) (events : List ℕ) → bad_image image ≡ false → device_in_range d ≡ true
    → (events_refusal events).number ≡ 0 → (run_refusal image d fresh_sequencer events).number ≡ 0
unfolding run_refusal
refuses_none image d events good in_range all = rw (good, in_range, fresh_in_range, all)

-- an accepted script has the words of its body and the halt, at most 1,024
pub words_many :
    (script : List ℕ) → (script_refusal script).number ≡ 0
    → (length (words_of script) ≡ suc (place_after 0 (script_body script))) × (length (words_of script) ≤ 1024)
unfolding words_of
words_many script z =
    let i = count_words script z in
    let j = (accepts script z).few_words_lem in
    let k = emit_length (script_body script) 0 (halt ∷ []) in
    (omega arith, omega arith)

-- `run` does not refuse a compiled image, with a valid device and a good event list
pub none_refused :
    (script buffer : List ℕ) (d : Device) (events : List ℕ) → (compile_result script buffer).refusal ≡ 0 → device_in_range d ≡ true
    → (events_refusal events).number ≡ 0 → (run_refusal (words_written script buffer) d fresh_sequencer events).number ≡ 0
none_refused script buffer d events accepted in_range all =
    let many = words_many script (refuses_not script buffer accepted).0 in
    refuses_none (words_written script buffer) d events
    (ap bad_image (written_are script buffer accepted) ∙ good_image (words_of script) (omega arith) (omega arith)) in_range all

-- the run of the words of an accepted script ends as the walk of the script does
pub whole_walk :
    (script : List ℕ) (d : Device) (events : List ℕ) (budget room : ℕ) → Bytes script → (script_refusal script).number ≡ 0
    → SameEnd (words_in script - 1) (script_walk script d events budget room)
    (image_run (image_bytes (words_of script)) d fresh_sequencer events budget room)
unfolding script_walk script_body words_of
whole_walk script d events budget room bytes z =
    let faultless = (accepts script z).faultless in
    let b = script_body script in
    let many = words_many script z in
    let last : words_in script - 1 ≡ place_after 0 b = omega (arith, count_words script z) in
    rw last
    (body_run b (loops_within (records_of script) faultless) (fields_within (records_of script) faultless)
    (ports_within script bytes faultless) (omega arith) d events budget room)

-- the script's own run as the end of a run: halted, on the last word, with no counter in use
abbrev pub own_end : List ℕ → Run → RunEnd
own_end script own = run_end ending.halted own.steps (machine (words_in script - 1) [] own.world)

-- so it is the script's own run and halts on the last word, if the log and the budget are large enough
pub whole_run :
    (script : List ℕ) (d : Device) (events : List ℕ) (budget room : ℕ) → Bytes script → (script_refusal script).number ≡ 0
    → length (script_run script d events).world.logged ≤ room → (script_run script d events).steps ≤ budget
    → image_run (image_bytes (words_of script)) d fresh_sequencer events budget room ≡ own_end script (script_run script d events)
whole_run script d events budget room bytes z g l =
    let s = rw (own_walk budget room script d events g l) at (whole_walk script d events budget room bytes z) in
    sym (λ i. run_end (s.same_outcome i) (s.same_steps i) (machine (s.on_last refl i) (s.no_counter refl i) (s.same_world i)))
