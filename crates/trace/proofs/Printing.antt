-- What `run_script` answers is printed as the definitions say: the number of every refusal and ending of a run is at most 24.
use Rattle.std.proofs.Common.{◌≡◌, ℕ, suc, true, List, [], ◌∷◌, eqb, leb, ltb, leb-true, length, refl, ap, ◌∙◌, arith, Result}
use Rattle.compiler.specs.Compile.{compile_refusal, compile_result, too_short}
use Rattle.correct.specs.CompilerCorrect.{words_written}
use Rattle.device.specs.Device.{fresh_device}
use Rattle.device.specs.Event.{is_event}
use Rattle.device.specs.declared.Device.{Device}
use Rattle.mask.proofs.Branch.{branch}
use Rattle.outcome.specs.Ending as ending
use Rattle.outcome.specs.Refusal.{Refusal}
use Rattle.outcome.specs.declared.Refused.{Refused}
use Rattle.record.specs.declared.Record.{Record}
use Rattle.script.specs.Records.{records_of}
use Rattle.script.specs.Refusals.{
  bad_fields,
  bad_kind,
  bad_length,
  first_fault,
  innermost,
  misplaced,
  open_after,
  record_fault,
  script_refusal,
  too_deep,
  too_many_words,
  wrong_mark,
}
use Rattle.sequencer.proofs.Endings.{image_run_most}
use Rattle.sequencer.specs.Run.{RunResult, bad_image, bad_state, events_refusal, first_bad_event, most_events, run_answer, run_refusal}
use Rattle.step.specs.Sequencer.{fresh_sequencer}
use Rattle.step.specs.declared.Sequencer.{Sequencer}
use Rattle.trace.specs.Trace.{budget, trace_summary}
use Rattle.trace_text.proofs.Lines.{shown_is_printed_lem}
use Rattle.trace_text.specs.Printed.{printed}
use Rattle.trace_text.specs.Shown.{shown, summary_of}
use Rattle.trace_text.specs.declared.RunSummary.{RunSummary}
use Rattle.trace_text.specs.declared.Summary.{Summary}

abbrev Small : ℕ → Type 0
Small n = leb n ending.log_full ≡ true

abbrev SmallRefusal : Refusal → Type 0
SmallRefusal r = Small r.number

record_small : (blocks : List ℕ) (r : Record) → Small (record_fault blocks r)
unfolding record_fault
record_small blocks r =
    branch Small (wrong_mark r) refl
    (branch Small (bad_kind r) refl
    (branch Small (bad_fields r) refl
    (branch Small (misplaced blocks r.kind) refl (branch Small (too_deep blocks r.kind) refl refl))))

first_small : (blocks : List ℕ) (place : ℕ) (rs : List Record) → SmallRefusal (first_fault blocks place rs)
first_small blocks place [] = branch SmallRefusal (eqb (innermost blocks) 0) refl refl
first_small blocks place (r ∷ rs) =
    branch SmallRefusal (eqb (record_fault blocks r) 0) (first_small (open_after blocks r.kind) (suc place) rs) (record_small blocks r)

script_small : (script : List ℕ) → SmallRefusal (script_refusal script)
unfolding script_refusal
script_small script =
    branch SmallRefusal (bad_length script) refl
    (branch SmallRefusal (eqb (first_fault [] 0 (records_of script)).number 0) (branch SmallRefusal (too_many_words script) refl refl)
    (first_small [] 0 (records_of script)))

compile_refusal_small : (script buffer : List ℕ) → SmallRefusal (compile_refusal script buffer)
unfolding compile_refusal
compile_refusal_small script buffer =
    branch SmallRefusal (eqb (script_refusal script).number 0) (branch SmallRefusal (too_short script buffer) refl refl) (script_small script)

compile_small : (script buffer : List ℕ) → Small (compile_result script buffer).refusal
unfolding compile_result
compile_small script buffer = compile_refusal_small script buffer

bad_event_small : (place : ℕ) (events : List ℕ) → SmallRefusal (first_bad_event place events)
bad_event_small place [] = refl
bad_event_small place (e ∷ es) = branch SmallRefusal (is_event e) (bad_event_small (suc place) es) refl

refusal_small : (image : List ℕ) (d : Device) (s : Sequencer) (events : List ℕ) → SmallRefusal (run_refusal image d s events)
unfolding run_refusal events_refusal
refusal_small image d s events =
    branch SmallRefusal (bad_image image) refl
    (branch SmallRefusal (bad_state d s) refl (branch SmallRefusal (ltb most_events (length events)) refl (bad_event_small 0 events)))

run_small : (image : List ℕ) (d : Device) (s : Sequencer) (events : List ℕ) (budget : ℕ) (log : List ℕ)
    → Small (run_answer image d s events budget log).outcome
unfolding run_answer
run_small image d s events budget log =
    branch (λ (r : RunResult). Small r.outcome) (eqb (run_refusal image d s events).number 0)
    (image_run_most image d s events budget (length log)) (refusal_small image d s events)

summary_small : (script buffer log : List ℕ) → Small (trace_summary script buffer log).outcome
unfolding trace_summary
summary_small script buffer log =
    branch (λ (r : Summary). Small r.outcome) (eqb (compile_result script buffer).refusal 0)
    (run_small (words_written script buffer) fresh_device fresh_sequencer [] budget log) (compile_small script buffer)

pub printed_lem : (script buffer log after : List ℕ) (r : Result RunSummary Refused) → summary_of r ≡ trace_summary script buffer log
    → shown r after ≡ printed (trace_summary script buffer log) after
printed_lem script buffer log after r e =
    let most = leb-true _ _ (summary_small script buffer log) in
    let same = ap (λ (s : Summary). s.outcome) e in
    shown_is_printed_lem r after (omega (arith, most, same)) ∙ ap (λ (s : Summary). printed s after) e
