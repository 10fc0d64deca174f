-- The refusals of runs have numbers below those of the endings, so the answer to a refused run has no outputs.
use Prim.Native.Nat.{ℕ, suc}
use mathlib.Core.Path.{◌≡◌, refl}
use mathlib.Core.Bool.{true}
use mathlib.Core.List.{List, [], ◌∷◌}
use lib.Dec.{eqb, ltb}
use lib.ListN.{length}
use Rattle.device.specs.Device.{device_in_range}
use Rattle.device.specs.Event.{is_event}
use Rattle.device.specs.declared.Device.{Device}
use Rattle.interpreter.specs.Interpret.{interpret_refusal}
use Rattle.mask.proofs.Branch.{branch}
use Rattle.outcome.specs.Refusal.{Refusal}
use Rattle.record.specs.declared.Record.{Record}
use Rattle.script.specs.Records.{records_of}
use Rattle.script.specs.Refusals.{
  bad_fields,
  bad_kind,
  bad_length,
  first_fault,
  innermost,
  misplaced,
  open_after,
  record_fault,
  script_refusal,
  too_deep,
  too_many_words,
  wrong_mark,
}
use Rattle.sequencer.specs.Run.{bad_image, bad_state, events_refusal, first_bad_event, is_refusal, most_events, run_refusal}
use Rattle.step.specs.declared.Sequencer.{Sequencer}

-- a number that is 0 or the number of a refusal, and no ending
abbrev pub Refuses : ℕ → Type 0
Refuses n = (n ≡ 0 → ⊥) → is_refusal n ≡ true

abbrev pub RefusedWith : Refusal → Type 0
RefusedWith r = Refuses r.number

none : Refuses 0
none h = absurd (h refl)

record_refuses : (blocks : List ℕ) (r : Record) → Refuses (record_fault blocks r)
unfolding record_fault
record_refuses blocks r =
    branch Refuses (wrong_mark r) (λ _. refl)
    (branch Refuses (bad_kind r) (λ _. refl)
    (branch Refuses (bad_fields r) (λ _. refl)
    (branch Refuses (misplaced blocks r.kind) (λ _. refl) (branch Refuses (too_deep blocks r.kind) (λ _. refl) none))))

first_refuses : (blocks : List ℕ) (place : ℕ) (rs : List Record) → RefusedWith (first_fault blocks place rs)
first_refuses blocks place [] = branch RefusedWith (eqb (innermost blocks) 0) none (λ _. refl)
first_refuses blocks place (r ∷ rs) =
    branch RefusedWith (eqb (record_fault blocks r) 0) (first_refuses (open_after blocks r.kind) (suc place) rs) (record_refuses blocks r)

script_refuses : (script : List ℕ) → RefusedWith (script_refusal script)
unfolding script_refusal
script_refuses script =
    branch RefusedWith (bad_length script) (λ _. refl)
    (branch RefusedWith (eqb (first_fault [] 0 (records_of script)).number 0)
    (branch RefusedWith (too_many_words script) (λ _. refl) none) (first_refuses [] 0 (records_of script)))

event_refuses : (place : ℕ) (events : List ℕ) → RefusedWith (first_bad_event place events)
event_refuses place [] = none
event_refuses place (e ∷ es) = branch RefusedWith (is_event e) (event_refuses (suc place) es) (λ _. refl)

events_refuse : (events : List ℕ) → RefusedWith (events_refusal events)
unfolding events_refusal
events_refuse events = branch RefusedWith (ltb most_events (length events)) (λ _. refl) (event_refuses 0 events)

pub run_refuses : (image : List ℕ) (d : Device) (s : Sequencer) (events : List ℕ) → RefusedWith (run_refusal image d s events)
unfolding run_refusal
run_refuses image d s events =
    branch RefusedWith (bad_image image) (λ _. refl) (branch RefusedWith (bad_state d s) (λ _. refl) (events_refuse events))

pub interpret_refuses : (script : List ℕ) (d : Device) (events : List ℕ) → RefusedWith (interpret_refusal script d events)
unfolding interpret_refusal
interpret_refuses script d events =
    branch RefusedWith (eqb (script_refusal script).number 0) (branch RefusedWith (device_in_range d) (events_refuse events) (λ _. refl))
    (script_refuses script)
