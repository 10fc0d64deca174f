-- The refusal of the call from the results of the three checks: the scan of the script, the range of the device, and the events. Then the
-- answer of the call, and the log after it, for a refusal and for a walk.
use Prim.Native.Nat.{ℕ, ◌-◌, ◌≤◌, min}
use mathlib.Core.Path.{◌≡◌, refl, sym, ap, ◌∙◌}
use mathlib.Core.Bool.{Bool, true, false, cond}
use mathlib.Core.List.{List}
use native.Mathlib.Decide.{dec_le}
use native.Mathlib.Omega.{arith}
use borrow.Author.Tests.{eqb-true, ne_eqb}
use lib.Dec.{eqb}
use lib.ListN.{drop, drop_of_length-le, length, length-drop, take}
use lib.Seq.{take_all}
use Rattle.device.specs.Device.{device_in_range}
use Rattle.device.specs.declared.Device.{Device}
use Rattle.outcome.proofs.Numbers.{refusal_number_above}
use Rattle.outcome.specs.Refusal.{Refusal, refusal}
use Rattle.outcome.specs.Refused.{refusal_of}
use Rattle.outcome.specs.declared.Refused.{Refused}
use Rattle.script.specs.Refusals.{script_refusal}
use Rattle.script.specs.Scan.{ScanResult, script_scan}
use Rattle.sequencer.specs.Run.{events_refusal}
use Rattle.interpreter.specs.Interpret.{interpret_log, interpret_refusal, interpret_result, refused_interpret}
use Rattle.interpreter.specs.Interpreted.{interpret_of}
use Rattle.interpreter.specs.State.{EndsAs}
use Rattle.interpreter.specs.Walk.{script_walk}
use Rattle.interpreter.specs.declared.InterpretResult as code

module _ (script : List ℕ) (d : Device) (events : List ℕ) (s : ScanResult) (e : s ≡ script_scan script) where
  number_is : s.number ≡ (script_refusal script).number
  unfolding script_scan
  number_is = ap (λ (x : ScanResult). x.number) e

  place_is : s.place ≡ (script_refusal script).place
  unfolding script_scan
  place_is = ap (λ (x : ScanResult). x.place) e

  pub by_script : (s.number ≡ 0 → ⊥) → refusal s.number s.place ≡ interpret_refusal script d events
  unfolding interpret_refusal
  by_script z =
      let n : eqb (script_refusal script).number 0 ≡ false = rw number_is at (ne_eqb s.number 0 z) in
      rw (n, number_is, place_is)

  pub by_device : s.number ≡ 0 → device_in_range d ≡ false → refusal 11 0 ≡ interpret_refusal script d events
  unfolding interpret_refusal
  by_device z r = let n = sym number_is ∙ z in rw (n, r)

  pub by_events : s.number ≡ 0 → device_in_range d ≡ true → events_refusal events ≡ interpret_refusal script d events
  unfolding interpret_refusal
  by_events z r = let n = sym number_is ∙ z in rw (n, r)

-- ---- the answer of the call
module _ (script : List ℕ) (d : Device) (events : List ℕ) (f : Refusal) (e : f ≡ interpret_refusal script d events) where
  pub refused : (budget : ℕ) (log : List ℕ) → (f.number ≡ 0 → ⊥)
      → (refused_interpret f d ≡ interpret_result script d events budget log) × (log ≡ interpret_log script d events budget log)
  unfolding interpret_result interpret_log
  refused budget log z =
      let n : eqb (interpret_refusal script d events).number 0 ≡ false = rw e at (ne_eqb f.number 0 z) in
      (rw (n, e), rw n)

-- the same for a refusal of the code, whose number is never 0
pub refused_by_code :
    (script : List ℕ) (d : Device) (events : List ℕ) (budget : ℕ) (log : List ℕ) (f : Refused)
    → refusal_of f ≡ interpret_refusal script d events
    → (refused_interpret (refusal_of f) d ≡ interpret_result script d events budget log) × (log ≡ interpret_log script d events budget log)
refused_by_code script d events budget log f e = refused script d events (refusal_of f) e budget log (refusal_number_above f.kind)

pub not_refused :
    (script : List ℕ) (d : Device) (events : List ℕ) → refusal 0 0 ≡ interpret_refusal script d events
    → (interpret_refusal script d events).number ≡ 0
not_refused script d events e = ap (λ (x : Refusal). x.number) (sym e)

-- a script is accepted if the call is not refused
pub accepted : (script : List ℕ) (d : Device) (events : List ℕ) → (interpret_refusal script d events).number ≡ 0
    → (script_refusal script).number ≡ 0
unfolding interpret_refusal
accepted script d events h = pick (eqb (script_refusal script).number 0) refl h
  where
    pick : (t : Bool) → eqb (script_refusal script).number 0 ≡ t
        → (cond t (cond (device_in_range d) (events_refusal events) (refusal 11 0)) (script_refusal script)).number ≡ 0
        → (script_refusal script).number ≡ 0
    pick true q z = eqb-true (script_refusal script).number 0 q
    pick false q z = z

pub walked : (script : List ℕ) (d : Device) (events : List ℕ) (budget : ℕ) (log log' : List ℕ) (r : code.InterpretResult)
    → (interpret_refusal script d events).number ≡ 0 → EndsAs events log log' r (script_walk script d events budget (length log))
    → (interpret_of r ≡ interpret_result script d events budget log) × (log' ≡ interpret_log script d events budget log)
unfolding interpret_result interpret_log
walked script d events budget log log' r n h = (h.answered ∙ rw n, h.lines ∙ rw n)

-- ---- the records from a place on
-- the part of a list from an offset on that is cut off at the length of the list
pub part : (xs : List ℕ) (n : ℕ) → take (length xs - min n (length xs)) (drop (min n (length xs)) xs) ≡ drop n xs
part xs n = pick (dec_le n (length xs))
  where
    pick : Dec (n ≤ length xs) → take (length xs - min n (length xs)) (drop (min n (length xs)) xs) ≡ drop n xs
    pick (yes l) =
        let m : min n (length xs) ≡ n = omega (arith, l) in
        rw m (take_all (length xs - n) (drop n xs) (omega (arith, length-drop n xs)))
    pick (no l) =
        let m : min n (length xs) ≡ length xs = omega (arith, l) in
        let k : length xs ≤ n = omega (arith, l) in
        let e : length xs ≤ length xs = omega arith in
        let z : length xs - length xs ≡ 0 = omega arith in
        rw (m, drop_of_length-le xs k, drop_of_length-le xs e, z)
