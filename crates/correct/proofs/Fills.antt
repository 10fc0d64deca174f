-- The filled part and the rest of a log after a run, and the events left after the number taken.
use Prim.Native.Nat.{ℕ, ◌-◌, ◌≤◌}
use mathlib.Core.Path.{◌≡◌, refl, sym, ap, ◌∙◌}
use mathlib.Core.List.{List, [], ◌∷◌, ◌++◌}
use native.Mathlib.Decide.{dec_le}
use native.Mathlib.Omega.{arith}
use lib.ListN.{drop, drop_of_length-le, length, length-drop, take}
use Rattle.step.specs.Step.{log_filled}

take_front : (vs ys : List ℕ) → take (length vs) (vs ++ ys) ≡ vs
take_front [] ys = refl
take_front (v ∷ vs) ys = ap (◌∷◌ v) (take_front vs ys)

drop_front : (vs ys : List ℕ) → drop (length vs) (vs ++ ys) ≡ ys
drop_front [] ys = refl
drop_front (v ∷ vs) ys = drop_front vs ys

pub front : (values lent : List ℕ) → take (length values) (log_filled values lent) ≡ values
front values lent = take_front values (drop (length values) lent)

pub rest : (values lent : List ℕ) → drop (length values) (log_filled values lent) ≡ drop (length values) lent
rest values lent = drop_front values (drop (length values) lent)

-- dropping the number of events taken from the list gives the events left
pub events_left_lem :
    (events left : List ℕ) (n : ℕ) → left ≡ drop n events → drop (length events - length left) events ≡ left
events_left_lem events left n h = pick (dec_le n (length events))
  where
    l : length left ≡ length events - n
    l = ap length h ∙ length-drop n events

    pick : Dec (n ≤ length events) → drop (length events - length left) events ≡ left
    pick (yes m) =
        let e : length events - length left ≡ n = omega (arith, l, m) in
        ap (λ (k : ℕ). drop k events) e ∙ sym h
    pick (no m) =
        let e : length events - length left ≡ length events = omega (arith, l, m) in
        let a : length events ≤ length events = omega arith in
        let b : length events ≤ n = omega (arith, m) in
        ap (λ (k : ℕ). drop k events) e ∙ drop_of_length-le events a ∙ sym (drop_of_length-le events b) ∙ sym h
