-- The search for the first bad event, from index k: it is here, it is further on, or there is none. Then what a chain finds is what
-- `first_bad_event` gives.
use Prim.Native.Nat.{◌≤◌, ◌<◌}
use lib.ListN.{length, drop, get_or, drop_of_length-le}
use lib.Seq.{drop-cons}
use Rattle.std.proofs.Common.{◌≡◌, ℕ, suc, ◌+◌, Bool, true, false, not, cond, List, [], ◌∷◌, Option, None, Some, refl, sym, ap, ◌∙◌, add-one}
use Rattle.std.specs.List.{position, position_from}
use Rattle.std.proofs.lemmas.Iterator.Adapters.{position_from-zero}
use Rattle.device.specs.Event.{is_event}
use Rattle.outcome.specs.Refusal.{Refusal, refusal}
use Rattle.sequencer.specs.Run.{first_bad_event}

pub bad_here :
    (xs : List ℕ) (k : ℕ) → k < length xs → is_event (get_or xs k 0) ≡ false → first_bad_event k (drop k xs) ≡ refusal 12 k
bad_here xs k h b = rw (drop-cons xs k 0 h, b)

pub bad_further :
    (xs : List ℕ) (k : ℕ) → k < length xs → is_event (get_or xs k 0) ≡ true
    → first_bad_event k (drop k xs) ≡ first_bad_event (k + 1) (drop (k + 1) xs)
bad_further xs k h b = rw (add-one k, drop-cons xs k 0 h, b)

pub bad_none : (xs : List ℕ) (k : ℕ) → length xs ≤ k → first_bad_event k (drop k xs) ≡ refusal 0 0
bad_none xs k h = rw (drop_of_length-le xs h)

-- the refusal for the place of a bad event, if there is one
abbrev pub refused_at : Option ℕ → Refusal
refused_at None = refusal 0 0
refused_at (Some place) = refusal 12 place

first_bad_from : (n : ℕ) (xs : List ℕ) → first_bad_event n xs ≡ refused_at (position_from (λ e. not (is_event e)) n xs)
first_bad_from n [] = refl
first_bad_from n (x ∷ xs) = pick (is_event x) (rw (add-one n) at (first_bad_from (n + 1) xs))
  where
    pick : (b : Bool) → first_bad_event (suc n) xs ≡ refused_at (position_from (λ e. not (is_event e)) (suc n) xs)
        → cond b (first_bad_event (suc n) xs) (refusal 12 n)
        ≡ refused_at (cond (not b) (Some n) (position_from (λ e. not (is_event e)) (n + 1) xs))
    pick true h = rw (add-one n) h
    pick false h = refl

pub first_bad_found : (xs : List ℕ) → first_bad_event 0 xs ≡ refused_at (position (λ e. not (is_event e)) xs)
first_bad_found xs = first_bad_from 0 xs ∙ ap refused_at (sym (position_from-zero (λ e. not (is_event e)) xs))
