-- The events left, as an index into the list: the next event is the one at the index, and taking it adds 1 to the index.
use Prim.Native.Nat.{ℕ, ◌+◌, ◌≤◌, ◌<◌}
use mathlib.Core.Path.{◌≡◌}
use mathlib.Core.List.{List}
use native.Mathlib.Numerals.{add-one}
use lib.ListN.{length, drop, get_or, drop_of_length-le}
use lib.Seq.{drop-cons}
use Rattle.device.specs.Event.{apply_event}
use Rattle.device.specs.declared.Device.{Device}
use Rattle.semantics.specs.World.{after_next_event, events_after}

pub next_there : (d : Device) (xs : List ℕ) (k : ℕ) → k < length xs → after_next_event d (drop k xs) ≡ apply_event d (get_or xs k 0)
next_there d xs k h = rw (drop-cons xs k 0 h)

pub next_none : (d : Device) (xs : List ℕ) (k : ℕ) → length xs ≤ k → after_next_event d (drop k xs) ≡ d
next_none d xs k h = rw (drop_of_length-le xs h)

pub after_there : (xs : List ℕ) (k : ℕ) → k < length xs → drop (k + 1) xs ≡ events_after (drop k xs)
after_there xs k h = rw (add-one k, drop-cons xs k 0 h)

pub after_none : (xs : List ℕ) (k : ℕ) → length xs ≤ k → drop k xs ≡ events_after (drop k xs)
after_none xs k h = rw (drop_of_length-le xs h)
