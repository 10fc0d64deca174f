-- Pasting a list of the same length at index 0 replaces the whole list.
use Prim.Native.Nat.{ℕ, ◌+◌, ◌≤◌}
use mathlib.Core.Path.{◌≡◌}
use mathlib.Core.List.{List, [], append-nil}
use native.Mathlib.Omega.{arith}
use lib.ListN.{drop, drop_of_length-le, length}
use lib.Seq.{paste, take-length}

pub paste_whole : (lent part : List ℕ) → length part ≡ length lent → paste lent 0 part (length part) ≡ part
paste_whole lent part e =
    let after : length lent ≤ 0 + length part = omega arith in
    let gone : drop (0 + length part) lent ≡ [] = drop_of_length-le lent after in
    rw (take-length part, gone, append-nil)
