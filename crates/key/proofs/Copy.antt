-- A loop that copies a list into another of the same length, one element at each turn: when it ends, the two are equal.
use Prim.Native.Nat.{ℕ, ◌+◌, ◌<◌}
use mathlib.Core.Path.{◌≡◌, sym, ◌∙◌}
use mathlib.Core.List.{List}
use lib.ListN.{get_or, length, set, take}
use lib.Seq.{take_all, take-suc, take-suc-set}
use native.Mathlib.Numerals.{add-one}
use native.Mathlib.Omega.{arith}

module _ (copy bytes : List ℕ) (k : ℕ) (e : take k copy ≡ take k bytes) where
  pub one_more : k < length copy → k < length bytes → take (k + 1) (set copy k (get_or bytes k 0)) ≡ take (k + 1) bytes
  one_more l m = rw (add-one, take-suc-set, take-suc bytes k 0, e)

  pub all_copied : length copy ≡ k → length bytes ≡ k → copy ≡ bytes
  all_copied l m = sym (take_all k copy (omega arith)) ∙ e ∙ take_all k bytes (omega arith)
