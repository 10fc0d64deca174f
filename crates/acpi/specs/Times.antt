-- The same step n times, for the law `ticks` in proofs/Ticks.antt: "same as that many single ticks".
use Rattle.std.specs.Prelude.{ℕ, zero, suc}

abbrev pub times : {A : Type 0} → ℕ → (A → A) → A → A
times zero f a = a
times (suc n) f a = f (times n f a)
