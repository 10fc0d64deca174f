-- What holds for both branches of a `cond` holds for the `cond`. With `branch_on` each branch may use the result of the test.
use Prim.Native.Nat.{ℕ}
use mathlib.Core.Path.{◌≡◌, refl}
use mathlib.Core.Bool.{Bool, true, false, cond}

pub branch : {A : Type 0} (P : A → Type 0) (b : Bool) {x y : A} → P x → P y → P (cond b x y)
branch P true h k = h
branch P false h k = k

pub branch_on : {A : Type 0} (P : A → Type 0) (b : Bool) {x y : A} → (b ≡ true → P x) → (b ≡ false → P y) → P (cond b x y)
branch_on P true h k = h refl
branch_on P false h k = k refl

-- a law about statuses other than 0 says nothing about status 0
pub done : {A : Type 0} → (◌≡◌ {A = ℕ} 0 0 → ⊥) → A
done n = absurd (n refl)
