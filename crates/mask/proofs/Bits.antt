-- Laws of `bit_and` and `bit_or` that the library of the logic does not have. Each holds because it holds for every binary digit.
use Prim.Native.Nat.{ℕ, zero, suc, ◌+◌, ◌/◌, ◌%◌, ◌≤◌, ◌<◌}
use mathlib.Core.Path.{◌≡◌, refl, sym, ap, ◌∙◌}
use native.Mathlib.Omega.{arith}
use lib.Bits.{bit_and, bit_or, and_shr, and_mod, or_shr, or_mod}

-- an operation on three numbers that treats each binary digit separately
record Digitwise (f : ℕ → ℕ → ℕ → ℕ) : Type 0 where
  half : (a b c : ℕ) → f a b c / 2 ≡ f (a / 2) (b / 2) (c / 2)
  last : (a b c : ℕ) → f a b c % 2 ≡ f (a % 2) (b % 2) (c % 2)

-- two operations that agree on single digits agree on all numbers
module _
    (f g : ℕ → ℕ → ℕ → ℕ)
    (df : Digitwise f)
    (dg : Digitwise g)
    (digits : (x y z : ℕ) → x < 2 → y < 2 → z < 2 → f x y z ≡ g x y z)
  where
    up_to : (n a b c : ℕ) → a ≤ n → b ≤ n → c ≤ n → f a b c ≡ g a b c
    up_to zero a b c ha hb hc = digits a b c (omega arith) (omega arith) (omega arith)
    up_to (suc n) a b c ha hb hc =
        let h : f a b c / 2 ≡ g a b c / 2 =
        df.half a b c ∙ up_to n (a / 2) (b / 2) (c / 2) (omega arith) (omega arith) (omega arith) ∙ sym (dg.half a b c) in
        let l : f a b c % 2 ≡ g a b c % 2 =
        df.last a b c ∙ digits (a % 2) (b % 2) (c % 2) (omega arith) (omega arith) (omega arith)
        ∙ sym (dg.last a b c) in
        omega arith

    same : (a b c : ℕ) → f a b c ≡ g a b c
    same a b c = up_to (a + b + c) a b c (omega arith) (omega arith) (omega arith)

-- the same for two numbers; `left` and `right` nest two of these operations
record Bitwise (f : ℕ → ℕ → ℕ) : Type 0 where
  half : (a b : ℕ) → f a b / 2 ≡ f (a / 2) (b / 2)
  last : (a b : ℕ) → f a b % 2 ≡ f (a % 2) (b % 2)

ands : Bitwise bit_and
ands = record { half = λ a b. and_shr a b 1; last = λ a b. and_mod a b 1 }

ors : Bitwise bit_or
ors = record { half = λ a b. or_shr a b 1; last = λ a b. or_mod a b 1 }

module _ {f g : ℕ → ℕ → ℕ} (x : Bitwise f) (y : Bitwise g) where
  left : Digitwise (λ a b c. f (g a b) c)
  left = record {
    half = λ a b c. x.half (g a b) c ∙ ap (λ (n : ℕ). f n (c / 2)) (y.half a b);
    last = λ a b c. x.last (g a b) c ∙ ap (λ (n : ℕ). f n (c % 2)) (y.last a b);
  }

  right : Digitwise (λ a b c. f a (g b c))
  right = record {
    half = λ a b c. x.half a (g b c) ∙ ap (f (a / 2)) (y.half b c);
    last = λ a b c. x.last a (g b c) ∙ ap (f (a % 2)) (y.last b c);
  }

and_or : Digitwise (λ a b c. bit_or (bit_and a c) (bit_and b c))
and_or = record {
  half = λ a b c. or_shr (bit_and a c) (bit_and b c) 1 ∙ (rw (and_shr a c 1, and_shr b c 1));
  last = λ a b c. or_mod (bit_and a c) (bit_and b c) 1 ∙ (rw (and_mod a c 1, and_mod b c 1));
}

-- a law of three binary digits, from its eight cases
eight : (P : ℕ → ℕ → ℕ → Type 0)
    → P 0 0 0 → P 0 0 1 → P 0 1 0 → P 0 1 1 → P 1 0 0 → P 1 0 1 → P 1 1 0 → P 1 1 1
    → (x y z : ℕ) → x < 2 → y < 2 → z < 2 → P x y z
eight P a b c d e f g h zero zero zero i j k = a
eight P a b c d e f g h zero zero (suc zero) i j k = b
eight P a b c d e f g h zero (suc zero) zero i j k = c
eight P a b c d e f g h zero (suc zero) (suc zero) i j k = d
eight P a b c d e f g h (suc zero) zero zero i j k = e
eight P a b c d e f g h (suc zero) zero (suc zero) i j k = f
eight P a b c d e f g h (suc zero) (suc zero) zero i j k = g
eight P a b c d e f g h (suc zero) (suc zero) (suc zero) i j k = h
eight P a b c d e f g h (suc (suc x)) y z i j k = absurd (omega arith)
eight P a b c d e f g h zero (suc (suc y)) z i j k = absurd (omega arith)
eight P a b c d e f g h (suc zero) (suc (suc y)) z i j k = absurd (omega arith)
eight P a b c d e f g h zero zero (suc (suc z)) i j k = absurd (omega arith)
eight P a b c d e f g h zero (suc zero) (suc (suc z)) i j k = absurd (omega arith)
eight P a b c d e f g h (suc zero) zero (suc (suc z)) i j k = absurd (omega arith)
eight P a b c d e f g h (suc zero) (suc zero) (suc (suc z)) i j k = absurd (omega arith)

pub and_assoc : (a b c : ℕ) → bit_and (bit_and a b) c ≡ bit_and a (bit_and b c)
and_assoc =
    same (λ a b c. bit_and (bit_and a b) c) (λ a b c. bit_and a (bit_and b c)) (left ands ands) (right ands ands)
    (eight (λ a b c. bit_and (bit_and a b) c ≡ bit_and a (bit_and b c)) refl refl refl refl refl refl refl refl)

pub or_assoc : (a b c : ℕ) → bit_or (bit_or a b) c ≡ bit_or a (bit_or b c)
or_assoc =
    same (λ a b c. bit_or (bit_or a b) c) (λ a b c. bit_or a (bit_or b c)) (left ors ors) (right ors ors)
    (eight (λ a b c. bit_or (bit_or a b) c ≡ bit_or a (bit_or b c)) refl refl refl refl refl refl refl refl)

pub and_or_distrib : (a b c : ℕ) → bit_and (bit_or a b) c ≡ bit_or (bit_and a c) (bit_and b c)
and_or_distrib =
    same (λ a b c. bit_and (bit_or a b) c) (λ a b c. bit_or (bit_and a c) (bit_and b c)) (left ands ors) and_or
    (eight (λ a b c. bit_and (bit_or a b) c ≡ bit_or (bit_and a c) (bit_and b c)) refl refl refl refl refl refl refl refl)
