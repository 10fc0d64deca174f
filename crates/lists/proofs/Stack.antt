-- Laws of `stack_of`: a store at place n is a push, and a store at place n - 1 replaces the top. Then the same laws for an array
-- that starts with a stack, bottom first.
use Prim.Native.Nat.{ℕ, zero, suc, ◌+◌, ◌-◌, ◌≤◌, ◌<◌}
use mathlib.Core.Path.{◌≡◌, refl, sym, ap, ◌∙◌}
use mathlib.Core.List.{List, [], ◌∷◌, ◌++◌, reverse, reverse_aux-eq}
use native.Mathlib.Numerals.{add-one}
use native.Mathlib.Omega.{arith}
use lib.ListN.{length, get_or, set, length-reverse}
use lib.Seq.{get_or_at, get_or-set_same, get_or-set_other, set_at}
use Rattle.lists.specs.Slice.{slice}
use Rattle.lists.specs.Stack.{stack_of}

pub stack_length : (n : ℕ) (xs : List ℕ) → length (stack_of n xs) ≡ n
stack_length zero xs = refl
stack_length (suc n) xs = ap suc (stack_length n xs)

-- a store at place n or after it does not change the stack
pub stack_store : (n : ℕ) (xs : List ℕ) (i v : ℕ) → n ≤ i → stack_of n (set xs i v) ≡ stack_of n xs
stack_store zero xs i v h = refl
stack_store (suc n) xs i v h =
    ap (λ (x : ℕ). x ∷ stack_of n (set xs i v)) (get_or-set_other xs i n v 0 (omega arith))
    ∙ ap (◌∷◌ (get_or xs n 0)) (stack_store n xs i v (omega arith))

pub stack_push : (n : ℕ) (xs : List ℕ) (v : ℕ) → n < length xs → stack_of (n + 1) (set xs n v) ≡ v ∷ stack_of n xs
stack_push n xs v h =
    rw add-one
    (ap (λ (x : ℕ). x ∷ stack_of n (set xs n v)) (get_or-set_same xs n v 0 h)
    ∙ ap (◌∷◌ v) (stack_store n xs n v (omega arith)))

pub stack_top : (n : ℕ) (xs : List ℕ) → 0 < n → stack_of n xs ≡ get_or xs (n - 1) 0 ∷ stack_of (n - 1) xs
stack_top zero xs h = absurd (omega arith)
stack_top (suc n) xs h =
    let e : suc n - 1 ≡ n = omega arith in
    rw e

pub stack_set_top :
    (n : ℕ) (xs : List ℕ) (v : ℕ) → 0 < n → n ≤ length xs → stack_of n (set xs (n - 1) v) ≡ v ∷ stack_of (n - 1) xs
stack_set_top n xs v h l =
    stack_top n (set xs (n - 1) v) h
    ∙ ap (λ (x : ℕ). x ∷ stack_of (n - 1) (set xs (n - 1) v)) (get_or-set_same xs (n - 1) v 0 (omega arith))
    ∙ ap (◌∷◌ v) (stack_store (n - 1) xs (n - 1) v (omega arith))

-- ---- an array that starts with a stack, bottom first: the top is the last element before the rest
pub array_top : (c : ℕ) (cs rest : List ℕ) → reverse (c ∷ cs) ++ rest ≡ reverse cs ++ (c ∷ rest)
array_top c cs rest = sym (reverse_aux-eq (c ∷ cs) rest) ∙ reverse_aux-eq cs (c ∷ rest)

pub array_push : (cs rest : List ℕ) (x v : ℕ) → set (reverse cs ++ (x ∷ rest)) (length cs) v ≡ reverse (v ∷ cs) ++ rest
array_push cs rest x v = set_at (reverse cs) x rest v (length cs) (length-reverse cs) ∙ sym (array_top v cs rest)

pub array_set_top : (c : ℕ) (cs rest : List ℕ) (v : ℕ) → set (reverse (c ∷ cs) ++ rest) (length cs) v ≡ reverse (v ∷ cs) ++ rest
array_set_top c cs rest v = rw (array_top c cs rest) (array_push cs rest c v)

-- from a stack to an array and back, and from an array to a stack and back
pub stack_array : (cs rest : List ℕ) → stack_of (length cs) (reverse cs ++ rest) ≡ cs
stack_array [] rest = refl
stack_array (c ∷ cs) rest =
    rw (array_top c cs rest, get_or_at (reverse cs) c rest 0 (length cs) (length-reverse cs), stack_array cs (c ∷ rest))

pub array_stack : (n k : ℕ) (xs : List ℕ) → reverse (stack_of n xs) ++ slice 0 k n xs ≡ slice 0 (n + k) 0 xs
array_stack zero k xs =
    let e : 0 + k ≡ k = omega arith in
    rw e
array_stack (suc n) k xs =
    let e : suc n + k ≡ n + suc k = omega arith in
    rw e (array_top (get_or xs n 0) (stack_of n xs) (slice 0 k (suc n) xs) ∙ array_stack n (suc k) xs)
