-- Parts of a list of bytes: a list that was joined to others is found again at its start, and parts cut
-- one after the other make up the whole list.
use Prim.Native.Nat.{ℕ, zero, suc, ◌+◌, ◌<◌, ◌≤◌}
use mathlib.Core.Path.{◌≡◌, sym, ap, ◌∙◌}
use mathlib.Core.List.{List, [], ◌∷◌, ◌++◌}
use native.Mathlib.Omega.{arith}
use lib.ListN.{drop, get_or, length, length-drop, take, take-append-drop}
use lib.Seq.{drop_at, drop-drop, length-take-le, take_all, take_at}
use Rattle.state.specs.State.{part}

-- the first of two joined lists
pub front_part : (p rest : List ℕ) (n : ℕ) → length p ≡ n → part 0 n (p ++ rest) ≡ p
front_part p rest n e = take_at p rest n e

-- a part of the second of two joined lists starts later, by the length of the first
pub later_part : (p rest : List ℕ) (n start size : ℕ) → length p ≡ n → part (n + start) size (p ++ rest) ≡ part start size rest
later_part p rest n start size e =
    ap (take size) (sym (drop-drop start n (p ++ rest)) ∙ ap (drop start) (drop_at p rest n e))

-- a part as long as the list is the whole list
pub whole_part : (p : List ℕ) (n : ℕ) → length p ≡ n → part 0 n p ≡ p
whole_part p n e = take_all n p (omega arith)

pub part_length : (start size : ℕ) (bytes : List ℕ) → start + size ≤ length bytes → length (part start size bytes) ≡ size
part_length start size bytes h = let l = length-drop start bytes in length-take-le size (drop start bytes) (omega (arith, l))

-- a part, joined with what follows it
pub cut : (start size : ℕ) (bytes : List ℕ) → part start size bytes ++ drop (start + size) bytes ≡ drop start bytes
cut start size bytes =
    ap (λ (l : List ℕ). part start size bytes ++ l) (sym (drop-drop size start bytes)) ∙ take-append-drop size (drop start bytes)

-- if all elements of a list are bytes, so are all elements of a part
take_below : (n : ℕ) (xs : List ℕ) → ((k : ℕ) → get_or xs k 0 < 256) → (k : ℕ) → get_or (take n xs) k 0 < 256
take_below zero xs h k = omega arith
take_below (suc n) [] h k = omega arith
take_below (suc n) (x ∷ xs) h zero = h 0
take_below (suc n) (x ∷ xs) h (suc k) = take_below n xs (λ j. h (suc j)) k

drop_below : (n : ℕ) (xs : List ℕ) → ((k : ℕ) → get_or xs k 0 < 256) → (k : ℕ) → get_or (drop n xs) k 0 < 256
drop_below zero xs h k = h k
drop_below (suc n) [] h k = omega arith
drop_below (suc n) (x ∷ xs) h k = drop_below n xs (λ j. h (suc j)) k

pub part_bytes :
    (start size : ℕ) (bytes : List ℕ) → ((k : ℕ) → get_or bytes k 0 < 256) → (k : ℕ) → get_or (part start size bytes) k 0 < 256
part_bytes start size bytes h = take_below size (drop start bytes) (drop_below start bytes h)
