-- A stack in the front of an array: the first n elements, with the last of them on top. The loop counters of the sequencer are stored in
-- this way, and the open blocks of a script in an `ArrayStack`.
use Rattle.std.specs.Prelude.{ℕ, zero, suc, List, [], ◌∷◌, get_or, reverse, take}

-- the stack as a list, top first
abbrev pub stack_of : ℕ → List ℕ → List ℕ
stack_of zero xs = []
stack_of (suc n) xs = get_or xs n 0 ∷ stack_of n xs

-- the same for elements of any type: how clauses see an `ArrayStack`
abbrev pub top_first : {A : Type 0} → ℕ → List A → List A
top_first depth items = reverse (take depth items)
