-- Laws of the monitor table: an entry of a constant array is the entry of the table, each reset value is within its mask, and
-- each stored register has its own place.
use Prim.Native.Nat.{ℕ, zero, suc, ◌+◌, ◌≤◌, ◌<◌}
use mathlib.Core.Path.{◌≡◌, refl, sym, ap, ◌∙◌}
use mathlib.Core.Bool.{Bool, true, ◌&&◌, ◌||◌, and-false}
use mathlib.Core.List.{List, [], ◌∷◌, map}
use native.Mathlib.Decide.{dec_lt}
use native.Mathlib.Omega.{arith}
use native.Mathlib.Nat.{add-zero, zero-add, suc-add, add-suc}
use borrow.Author.Tests.{eqb-true, lt-leb, ltb-true}
use lib.Dec.{eqb, leb, ltb}
use lib.ListN.{get_or, length}
use Rattle.mask.proofs.Every.{all_at, and_left, and_right}
use Rattle.mask.specs.Every.{all_below}
use Rattle.mask.specs.Mask.{within}
use Rattle.monitor.specs.Table.{Row, absent, kind_of, mask_of, read_only, reset_of, row_in, slot_of, stored_indices, table}

-- ---- the values of f at i, i + 1 and so on, n of them: a constant array has to be this list
abbrev tabulate : (ℕ → ℕ) → ℕ → ℕ → List ℕ
tabulate f i zero = []
tabulate f i (suc n) = f i ∷ tabulate f (suc i) n

from : (f : ℕ → ℕ) (i n k : ℕ) → k < n → get_or (tabulate f i n) k 0 ≡ f (i + k)
from f i zero k h = absurd (omega arith)
from f i (suc n) zero h = ap f (sym (add-zero i))
from f i (suc n) (suc k) h = from f (suc i) n k (omega arith) ∙ ap f (suc-add i k ∙ sym (add-suc i k))

pub entry : (f : ℕ → ℕ) (k : ℕ) → k < 256 → get_or (tabulate f 0 256) k 0 ≡ f k
entry f k h = from f 0 256 k h ∙ ap f (zero-add k)

pub map_at : (f : ℕ → ℕ) (xs : List ℕ) (k : ℕ) → k < length xs → get_or (map f xs) k 0 ≡ f (get_or xs k 0)
map_at f [] k h = absurd (omega arith)
map_at f (x ∷ xs) zero h = refl
map_at f (x ∷ xs) (suc k) h = map_at f xs k (omega arith)

-- ---- each reset value is within its mask: one test, computed for all 256 entries
abbrev reset_within : ℕ → Bool
reset_within i = within (mask_of i) (reset_of i)

resets_within : all_below 256 reset_within ≡ true
resets_within = refl

pub reset_within_lem : (i : ℕ) → i < 256 → within (mask_of i) (reset_of i) ≡ true
reset_within_lem = all_at 256 reset_within resets_within

-- ---- each stored register has its own place: one test, computed for all 256 entries; no row has a larger index
abbrev placed : ℕ → Bool
placed i = leb (kind_of i) read_only || (ltb (slot_of i) 12 && eqb (get_or stored_indices (slot_of i) 0) i)

all_placed : all_below 256 placed ≡ true
all_placed = refl

abbrev low : List Row → Bool
low [] = true
low (r ∷ rs) = ltb r.last 256 && low rs

above : (i : ℕ) (rs : List Row) → 256 ≤ i → low rs ≡ true → (row_in i rs).kind ≡ absent
above i [] h l = refl
above i (r ∷ rs) h l =
    let last = ltb-true r.last 256 (and_left (ltb r.last 256) (low rs) l) in
    rw (lt-leb i r.last (omega arith), and-false (leb r.first i))
    (above i rs h (and_right (ltb r.last 256) (low rs) l))

own_slot : (i : ℕ) → read_only < kind_of i → (ltb (slot_of i) 12 && eqb (get_or stored_indices (slot_of i) 0) i) ≡ true
own_slot i h = pick (dec_lt i 256)
  where
    pick : Dec (i < 256) → (ltb (slot_of i) 12 && eqb (get_or stored_indices (slot_of i) 0) i) ≡ true
    pick (yes l) = rw (lt-leb (kind_of i) read_only h) at (all_at 256 placed all_placed i l)
    pick (no l) = let e = above i table (omega arith) refl in absurd (omega (arith, e, h))

pub slot_below : (i : ℕ) → read_only < kind_of i → slot_of i < 12
slot_below i h =
    ltb-true (slot_of i) 12 (and_left (ltb (slot_of i) 12) (eqb (get_or stored_indices (slot_of i) 0) i) (own_slot i h))

pub stored_at_slot : (i : ℕ) → read_only < kind_of i → get_or stored_indices (slot_of i) 0 ≡ i
stored_at_slot i h =
    eqb-true (get_or stored_indices (slot_of i) 0) i
    (and_right (ltb (slot_of i) 12) (eqb (get_or stored_indices (slot_of i) 0) i) (own_slot i h))
