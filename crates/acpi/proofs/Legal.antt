-- What follows for a number that passes a test of the ACPI block, and facts about SCI, SMI and the timer that several proofs use.
use Rattle.std.proofs.Common.{◌≡◌, ℕ, suc, ◌+◌, ◌*◌, ◌%◌, ◌^◌, ◌<◌, ◌≤◌, Bool, true, false, not, ◌&&◌, ◌||◌, eqb, leb, ◌⊎◌, refl, ◌∙◌, inl, inr, ⊎_elim, mod-eq_of_lt, one-mul, arith, eqb-true, le-leb, leb-true}
use mathlib.Core.Bool.{and-false}
use borrow.Author.Tests.{lt-leb}
use lib.Bits.{bit_and}
use lib.Pow.{pow-lt}
use Rattle.mask.proofs.Every.{and_both, and_left, and_right}
use Rattle.acpi.specs.Event.{timer_size}
use Rattle.acpi.specs.Map.{legal_map, legal_target, map_max, map_reserved}
use Rattle.acpi.specs.Settle.{pending, sci_on, smi_on}
use Rattle.acpi.specs.Setup.{is_map_index, is_setup_index}
use Rattle.acpi.specs.SetupIndex as index
use Rattle.acpi.specs.declared.Acpi.{Acpi}

or_cases : (a b : Bool) → (a || b) ≡ true → (a ≡ true) ⊎ (b ≡ true)
or_cases true b e = inl refl
or_cases false b e = inr e

-- a range pattern of a `match`, as the code tests it
pub between : (lo hi x : ℕ) → lo ≤ x → x < suc hi → (leb lo x && leb x hi) ≡ true
between lo hi x l h = and_both (leb lo x) (leb x hi) (le-leb lo x l) (le-leb x hi (omega arith))

pub outside : (lo hi x : ℕ) → (x < lo) ⊎ (suc hi ≤ x) → (leb lo x && leb x hi) ≡ false
outside lo hi x (inl l) = rw (lt-leb lo x l)
outside lo hi x (inr h) = rw (lt-leb x hi (omega arith)) (and-false (leb lo x))

pub setup_index : (i : ℕ) → is_setup_index i ≡ true → i ≤ index.irq
setup_index i h =
    ⊎_elim
    (λ r. ⊎_elim
    (λ s. ⊎_elim (λ z. let e = eqb-true i index.none z in omega arith)
    (λ m. let b = leb-true i index.last_map (and_right (leb index.first_map i) (leb i index.last_map) m) in omega arith)
    (or_cases (eqb i index.none) (is_map_index i) s))
    (λ x. let e = eqb-true i index.global_event x in omega arith)
    (or_cases (eqb i index.none || is_map_index i) (eqb i index.global_event) r))
    (λ y. let e = eqb-true i index.irq y in omega arith)
    (or_cases (eqb i index.none || is_map_index i || eqb i index.global_event) (eqb i index.irq) h)

pub legal_map_lem : (v : ℕ) → legal_map v ≡ true → v ≤ map_max
unfolding legal_map
legal_map_lem v h =
    let zeros = eqb (bit_and v map_reserved) 0 in
    leb-true v map_max (and_left (leb v map_max) zeros (and_left (leb v map_max && zeros) (legal_target (v % 256)) h))

-- SCI or SMI is on exactly if a status bit is pending
pub either : (a : Acpi) → (sci_on a || smi_on a) ≡ pending a
unfolding sci_on smi_on
either a = pick (pending a) a.scien
  where
    pick : (p s : Bool) → (p && s || p && not s) ≡ p
    pick true true = refl
    pick true false = refl
    pick false s = refl

-- a sum that wraps at 32 bits has the same remainder by 2^24
pub remainder : (t n s : ℕ) → s ≡ (t + n) % 2 ^ 32 → s % timer_size ≡ (t + n) % timer_size
remainder t n s h = omega arith

-- a single bit below bit 16 fits 16 bits
pub one_bit : (k : ℕ) → k < 16 → (1 * 2 ^ k) % 2 ^ 16 ≡ 2 ^ k
one_bit k h = mod-eq_of_lt (rw one-mul (pow-lt h)) ∙ one-mul (2 ^ k)
