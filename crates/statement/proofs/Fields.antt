-- The fields of a record that fits are small, so numbers that stop at 2^32 decide whether it does.
use Prim.Native.Nat.{ℕ, ◌≤◌, ◌<◌}
use mathlib.Core.Logic.{◌⊎◌, inl, inr}
use mathlib.Core.Path.{◌≡◌, refl, sym, ◌∙◌}
use mathlib.Core.Bool.{Bool, true, false, cond, false≢true, true≢false, not, ◌&&◌, ◌||◌}
use mathlib.Core.List.{[], ◌∷◌}
use native.Mathlib.Omega.{arith}
use borrow.Author.Tests.{eqb-true, le-leb, leb-true}
use lib.Dec.{eqb, leb}
use Rattle.mask.proofs.Every.{both}
use Rattle.outcome.specs.Number as number
use Rattle.record.specs.declared.Record.{Record}
use Rattle.script.proofs.Flat.{count_fields_lem}
use Rattle.script.specs.Kind as kind
use Rattle.script.specs.Nested.{script_record}
use Rattle.script.specs.Refusals.{good_fields}
use Rattle.width.specs.Width.{all_ones, is_width}
use Rattle.statement.specs.Line.{capped, fits_fields, found_in, most_port, record_with, refused, result_of, too_big}
use Rattle.statement.proofs.Stopped.{capped_cases}

-- the numbers of a record that fits
pub record Small (w p v : ℕ) : Type 0 where
  pub width : w < too_big
  pub port : p ≤ most_port
  pub value : v < too_big

width_small : (w : ℕ) → is_width w ≡ true → w ≤ 4
width_small w h = pick (eqb w 1) (eqb w 2) (eqb w 4) refl refl refl h
  where
    pick : (a b c : Bool) → eqb w 1 ≡ a → eqb w 2 ≡ b → eqb w 4 ≡ c → (a || (b || c)) ≡ true → w ≤ 4
    pick true b c p q r h = omega (arith, eqb-true w 1 p)
    pick false true c p q r h = omega (arith, eqb-true w 2 q)
    pick false false true p q r h = omega (arith, eqb-true w 4 r)
    pick false false false p q r h = absurd (true≢false (sym h))

ones_small : (w : ℕ) → all_ones w < too_big
ones_small w = pick (eqb w 1) (eqb w 2)
  where
    pick : (a b : Bool) → cond a 0xFF (cond b 0xFFFF 0xFFFF_FFFF) < too_big
    pick true b = omega arith
    pick false true = omega arith
    pick false false = omega arith

not_not : (b : Bool) → not (not b) ≡ true → b ≡ true
not_not true e = refl
not_not false e = e

pub fits_small : (k w p v : ℕ) → fits_fields (script_record k w p v) ≡ true → Small w p v
fits_small k w p v h =
    let f = both (leb p most_port) (not (not (good_fields (script_record k w p v)))) h in
    let g = both true _ (not_not (good_fields (script_record k w p v)) f.1) in
    let n = numbers (eqb k kind.write || eqb k kind.if) (eqb k kind.read) (eqb k kind.delay || eqb k kind.repeat) g.1 in
    record { width = n.0; port = leb-true p most_port f.0; value = n.1 }
  where
    -- by kind: a value of the width, only a width, only a count, nothing
    numbers : (a b c : Bool)
        → cond a (is_width w && leb v (all_ones w))
        (cond b (is_width w && eqb v 0) (cond c (eqb w 0 && (eqb p 0 && leb v 65535)) (eqb w 0 && (eqb p 0 && eqb v 0)))) ≡ true
        → (w < too_big) × (v < too_big)
    numbers true b c e =
        let f = both (is_width w) (leb v (all_ones w)) e in
        let l = leb-true v (all_ones w) f.1 in
        let m = ones_small w in
        let n = width_small w f.0 in
        (omega (arith, n), omega (arith, l, m))
    numbers false true c e =
        let f = both (is_width w) (eqb v 0) e in
        let n = width_small w f.0 in
        (omega (arith, n), omega (arith, eqb-true v 0 f.1))
    numbers false false true e =
        let f = count_fields_lem w p v e in
        (omega (arith, f.0), omega (arith, f.2))
    numbers false false false e =
        let f = both (eqb w 0) (eqb p 0 && eqb v 0) e in
        let g = both (eqb p 0) (eqb v 0) f.1 in
        (omega (arith, eqb-true w 0 f.0), omega (arith, eqb-true v 0 g.1))

-- ---- the result for a record
pub does_not_fit : (r : Record) → (fits_fields r ≡ true → ⊥) → refused number.number_too_big ≡ result_of r
unfolding result_of
does_not_fit r n = pick (fits_fields r) refl
  where
    pick : (b : Bool) → fits_fields r ≡ b → refused number.number_too_big ≡ cond b (found_in (r ∷ [])) (refused number.number_too_big)
    pick true e = absurd (n e)
    pick false e = refl

pub does_fit : (r : Record) → fits_fields r ≡ true → found_in (r ∷ []) ≡ result_of r
unfolding result_of
does_fit r e = rw e

-- the test of the fields decides, if the port fits
pub fits_good : (r : Record) → r.port ≤ most_port → good_fields r ≡ fits_fields r
fits_good r l = rw (le-leb r.port most_port l) (pick (good_fields r))
  where
    pick : (b : Bool) → b ≡ not (not b)
    pick true = refl
    pick false = refl

pub fits_not : (r : Record) → (fits_fields r ≡ true → ⊥) → false ≡ fits_fields r
fits_not r n = pick (fits_fields r) refl
  where
    pick : (b : Bool) → fits_fields r ≡ b → false ≡ b
    pick true e = absurd (n e)
    pick false e = refl

pub good_needed : (r : Record) → fits_fields r ≡ true → good_fields r ≡ true
good_needed r h = not_not (good_fields r) (both (leb r.port most_port) (not (not (good_fields r))) h).1

-- ---- stopped numbers
stopped : (n : ℕ) → n < too_big → capped n ≡ n
stopped n h = pick (capped_cases n)
  where
    pick : (capped n ≡ n) ⊎ ((capped n ≡ too_big) × (too_big ≤ n)) → capped n ≡ n
    pick (inl e) = e
    pick (inr e) = absurd (omega (arith, h, e.1))

not_stopped : (n : ℕ) → capped n < too_big → capped n ≡ n
not_stopped n h = pick (capped_cases n)
  where
    pick : (capped n ≡ n) ⊎ ((capped n ≡ too_big) × (too_big ≤ n)) → capped n ≡ n
    pick (inl e) = e
    pick (inr e) = absurd (omega (arith, h, e.0))

stop_record : (k w p v : ℕ) → result_of (script_record k (capped w) (capped p) (capped v)) ≡ result_of (script_record k w p v)
stop_record k w p v =
    pick (fits_fields (script_record k (capped w) (capped p) (capped v))) (fits_fields (script_record k w p v)) refl refl
  where
    same : capped w ≡ w → capped p ≡ p → capped v ≡ v
        → result_of (script_record k (capped w) (capped p) (capped v)) ≡ result_of (script_record k w p v)
    same a b c = rw (a, b, c)

    pick : (a b : Bool) → fits_fields (script_record k (capped w) (capped p) (capped v)) ≡ a → fits_fields (script_record k w p v) ≡ b
        → result_of (script_record k (capped w) (capped p) (capped v)) ≡ result_of (script_record k w p v)
    pick true b e f =
        let s = fits_small k (capped w) (capped p) (capped v) e in
        same (not_stopped w s.width) (not_stopped p (omega (arith, s.port))) (not_stopped v s.value)
    pick false true e f =
        let s = fits_small k w p v f in
        same (stopped w s.width) (stopped p (omega (arith, s.port))) (stopped v s.value)
    pick false false e f =
        sym (does_not_fit (script_record k (capped w) (capped p) (capped v)) (λ t. false≢true (sym e ∙ t)))
        ∙ does_not_fit (script_record k w p v) (λ t. false≢true (sym f ∙ t))

pub stop_operands : (k a b c : ℕ)
    → result_of (record_with k (capped a ∷ capped b ∷ capped c ∷ [])) ≡ result_of (record_with k (a ∷ b ∷ c ∷ []))
stop_operands k a b c = pick (eqb k kind.delay || eqb k kind.repeat)
  where
    pick : (t : Bool)
        → result_of (cond t (script_record k 0 0 (capped a)) (script_record k (capped a) (capped b) (capped c)))
        ≡ result_of (cond t (script_record k 0 0 a) (script_record k a b c))
    pick true =
        let z : capped 0 ≡ 0 = stopped 0 (omega arith) in
        (rw z at (stop_record k 0 0 a))
    pick false = stop_record k a b c
