-- At most 16 ends and elses wait at once: as many as there are open blocks around the place, and an accepted script opens no block inside 16.
use Prim.Native.Nat.{ℕ, zero, suc, ◌-◌, ◌*◌, ◌≤◌, ◌<◌}
use mathlib.Core.Path.{◌≡◌, refl, ap}
use mathlib.Core.List.{List, [], ◌∷◌}
use native.Mathlib.Numerals.{add-one}
use native.Mathlib.Omega.{arith}
use lib.ListN.{length}
use Rattle.record.specs.Record.{record_at}
use Rattle.record.specs.declared.Record.{Record}
use Rattle.script.proofs.Flat.{Accepted, Block, over, writes, reads, delays, repeats, tests, elses, ends, accepted, accepts, numbers}
use Rattle.script.proofs.Records.{from_here}
use Rattle.script.specs.Records.{record_count, records_from, records_of}
use Rattle.script.specs.Refusals.{outer, script_refusal}
use Rattle.interpreter.specs.Partners.{partners_from}

outer_length : (n : ℕ) (xs : List ℕ) → length xs ≡ suc n → length (outer xs) ≡ n
outer_length n [] h = absurd (omega (arith, h))
outer_length n (x ∷ xs) h = omega (arith, h)

-- the records from a place on leave one end or else waiting for each block that is open before them
pub as_many : {bs : List Block} {rs : List Record} → Accepted bs rs → (at : ℕ)
    → length (partners_from rs at).closers ≡ length (numbers bs)
as_many over at = refl
as_many (writes w f a) at = as_many a (suc at)
as_many (reads w a) at = as_many a (suc at)
as_many (delays l a) at = as_many a (suc at)
as_many (repeats {v} {bs} {rs} l b r a) at = outer_length (length (numbers bs)) (partners_from rs (suc at)).closers (as_many a (suc at))
as_many (tests {w} {p} {v} {bs} {rs} i f b a) at =
    outer_length (length (numbers bs)) (partners_from rs (suc at)).closers (as_many a (suc at))
as_many (elses {bs} {rs} a) at =
    ap suc (outer_length (length (numbers bs)) (partners_from rs (suc at)).closers (as_many a (suc at)))
as_many (ends a) at = ap suc (as_many a (suc at))

-- one waits for the first record if that opens or parts a block
abbrev Opens : List Record → ℕ → Type 0
Opens [] at = Unit {0}
Opens (r ∷ rs) at = 3 < r.kind → (r.kind ≡ 7 → ⊥) → 0 < length (partners_from rs (suc at)).closers

opens : {bs : List Block} {rs : List Record} → Accepted bs rs → (at : ℕ) → Opens rs at
opens over at = tt
opens (writes w f a) at = λ l n. absurd (omega (arith, l))
opens (reads w a) at = λ l n. absurd (omega (arith, l))
opens (delays m a) at = λ l n. absurd (omega (arith, l))
opens (repeats m b r a) at = λ l n. omega (arith, as_many a (suc at))
opens (tests w f b a) at = λ l n. omega (arith, as_many a (suc at))
opens (elses a) at = λ l n. omega (arith, as_many a (suc at))
opens (ends a) at = λ l n. absurd (n refl)

-- and it has one of the seven kinds
abbrev Known : List Record → Type 0
Known [] = Unit {0}
Known (r ∷ rs) = (1 ≤ r.kind) × (r.kind ≤ 7)

known : {bs : List Block} {rs : List Record} → Accepted bs rs → Known rs
known over = tt
known (writes w f a) = (omega arith, omega arith)
known (reads w a) = (omega arith, omega arith)
known (delays m a) = (omega arith, omega arith)
known (repeats m b r a) = (omega arith, omega arith)
known (tests w f b a) = (omega arith, omega arith)
known (elses a) = (omega arith, omega arith)
known (ends a) = (omega arith, omega arith)

-- a list of records that is accepted inside at most 16 open blocks
record Within (rs : List Record) : Type 0 where
  blocks : List Block
  accepted : Accepted blocks rs
  few : length (numbers blocks) ≤ 16

-- and so are the records after its first
abbrev Rest : List Record → Type 0
Rest [] = Unit {0}
Rest (r ∷ rs) = Within rs

rest : {bs : List Block} {rs : List Record} → Accepted bs rs → length (numbers bs) ≤ 16 → Rest rs
rest over l = tt
rest (writes w f a) l = record { blocks = _; accepted = a; few = l }
rest (reads w a) l = record { blocks = _; accepted = a; few = l }
rest (delays m a) l = record { blocks = _; accepted = a; few = l }
rest (repeats m b r a) l = record { blocks = _; accepted = a; few = omega (arith, b) }
rest (tests w f b a) l = record { blocks = _; accepted = a; few = omega (arith, b) }
rest (elses a) l = record { blocks = _; accepted = a; few = omega (arith, l) }
rest (ends a) l = record { blocks = _; accepted = a; few = omega (arith, l) }

module _ (script : List ℕ) (h : (script_refusal script).number ≡ 0) where
  -- the records from any place on
  within : (k : ℕ) → k ≤ record_count script → Within (records_from (record_count script - k) k script)
  unfolding records_of
  within zero l =
      let z : record_count script - 0 ≡ record_count script = omega arith in
      record { blocks = []; accepted = rw z (accepted (records_of script) [] 0 (accepts script h).faultless); few = omega arith }
  within (suc k) l =
      let i = within k (omega arith) in
      let next = rest i.accepted i.few in
      rw (from_here script (record_count script) k (omega arith), add-one k) at next

  -- at most 16 wait before any place
  pub few_waiting : (k : ℕ) → k ≤ record_count script
      → length (partners_from (records_from (record_count script - k) k script) k).closers ≤ 16
  few_waiting k l = let i = within k l in omega (arith, i.few, as_many i.accepted k)

  -- and one waits for each record that opens or parts a block
  pub some_waiting : (k : ℕ) → k < record_count script → 3 < (record_at script (12 * k)).kind → ((record_at script (12 * k)).kind ≡ 7 → ⊥)
      → 0 < length (partners_from (records_from (record_count script - suc k) (suc k) script) (suc k)).closers
  some_waiting k l =
      let i = opens (within k (omega arith)).accepted k in
      rw (from_here script (record_count script) k l, add-one k) at i

  -- and each record has one of the seven kinds
  pub kind_known : (k : ℕ) → k < record_count script
      → (1 ≤ (record_at script (12 * k)).kind) × ((record_at script (12 * k)).kind ≤ 7)
  kind_known k l =
      let i = known (within k (omega arith)).accepted in
      rw (from_here script (record_count script) k l) at i
