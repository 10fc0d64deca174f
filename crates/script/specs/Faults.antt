-- Which records of a list have which of the faults 2 to 6. The laws about single refusals use it. See docs/CHIP.md, "Refusals".
use Rattle.std.specs.Prelude.{ℕ, zero, suc, ◌*◌, ◌%◌, ◌≤◌, ◌<◌, ◌≡◌, Bool, true, false, cond, not, ◌&&◌, ◌||◌, List, [], ◌∷◌, eqb, leb, length}
use Rattle.lists.specs.Tests.{holds_at}
use Rattle.record.specs.declared.Record.{Record}
use Rattle.script.specs.Refusals.{innermost, outer, repeats_in}

-- whole records, and at most 1,024 of them
abbrev pub GoodLength : List ℕ → Type 0
GoodLength script = (length script % 12 ≡ 0) × (length script ≤ 12 * 1024)

-- ---- the faults of a record, written out from the table of refusals and not taken from the definitions of the compiler
-- 2: the mark is not 5Ah A5h
abbrev pub mark_wrong : Record → Bool
mark_wrong r = not (eqb r.mark 0xA55A)

-- 3: the kind is not 1 to 7
abbrev pub kind_wrong : Record → Bool
kind_wrong r = not (leb 1 r.kind && leb r.kind 7)

-- 4: write (1) and if (5) have a width and a value that fits it, read (2) a width, delay (3) and repeat (4) a count up to 65,535; every
-- other field is 0
abbrev pub fields_right : Record → Bool
fields_right r =
    eqb r.target 0
    && cond (eqb r.kind 1 || eqb r.kind 5)
    ((eqb r.width 1 || (eqb r.width 2 || eqb r.width 4))
    && leb r.value (cond (eqb r.width 1) 255 (cond (eqb r.width 2) 65535 4294967295)))
    (cond (eqb r.kind 2) ((eqb r.width 1 || (eqb r.width 2 || eqb r.width 4)) && eqb r.value 0)
    (cond (eqb r.kind 3 || eqb r.kind 4) (eqb r.width 0 && (eqb r.port 0 && leb r.value 65535))
    (eqb r.width 0 && (eqb r.port 0 && eqb r.value 0))))

-- 5: an else (6) whose innermost open block is not an if without an else, or an end (7) with no open block
abbrev pub wrong_place : List ℕ → ℕ → Bool
wrong_place blocks kind = (eqb kind 6 && not (eqb (innermost blocks) 5)) || (eqb kind 7 && eqb (innermost blocks) 0)

-- 6: a repeat (4) or an if (5) inside 16 open blocks, or a repeat inside 8 open repeats
abbrev pub nested_too_deep : List ℕ → ℕ → Bool
nested_too_deep blocks kind =
    ((eqb kind 4 || eqb kind 5) && leb 16 (length blocks)) || (eqb kind 4 && leb 8 (repeats_in blocks))

-- the blocks that are open after a record of this kind, innermost first: 4 a repeat, 5 an if without an else, 6 an if after its else
abbrev pub blocks_after : List ℕ → ℕ → List ℕ
blocks_after blocks kind =
    cond (eqb kind 4) (4 ∷ blocks)
    (cond (eqb kind 5) (5 ∷ blocks)
    (cond (eqb kind 6) (6 ∷ outer blocks) (cond (eqb kind 7) (outer blocks) blocks)))

-- the faults 2, 3, 4, 5 and 6 of a record inside these open blocks
abbrev pub faults : List ℕ → Record → List Bool
faults blocks r =
    mark_wrong r ∷ kind_wrong r ∷ not (fields_right r) ∷ wrong_place blocks r.kind ∷ nested_too_deep blocks r.kind ∷ []

-- whether it has the fault with this number; `holds_at` counts from 1, and fault 2 is the first of the list
abbrev pub has_fault : ℕ → List ℕ → Record → Bool
has_fault zero blocks r = false
has_fault (suc n) blocks r = holds_at (faults blocks r) n

-- whether record k of a list has fault n; the blocks are those that are open before the list
abbrev pub fault_at : ℕ → List ℕ → List Record → ℕ → Bool
fault_at n blocks [] k = false
fault_at n blocks (r ∷ rs) zero = has_fault n blocks r
fault_at n blocks (r ∷ rs) (suc k) = fault_at n (blocks_after blocks r.kind) rs k

-- record k has fault n and none with a lower number, and no earlier record has a fault
pub record FirstFaultAt (n : ℕ) (blocks : List ℕ) (rs : List Record) (k : ℕ) : Type 0 where
  pub has : fault_at n blocks rs k ≡ true
  pub least : (m : ℕ) → m < n → fault_at m blocks rs k ≡ false
  pub earliest : (m j : ℕ) → j < k → fault_at m blocks rs j ≡ false

-- no record has a fault
abbrev pub NoFault : List ℕ → List Record → Type 0
NoFault blocks rs = (n k : ℕ) → fault_at n blocks rs k ≡ false

-- the blocks that are open after a list
abbrev pub open_at_end : List ℕ → List Record → List ℕ
open_at_end blocks [] = blocks
open_at_end blocks (r ∷ rs) = open_at_end (blocks_after blocks r.kind) rs
