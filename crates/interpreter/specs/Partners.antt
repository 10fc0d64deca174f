-- The table of partners: for each record that opens, parts or closes a block, the place where the walk continues if it does not go on with
-- the next record. Only contracts and proofs inside this crate use this file.
use Rattle.std.specs.Prelude.{ℕ, suc, ◌<◌, ◌≡◌, cond, List, [], ◌∷◌, eqb, leb, length, replicate, set}
use Rattle.record.specs.Record.{most_records}
use Rattle.record.specs.declared.Record.{Record}
use Rattle.script.specs.Kind as kind
use Rattle.script.specs.Records.{records_of}
use Rattle.script.specs.Refusals.{innermost, most_blocks, outer}

-- the table, and the places of the ends and elses whose blocks are opened by an earlier record, innermost first
pub record Partners : Type 0 where
  pub table : List ℕ
  pub closers : List ℕ

abbrev pub partners : List ℕ → List ℕ → Partners
partners table closers = record { table = table; closers = closers }

-- adds the record at a place to the table of the records after it. An end waits for the record that opens its block, and keeps 0 if that is
-- an if. An else continues after the end of its if. A repeat continues after its end, and its end at its body. An if continues after its else
-- or end
abbrev pub with_record : (kind place : ℕ) → Partners → Partners
with_record k at p =
    let after = set p.table at (suc (innermost p.closers)) in
    cond (eqb k kind.end) (partners p.table (at ∷ p.closers))
    (cond (eqb k kind.else) (partners after (at ∷ outer p.closers))
    (cond (eqb k kind.repeat) (partners (set after (innermost p.closers) (suc at)) (outer p.closers))
    (partners after (outer p.closers))))

-- the same for a record of any kind; a write, a read and a delay have no entry
abbrev pub added : (kind place : ℕ) → Partners → Partners
added k at p = cond (leb k kind.delay) p (with_record k at p)

-- the table of a list of records, the first of which is at a place
abbrev pub partners_from : List Record → ℕ → Partners
partners_from [] at = partners (replicate most_records 0) []
partners_from (r ∷ rs) at = added r.kind at (partners_from rs (suc at))

unfoldable pub script_partners : List ℕ → List ℕ
script_partners script = (partners_from (records_of script) 0).table

-- ---- the code
-- the waiting ends and elses are at places of records
abbrev pub ArePlaces : List ℕ → Type 0
ArePlaces [] = Unit {0}
ArePlaces (c ∷ cs) = (c < most_records) × ArePlaces cs

-- a record of this kind can be added while these ends and elses wait: there is room for an end, and every other record that opens or parts a
-- block finds one
pub record RoomFor (k : ℕ) (closers : List ℕ) : Type 0 where
  pub places : ArePlaces closers
  pub fewer : k ≡ kind.end → length closers < most_blocks
  pub some : kind.delay < k → (k ≡ kind.end → ⊥) → 0 < length closers
