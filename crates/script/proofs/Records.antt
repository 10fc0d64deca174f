-- The records of a script, as a loop reads them one by one; their number, and that they lie within the bytes.
use Prim.Native.Nat.{ℕ, suc, ◌+◌, ◌-◌, ◌*◌, ◌%◌, ◌≤◌, ◌<◌}
use mathlib.Core.Path.{◌≡◌}
use mathlib.Core.Bool.{false, not}
use mathlib.Core.List.{List, [], ◌∷◌}
use native.Mathlib.Numerals.{add-one}
use native.Mathlib.Omega.{arith}
use borrow.Author.Tests.{ltb-false}
use lib.Dec.{eqb}
use lib.ListN.{length}
use Rattle.mask.proofs.Every.{neither}
use Rattle.record.specs.Record.{record_at, record_size}
use Rattle.script.specs.Records.{record_count, records_from}
use Rattle.script.specs.Refusals.{bad_length, script_refusal}
use Rattle.script.proofs.Flat.{accepts}

-- the records from place k on are record k and those from place k + 1 on
pub from_here : (bytes : List ℕ) (count k : ℕ) → k < count
    → records_from (count - k) k bytes ≡ record_at bytes (record_size * k) ∷ records_from (count - (k + 1)) (k + 1) bytes
from_here bytes count k h =
    let e : count - k ≡ suc (count - suc k) = omega arith in
    rw (e, add-one k)

pub after_last_lem : (bytes : List ℕ) (count k : ℕ) → count ≤ k → records_from (count - k) k bytes ≡ []
after_last_lem bytes count k h =
    let e : count - k ≡ 0 = omega arith in
    rw e

pub few_records_lem : (bytes : List ℕ) → bad_length bytes ≡ false → record_count bytes ≤ 1024
few_records_lem bytes h = ltb-false 1024 (record_count bytes) (neither (not (eqb (length bytes % record_size) 0)) _ h).1

-- this number of records is allowed, and they lie within the script
pub record Counted (script : List ℕ) (count : ℕ) : Type 0 where
  pub few : count ≤ 1024
  pub lies : record_size * count ≤ length script

pub counts : (script : List ℕ) (count : ℕ) → count ≡ record_count script → (script_refusal script).number ≡ 0
    → Counted script count
counts script count e h =
    let l = few_records_lem script (accepts script h).length_good in
    record { few = omega arith; lies = omega arith }
