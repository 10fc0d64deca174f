-- A record without the faults 2, 3 and 4, and with a port that fits, is the record of a statement: its kind is one of seven, and it has the fields
-- of that kind. Its numbers then fit.
use Prim.Native.Nat.{ℕ, zero, suc, ◌≤◌, ◌<◌}
use mathlib.Core.Path.{◌≡◌, refl}
use mathlib.Core.Bool.{Bool, true, false, cond, false≢true, ◌&&◌, ◌||◌}
use mathlib.Core.List.{[], ◌∷◌}
use borrow.Author.Tests.{eqb-true, le-leb, leb-true, not-false}
use lib.Dec.{eqb, leb}
use native.Mathlib.Omega.{arith}
use Rattle.lists.proofs.Tests.{none_from}
use Rattle.record.specs.declared.Record.{Record}
use Rattle.script.specs.Fields.{kind_fields}
use Rattle.script.specs.Nested.{script_record}
use Rattle.script.specs.Refusals.{bad_fields, bad_kind, good_fields, wrong_mark}
use Rattle.script.specs.Scan.{shape_fault}
use Rattle.script.proofs.Flat.{count_fields_lem}
use Rattle.statement.specs.Line.{fits_fields}
use Rattle.mask.proofs.Every.{both}
use Rattle.width.specs.Width.{all_ones, fits_width, is_width}

-- a width, and a value that fits it
pub data Sized : (width value : ℕ) → Type 0 where
  one : {v : ℕ} → v < 0x100 → Sized 1 v
  two : {v : ℕ} → v < 0x1_0000 → Sized 2 v
  four : {v : ℕ} → v < 0x1_0000_0000 → Sized 4 v

-- the record of a statement, by its kind
pub data Shaped : Record → Type 0 where
  write : {w p v : ℕ} → Sized w v → p < 65536 → Shaped (script_record 1 w p v)
  read : {w p : ℕ} → Sized w 0 → p < 65536 → Shaped (script_record 2 w p 0)
  delay : {n : ℕ} → n ≤ 65535 → Shaped (script_record 3 0 0 n)
  repeat : {n : ℕ} → n ≤ 65535 → Shaped (script_record 4 0 0 n)
  if : {w p v : ℕ} → Sized w v → p < 65536 → Shaped (script_record 5 w p v)
  else : Shaped (script_record 6 0 0 0)
  end : Shaped (script_record 7 0 0 0)

sized : (w v : ℕ) → is_width w ≡ true → fits_width w v ≡ true → Sized w v
sized w v h f = pick (eqb w 1) (eqb w 2) (eqb w 4) refl refl refl h f
  where
    pick : (a b c : Bool) → eqb w 1 ≡ a → eqb w 2 ≡ b → eqb w 4 ≡ c → (a || (b || c)) ≡ true
        → leb v (cond a 0xFF (cond b 0xFFFF 0xFFFF_FFFF)) ≡ true → Sized w v
    pick true b c p q r h f = let l = leb-true v 0xFF f in rw (eqb-true w 1 p) (one {v = v} (omega arith))
    pick false true c p q r h f = let l = leb-true v 0xFFFF f in rw (eqb-true w 2 q) (two {v = v} (omega arith))
    pick false false true p q r h f = let l = leb-true v 0xFFFF_FFFF f in rw (eqb-true w 4 r) (four {v = v} (omega arith))
    pick false false false p q r h f = absurd (false≢true h)

-- ---- what holds of a record without a fault
record Passed (r : Record) : Type 0 where
  marked : r.mark ≡ 0xA55A
  least : 1 ≤ r.kind
  most : r.kind ≤ 7
  good : good_fields r ≡ true

passed : (r : Record) → shape_fault r ≡ 0 → Passed r
unfolding shape_fault
passed r h =
    let none = none_from (wrong_mark r ∷ bad_kind r ∷ bad_fields r ∷ []) 2 (omega arith) h in
    let k = both (leb 1 r.kind) (leb r.kind 7) (not-false (leb 1 r.kind && leb r.kind 7) (none 1)) in
    record {
      marked = eqb-true r.mark 0xA55A (not-false (eqb r.mark 0xA55A) (none 0));
      least = leb-true 1 r.kind k.0;
      most = leb-true r.kind 7 k.1;
      good = not-false (good_fields r) (none 2);
    }

pub fits : (r : Record) → shape_fault r ≡ 0 → r.port < 65536 → fits_fields r ≡ true
fits r h p = rw (le-leb r.port 65535 (omega arith), (passed r h).good)

-- a record that uses no field
no_fields_lem : (w p v : ℕ) → (eqb w 0 && (eqb p 0 && eqb v 0)) ≡ true → (w ≡ 0) × (p ≡ 0) × (v ≡ 0)
no_fields_lem w p v h =
    let a = both (eqb w 0) (eqb p 0 && eqb v 0) h in
    let b = both (eqb p 0) (eqb v 0) a.1 in
    (eqb-true w 0 a.0, eqb-true p 0 b.0, eqb-true v 0 b.1)

module _ (w p v : ℕ) (small : p < 65536) where
  -- by the kind
  shaped_as : (k : ℕ) → 1 ≤ k → k ≤ 7 → kind_fields 5 (script_record k w p v) ≡ true → Shaped (script_record k w p v)
  shaped_as zero l m h = absurd (omega arith)
  shaped_as (suc zero) l m h = let f = both (is_width w) (fits_width w v) h in write (sized w v f.0 f.1) small
  shaped_as (suc (suc zero)) l m h =
      let f = both (is_width w) (eqb v 0) h in
      rw (eqb-true v 0 f.1) (read (sized w 0 f.0 (le-leb 0 (all_ones w) (omega arith))) small)
  shaped_as (suc (suc (suc zero))) l m h = let f = count_fields_lem w p v h in rw (f.0, f.1) (delay f.2)
  shaped_as (suc (suc (suc (suc zero)))) l m h = let f = count_fields_lem w p v h in rw (f.0, f.1) (repeat f.2)
  shaped_as (suc (suc (suc (suc (suc zero))))) l m h = let f = both (is_width w) (fits_width w v) h in if (sized w v f.0 f.1) small
  shaped_as (suc (suc (suc (suc (suc (suc zero)))))) l m h = let f = no_fields_lem w p v h in rw (f.0, f.1, f.2) else
  shaped_as (suc (suc (suc (suc (suc (suc (suc zero))))))) l m h = let f = no_fields_lem w p v h in rw (f.0, f.1, f.2) end
  shaped_as (suc (suc (suc (suc (suc (suc (suc (suc k)))))))) l m h = absurd (omega arith)

  -- with the mark and the target
  with_mark : (m k t : ℕ) → m ≡ 0xA55A → t ≡ 0 → Shaped (script_record k w p v)
      → Shaped (record { mark = m; kind = k; width = w; port = p; target = t; value = v })
  with_mark m k t e f s = rw (e, f) s

pub shaped : (r : Record) → shape_fault r ≡ 0 → r.port < 65536 → Shaped r
shaped r h l =
    let c = passed r h in
    let f = both (eqb r.target 0) (kind_fields 5 r) c.good in
    with_mark r.width r.port r.value l r.mark r.kind r.target c.marked (eqb-true r.target 0 f.0)
    (shaped_as r.width r.port r.value l r.kind c.least c.most f.1)
