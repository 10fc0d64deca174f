-- What holds of a record that has none of the faults 2 to 4.
use Prim.Native.Nat.{ℕ, suc, ◌≤◌}
use mathlib.Core.Path.{◌≡◌}
use mathlib.Core.Bool.{Bool, true, false, false≢true, ◌&&◌, ◌||◌}
use mathlib.Core.List.{[], ◌∷◌}
use native.Mathlib.Omega.{arith}
use borrow.Author.Tests.{eqb-true, leb-true, not-false}
use lib.Dec.{eqb, leb}
use Rattle.lists.proofs.Tests.{none_from}
use Rattle.lists.specs.Tests.{holds_at}
use Rattle.mask.proofs.Every.{both}
use Rattle.record.specs.declared.Record.{Record}
use Rattle.script.specs.Fields.{kind_fields}
use Rattle.script.specs.Refusals.{bad_fields, bad_kind, good_fields, wrong_mark}
use Rattle.script.specs.Scan.{shape_fault}
use Rattle.width.specs.Width.{is_width}

width_most : (w : ℕ) → is_width w ≡ true → w ≤ 4
width_most w h = pick (eqb w 1) (eqb w 2) (eqb w 4) (eqb-true w 1) (eqb-true w 2) (eqb-true w 4) h
  where
    pick : (a b c : Bool) → (a ≡ true → w ≡ 1) → (b ≡ true → w ≡ 2) → (c ≡ true → w ≡ 4) → (a || (b || c)) ≡ true → w ≤ 4
    pick true b c p q s e = let z = p e in omega arith
    pick false true c p q s e = let z = q e in omega arith
    pick false false true p q s e = let z = s e in omega arith
    pick false false false p q s e = absurd (false≢true e)

module _ (r : Record) (h : shape_fault r ≡ 0) where
  none : (k : ℕ) → holds_at (wrong_mark r ∷ bad_kind r ∷ bad_fields r ∷ []) (suc k) ≡ false
  unfolding shape_fault
  none = none_from (wrong_mark r ∷ bad_kind r ∷ bad_fields r ∷ []) 2 (omega arith) h

  known : (leb 1 r.kind && leb r.kind 7) ≡ true
  known = not-false (leb 1 r.kind && leb r.kind 7) (none 1)

  pub kind_least : 1 ≤ r.kind
  kind_least = leb-true 1 r.kind (both (leb 1 r.kind) (leb r.kind 7) known).0

  pub kind_most : r.kind ≤ 7
  kind_most = leb-true r.kind 7 (both (leb 1 r.kind) (leb r.kind 7) known).1

  fields : kind_fields 5 r ≡ true
  fields = (both (eqb r.target 0) (kind_fields 5 r) (not-false (good_fields r) (none 2))).1

  pub write_width : r.kind ≡ 1 → r.width ≤ 4
  write_width k = width_most r.width (both (is_width r.width) _ (rw k at fields)).0

  pub read_width : r.kind ≡ 2 → r.width ≤ 4
  read_width k = width_most r.width (both (is_width r.width) _ (rw k at fields)).0

  pub if_width : r.kind ≡ 5 → r.width ≤ 4
  if_width k = width_most r.width (both (is_width r.width) _ (rw k at fields)).0

  count : (eqb r.width 0 && (eqb r.port 0 && leb r.value 65535)) ≡ true → r.value ≤ 65535
  count e = leb-true r.value 65535 (both (eqb r.port 0) _ (both (eqb r.width 0) _ e).1).1

  pub delay_count : r.kind ≡ 3 → r.value ≤ 65535
  delay_count k = count (rw k at fields)

  pub repeat_count : r.kind ≡ 4 → r.value ≤ 65535
  repeat_count k = count (rw k at fields)
