-- A word without a fault meets the conditions of its execution: room in the log, a free counter or one in use, a value in
-- range.
use Prim.Native.Nat.{ℕ, zero, suc, ◌≤◌, ◌<◌}
use mathlib.Core.Path.{◌≡◌, refl, ap, sym, subst, ◌∙◌}
use Rattle.std.proofs.Common.{◌⊎◌, inl, inr}
use mathlib.Core.List.{List}
use mathlib.Core.Bool.{Bool, true, false, cond, not, ◌&&◌, ◌||◌}
use native.Mathlib.Omega.{arith}
use borrow.Author.Tests.{eqb-true, leb-false, leb-true, not-false}
use lib.Dec.{eqb, leb}
use lib.ListN.{length}
use Rattle.mask.proofs.Every.{and_right}
use Rattle.record.specs.WordKinds.{word_kind_number}
use Rattle.record.specs.declared.Record.{Record}
use Rattle.record.specs.declared.word_kind.WordKind.{WordKind}
use Rattle.record.specs.declared.word_kind.WordKind.TheVariants.{Enter, Jump, LoopEnd, Read, Test, Write}
use Rattle.script.specs.Fields.{count_fields}
use Rattle.step.specs.Effects.{is_read}
use Rattle.step.specs.Represents.{ControlReady, is_access, is_control}
use Rattle.step.specs.declared.execute.Position.{Position}
use Rattle.step.specs.Step.{target_beyond, ninth_counter, no_counter, log_full, word_fault}
use Rattle.step.specs.Word.{bad_word, bad_word_kind, good_word_fields, wrong_word_mark}

-- no fault, check by check
pub record Clean (words room used logged : ℕ) (r : Record) : Type 0 where
  pub good : bad_word r ≡ false
  pub near : target_beyond words r ≡ false
  pub counter : ninth_counter used r ≡ false
  pub open_loop : no_counter used r ≡ false
  pub log_room : log_full room logged r ≡ false

pub clean : (words room used logged : ℕ) (r : Record) → word_fault words room used logged r ≡ 0 → Clean words room used logged r
unfolding word_fault
clean words room used logged r h =
    pick (bad_word r) (target_beyond words r) (ninth_counter used r) (no_counter used r) (log_full room logged r) refl refl refl refl refl h
  where
    pick : (a b c d e : Bool) → bad_word r ≡ a → target_beyond words r ≡ b → ninth_counter used r ≡ c → no_counter used r ≡ d
        → log_full room logged r ≡ e → ◌≡◌ {A = ℕ} (cond a 20 (cond b 21 (cond c 22 (cond d 23 (cond e 24 0))))) 0
        → Clean words room used logged r
    pick true b c d e p q s t u z = absurd (omega (arith, z))
    pick false true c d e p q s t u z = absurd (omega (arith, z))
    pick false false true d e p q s t u z = absurd (omega (arith, z))
    pick false false false true e p q s t u z = absurd (omega (arith, z))
    pick false false false false true p q s t u z = absurd (omega (arith, z))
    pick false false false false false p q s t u z =
        record { good = p; near = q; counter = s; open_loop = t; log_room = u }

pub or_right : (a b : Bool) → (a || b) ≡ false → b ≡ false
or_right true b h = let z : ◌≡◌ {A = ℕ} 0 1 = cc in absurd (omega arith)
or_right false b h = h

-- ---- what follows for each kind
pub read_room : (room logged : ℕ) (r : Record) → r.kind ≡ 2 → log_full room logged r ≡ false → logged < room
read_room room logged r k h = leb-false room logged (rw k at h)

pub loop_open : (used : ℕ) (r : Record) → r.kind ≡ 5 → no_counter used r ≡ false → 0 < used
loop_open used r k h = some used (rw k at h)
  where
    some : (n : ℕ) → eqb n 0 ≡ false → 0 < n
    some zero e = let z : ◌≡◌ {A = ℕ} 0 1 = cc in absurd (omega arith)
    some (suc n) e = omega arith

pub enter_room : (used : ℕ) (r : Record) → r.kind ≡ 4 → ninth_counter used r ≡ false → 8 ≤ used → r.value ≡ 0
enter_room used r k h l = pick (eqb r.value 0) refl
  where
    e : (not (eqb r.value 0) && leb 8 used) ≡ false
    e = rw k at h

    pick : (b : Bool) → eqb r.value 0 ≡ b → r.value ≡ 0
    pick true p = eqb-true r.value 0 p
    pick false p = absurd (let q = leb-false 8 used (rw p at e) in omega (arith, q, l))

fields : (r : Record) → bad_word r ≡ false → good_word_fields r ≡ true
unfolding bad_word
fields r h = not-false (good_word_fields r) (or_right (bad_word_kind r) (not (good_word_fields r)) (or_right (wrong_word_mark r) _ h))

count_value : (r : Record) → count_fields r ≡ true → r.value ≤ 65535
count_value r c =
    leb-true r.value 65535 (and_right (eqb r.port 0) (leb r.value 65535) (and_right (eqb r.width 0) _ c))

pub delay_value : (r : Record) → r.kind ≡ 3 → bad_word r ≡ false → r.value ≤ 65535
delay_value r k h =
    let g : (eqb r.target 0 && count_fields r) ≡ true = rw k at (fields r h) in
    count_value r (and_right (eqb r.target 0) (count_fields r) g)

pub enter_value : (r : Record) → r.kind ≡ 4 → bad_word r ≡ false → r.value ≤ 65535
enter_value r k h = count_value r (rw k at (fields r h))

-- ---- the conditions of `execute_control`, of `apply_answer` and of a delay
pub control_ready :
    (words room : ℕ) (x : Position) (kind : WordKind) (r : Record) → word_kind_number kind ≡ r.kind
    → word_fault words room x.used x.logged r ≡ 0 → x.place < 1024 → x.used ≤ 8 → is_control kind ≡ true → ControlReady x kind r
control_ready words room x kind r k z near few t =
    let c = clean words room x.used x.logged r z in
    record {
      near = near;
      kind_is = k;
      control = t;
      enters = λ e. enter_room x.used r (sym k ∙ ap word_kind_number e) c.counter;
      loops = λ e. loop_open x.used r (sym k ∙ ap word_kind_number e) c.open_loop;
      few = few;
    }

pub log_ready :
    (words : ℕ) (x : Position) (kind : WordKind) (r : Record) (log : List ℕ) → word_kind_number kind ≡ r.kind
    → word_fault words (length log) x.used x.logged r ≡ 0 → is_read kind ≡ true → x.logged < length log
log_ready words x kind r log k z e =
    let c = clean words (length log) x.used x.logged r z in
    read_room (length log) x.logged r (sym k ∙ eqb-true (word_kind_number kind) 2 e) c.log_room

pub delay_ready :
    (words room : ℕ) (x : Position) (r : Record) → word_fault words room x.used x.logged r ≡ 0 → r.kind ≡ 3
    → r.value ≤ 65535
delay_ready words room x r z k = delay_value r k (clean words room x.used x.logged r z).good

-- ---- the words that neither halt nor delay, as the run takes them apart
one_of_three : {k a b c : WordKind} (P : WordKind → Type 0) → P a → P b → P c → (k ≡ a) ⊎ ((k ≡ b) ⊎ (k ≡ c)) → P k
one_of_three P p q r (inl e) = subst P (sym e) p
one_of_three P p q r (inr (inl e)) = subst P (sym e) q
one_of_three P p q r (inr (inr e)) = subst P (sym e) r

abbrev Control : WordKind → Type 0
Control k = (is_control k ≡ true) × (word_kind_number k ≡ 8 → ⊥)

abbrev Accesses : WordKind → Type 0
Accesses k = (is_access k ≡ true) × (word_kind_number k ≡ 8 → ⊥)

pub control_word :
    {k : WordKind} → (k ≡ Enter) ⊎ ((k ≡ LoopEnd) ⊎ (k ≡ Jump)) → (is_control k ≡ true) × (word_kind_number k ≡ 8 → ⊥)
control_word e =
    one_of_three Control (refl, λ z. omega (arith, z)) (refl, λ z. omega (arith, z)) (refl, λ z. omega (arith, z)) e

pub access_word :
    {k : WordKind} → (k ≡ Write) ⊎ ((k ≡ Read) ⊎ (k ≡ Test)) → (is_access k ≡ true) × (word_kind_number k ≡ 8 → ⊥)
access_word e =
    one_of_three Accesses (refl, λ z. omega (arith, z)) (refl, λ z. omega (arith, z)) (refl, λ z. omega (arith, z)) e
