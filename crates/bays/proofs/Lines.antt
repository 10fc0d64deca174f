-- "an equal level does nothing": a line that keeps its level changes nothing, so neither does an event with the levels of its bay. No event
-- changes the other bay or a register that is written once. The alert is on "exactly if an enabled sticky bit is pending".
use Prim.Native.Nat.{ℕ, zero, suc, ◌/◌, ◌%◌, ◌<◌}
use mathlib.Core.Path.{◌≡◌, refl}
use mathlib.Core.Bool.{Bool, true, false, cond, not, ◌&&◌, ◌||◌, and-false, or-true}
use mathlib.Core.Logic.{◌↔◌, ◌⊎◌, inl, inr, ⊎_elim}
use native.Mathlib.Omega.{arith}
use borrow.Author.Tests.{ne_eqb}
use lib.Dec.{eqb}
use Rattle.mask.proofs.Branch.{branch}
use Rattle.mask.proofs.Every.{and_left, and_right}
use Rattle.mask.specs.Mask.{has_bit}
use Rattle.bays.specs.Bay.{Pending, bay_alert, has_device, lines, removal_request, status_change}
use Rattle.bays.specs.Bays.{alert, bays_event, lines_kind}
use Rattle.bays.specs.Bit as bit
use Rattle.bays.specs.Lines.{
  button_pressed,
  insertion,
  lines_event,
  presence_taken,
  removal,
  take1394,
  take_button,
  take_security,
  take_usb,
  with_button,
  with_lines,
}
use Rattle.bays.specs.Registers.{bay_of, bays, with_bay}
use Rattle.bays.specs.declared.Bays.{Bays}
use Rattle.bays.specs.declared.bay.Bay.{Bay}

or_cases : (a b : Bool) → (a || b) ≡ true → (a ≡ true) ⊎ (b ≡ true)
or_cases true b e = inl refl
or_cases false b e = inr e

-- ---- an equal level does nothing
module _ (b : Bay) where
  same_presence : presence_taken b b.lines ≡ b
  unfolding presence_taken
  same_presence = pick (has_device b)
    where
      pick : (d : Bool) → cond d (cond d b (removal b)) (cond d (insertion b) b) ≡ b
      pick true = refl
      pick false = refl

  pub same_1394 : take1394 b b.lines.ieee1394 ≡ b
  unfolding take1394
  same_1394 = same_presence

  pub same_usb : take_usb b b.lines.usb ≡ b
  unfolding take_usb
  same_usb = same_presence

  pub same_button : take_button b b.lines.button ≡ b
  unfolding take_button
  same_button = pick b.lines.button
    where
      pick : (level : Bool) → cond (level && (not level && has_device b)) (button_pressed b) b ≡ b
      pick true = refl
      pick false = refl

  pub same_security : take_security b b.lines.security ≡ b
  unfolding take_security
  same_security = refl

  pub equal_levels : (operand : ℕ)
      → has_bit bit.line1394 operand ≡ b.lines.ieee1394
      → has_bit bit.line_usb operand ≡ b.lines.usb
      → has_bit bit.line_button operand ≡ b.lines.button
      → has_bit bit.line_security operand ≡ b.lines.security
      → lines_event b operand ≡ b
  unfolding lines_event
  equal_levels operand i u p s = rw (i, u, p, s, same_1394, same_usb, same_button, same_security)

  -- ---- lines that change only their level
  pub security_only : (level : Bool)
      → take_security b level ≡ with_lines b (lines b.lines.ieee1394 b.lines.usb b.lines.button level)
  unfolding take_security
  security_only level = refl

  pub button_without_device : (level : Bool) → has_device b ≡ false → take_button b level ≡ with_button b level
  unfolding take_button
  button_without_device level e = rw e (simp and-false)

  pub button_released : take_button b false ≡ with_button b false
  unfolding take_button
  button_released = refl

-- ---- what an event leaves
-- the registers that are written once
pub record RegistersKept (s t : Bays) : Type 0 where
  pub subvendor : t.subvendor ≡ s.subvendor
  pub subsystem : t.subsystem ≡ s.subsystem
  pub capabilities : t.capabilities ≡ s.capabilities

module _ (s : Bays) where
  with_other_bay : (n m : ℕ) → n < 2 → m < 2 → (n ≡ m → ⊥) → (b : Bay) → bay_of (with_bay s m b) n ≡ bay_of s n
  unfolding bay_of with_bay
  with_other_bay zero zero l k d b = absurd (d refl)
  with_other_bay zero (suc zero) l k d b = refl
  with_other_bay zero (suc (suc m)) l k d b = absurd (omega arith)
  with_other_bay (suc zero) zero l k d b = refl
  with_other_bay (suc zero) (suc m) l k d b = absurd (d (omega arith))
  with_other_bay (suc (suc n)) m l k d b = absurd (omega arith)

  with_same_bay : (n : ℕ) → with_bay s n (bay_of s n) ≡ s
  unfolding bay_of with_bay
  with_same_bay n = pick (eqb n 0)
    where
      put : Bay → Bay → Bays
      put a b = bays s.subvendor s.subsystem s.capabilities a b

      pick : (q : Bool) → cond q (put (cond q s.bay0 s.bay1) s.bay1) (put s.bay0 (cond q s.bay0 s.bay1)) ≡ s
      pick true = refl
      pick false = refl

  pub with_bay_kept : (n : ℕ) (b : Bay) → RegistersKept s (with_bay s n b)
  unfolding with_bay
  with_bay_kept n b =
      branch (RegistersKept s) (eqb n 0) (record { subvendor = refl; subsystem = refl; capabilities = refl })
      (record { subvendor = refl; subsystem = refl; capabilities = refl })

module _ (s : Bays) (kind operand : ℕ) where
  pub other_event : (kind ≡ lines_kind → ⊥) → bays_event s kind operand ≡ s
  unfolding bays_event
  other_event n = rw (ne_eqb kind lines_kind n)

  -- a bay that the event does not change, as by `equal_levels`
  pub same_event : lines_event (bay_of s (operand / 16 % 2)) operand ≡ bay_of s (operand / 16 % 2) → bays_event s kind operand ≡ s
  unfolding bays_event
  same_event e =
      branch (λ (t : Bays). t ≡ s) (eqb kind lines_kind) (rw e (with_same_bay s (operand / 16 % 2))) refl

  pub other_bay_kept : (n : ℕ) → n < 2 → (n ≡ operand / 16 % 2 → ⊥) → bay_of (bays_event s kind operand) n ≡ bay_of s n
  unfolding bays_event
  other_bay_kept n l d =
      let m = operand / 16 % 2 in
      branch (λ (t : Bays). bay_of t n ≡ bay_of s n) (eqb kind lines_kind)
      (with_other_bay s n m l (omega arith) d (lines_event (bay_of s m) operand))
      refl

  pub registers_kept : RegistersKept s (bays_event s kind operand)
  unfolding bays_event
  registers_kept =
      let m = operand / 16 % 2 in
      branch (RegistersKept s) (eqb kind lines_kind) (with_bay_kept s m (lines_event (bay_of s m) operand))
      (record { subvendor = refl; subsystem = refl; capabilities = refl })

-- ---- the alert
pub bay_alert_exactly : (b : Bay) → (bay_alert b ≡ true) ↔ Pending b
unfolding bay_alert
bay_alert_exactly b = (λ e. ⊎_elim left right (or_cases (r && re) (d && de) e), alerts)
  where
    r : Bool
    r = b.remreq

    re : Bool
    re = b.control.remreqen

    d : Bool
    d = b.devchg

    de : Bool
    de = b.control.devchgen

    left : (r && re) ≡ true → Pending b
    left e = removal_request (and_left r re e) (and_right r re e)

    right : (d && de) ≡ true → Pending b
    right e = status_change (and_left d de e) (and_right d de e)

    alerts : Pending b → bay_alert b ≡ true
    alerts (removal_request p q) = rw (p, q)
    alerts (status_change p q) = rw (p, q) (or-true (r && re))

pub alert_exactly : (s : Bays) → (alert s ≡ true) ↔ (Pending s.bay0 ⊎ Pending s.bay1)
unfolding alert
alert_exactly s = (λ e. ⊎_elim left right (or_cases (bay_alert s.bay0) (bay_alert s.bay1) e), alerts)
  where
    left : bay_alert s.bay0 ≡ true → Pending s.bay0 ⊎ Pending s.bay1
    left e = inl ((bay_alert_exactly s.bay0).0 e)

    right : bay_alert s.bay1 ≡ true → Pending s.bay0 ⊎ Pending s.bay1
    right e = inr ((bay_alert_exactly s.bay1).0 e)

    alerts : Pending s.bay0 ⊎ Pending s.bay1 → (bay_alert s.bay0 || bay_alert s.bay1) ≡ true
    alerts (inl p) = rw ((bay_alert_exactly s.bay0).1 p)
    alerts (inr p) = rw ((bay_alert_exactly s.bay1).1 p) (or-true (bay_alert s.bay0))
