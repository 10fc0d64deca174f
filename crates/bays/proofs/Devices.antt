-- "The power bit of a bay with no device is clear after any sequence from fresh", and such a bay is Empty: both hold fresh, and every
-- reset, access and event keeps them, since power and state change only with a device, and a removal clears both.
use Prim.Native.Nat.{ℕ, zero, suc}
use mathlib.Core.Path.{◌≡◌, refl}
use mathlib.Core.Bool.{Bool, true, false, not, ◌&&◌, ◌||◌, and-false}
use native.Mathlib.Omega.{arith}
use lib.Dec.{eqb}
use Rattle.access.specs.declared.Access.{Access}
use Rattle.mask.proofs.Branch.{branch, branch_on}
use Rattle.mask.proofs.Every.{and_right}
use Rattle.mask.specs.Mask.{has_bit}
use Rattle.bays.proofs.EachBay.{each_access, each_event}
use Rattle.bays.specs.Bay.{
  NoPowerWithoutDevice,
  OccupiedHasDevice,
  bay_reset,
  control_after,
  control_write,
  has_device,
  late_insertion,
  late_removal,
  present,
  requested_state,
  status_write,
}
use Rattle.bays.specs.BayState as state
use Rattle.bays.specs.Bays.{bays_access, bays_event, bays_reset, fresh_bays}
use Rattle.bays.specs.Bit as bit
use Rattle.bays.specs.Lines.{
  button_pressed,
  insertion,
  lines_event,
  presence_taken,
  removal,
  take1394,
  take_button,
  take_security,
  take_usb,
}
use Rattle.bays.specs.Registers.{bay_of}
use Rattle.bays.specs.declared.Bays.{Bays}
use Rattle.bays.specs.declared.bay.Bay.{Bay}
use Rattle.bays.specs.declared.bay.Lines.{Lines}

-- ---- one bay
pub record ConsistentBay (b : Bay) : Type 0 where
  pub power : NoPowerWithoutDevice b
  pub state : OccupiedHasDevice b

-- the same, in a form that is easier to keep: a bay without a device is off and Empty
record Off (b : Bay) : Type 0 where
  power : b.control.power ≡ false
  state : b.state ≡ state.empty

abbrev OffWithout : Bay → Type 0
OffWithout b = has_device b ≡ false → Off b

off_without : (b : Bay) → ConsistentBay b → OffWithout b
off_without b h e = record { power = h.power e; state = pick b.state refl }
  where
    pick : (n : ℕ) → b.state ≡ n → b.state ≡ 0
    pick zero z = z
    pick (suc n) z =
        let t = h.state (λ y. let l : suc n ≡ 0 = cc in omega arith) in
        let z : ◌≡◌ {A = ℕ} 0 1 = cc in absurd (omega arith)

consistent : (b : Bay) → OffWithout b → ConsistentBay b
consistent b h = record { power = λ e. (h e).power; state = λ n. pick n (has_device b) refl }
  where
    pick : (b.state ≡ 0 → ⊥) → (t : Bool) → has_device b ≡ t → has_device b ≡ true
    pick n true e = e
    pick n false e = absurd (n (h e).state)

-- no test gives both
never : {A : Type 0} {t : Bool} → t ≡ true → t ≡ false → A
never p q = let z : ◌≡◌ {A = ℕ} 0 1 = cc in absurd (omega arith)

module _ (b : Bay) (h : OffWithout b) where
  off_control : (v : ℕ) → OffWithout (control_write b v)
  unfolding control_write control_after late_removal late_insertion requested_state
  off_control v e = record {
    power = rw e (and-false (has_bit bit.pwr_ctl v));
    state = rw e (simp and-false (h e).state);
  }

  off_status : (v : ℕ) → OffWithout (status_write b v)
  unfolding status_write
  off_status v e = record { power = (h e).power; state = (h e).state }

  off_reset : OffWithout (bay_reset b)
  unfolding bay_reset
  off_reset e = record { power = refl; state = rw e refl }

  -- a new level of 1394 or USB: with a device nothing is asked, and a removal clears both
  off_presence : (l : Lines) → OffWithout (presence_taken b l)
  unfolding presence_taken insertion removal
  off_presence l =
      branch_on OffWithout (has_device b)
      (λ d. branch_on OffWithout (present l) (λ p e. never p e) (λ p e. record { power = refl; state = refl }))
      (λ d. branch_on OffWithout (present l) (λ p e. never p e) (λ p e. record { power = (h d).power; state = (h d).state }))

  off_button : (level : Bool) → OffWithout (take_button b level)
  unfolding take_button button_pressed
  off_button level =
      branch_on OffWithout (level && (not b.lines.button && has_device b))
      (λ t e. never (and_right (not b.lines.button) (has_device b) (and_right level (not b.lines.button && has_device b) t)) e)
      (λ t e. record { power = (h e).power; state = (h e).state })

  off_security : (level : Bool) → OffWithout (take_security b level)
  unfolding take_security
  off_security level e = record { power = (h e).power; state = (h e).state }

off_lines : (b : Bay) → OffWithout b → (operand : ℕ) → OffWithout (lines_event b operand)
unfolding lines_event take1394 take_usb
off_lines b h operand =
    let b1 = take1394 b (has_bit bit.line1394 operand) in
    let b2 = take_usb b1 (has_bit bit.line_usb operand) in
    let b3 = take_button b2 (has_bit bit.line_button operand) in
    off_security b3 (off_button b2 (off_presence b1 (off_presence b h _) _) (has_bit bit.line_button operand))
    (has_bit bit.line_security operand)

-- ---- the block
pub record Consistent (s : Bays) : Type 0 where
  pub bay0 : ConsistentBay s.bay0
  pub bay1 : ConsistentBay s.bay1

-- a change keeps a bay consistent
abbrev Keeps : Bay → Bay → Type 0
Keeps b c = ConsistentBay b → ConsistentBay c

keeps : (b c : Bay) → (OffWithout b → OffWithout c) → Keeps b c
keeps b c f h = consistent c (f (off_without b h))

pub fresh_consistent : Consistent fresh_bays
fresh_consistent = record { bay0 = fresh; bay1 = fresh }
  where
    fresh : ConsistentBay fresh_bays.bay0
    fresh = consistent fresh_bays.bay0 (λ e. record { power = refl; state = refl })

module _ (s : Bays) (h : Consistent s) where
  pub reset_consistent : (level : ℕ) → Consistent (bays_reset s level)
  unfolding bays_reset
  reset_consistent level =
      branch Consistent (eqb level 0 || eqb level 1) h
      (branch Consistent (eqb level 2)
      (record {
        bay0 = keeps s.bay0 (bay_reset s.bay0) (off_reset s.bay0) h.bay0;
        bay1 = keeps s.bay1 (bay_reset s.bay1) (off_reset s.bay1) h.bay1;
      })
      fresh_consistent)

  pub access_consistent : (offset : ℕ) (x : Access) → Consistent (bays_access s offset x).block
  unfolding bay_of
  access_consistent offset x = record { bay0 = after 0 h.bay0; bay1 = after 1 h.bay1 }
    where
      after : (n : ℕ) → Keeps (bay_of s n) (bay_of (bays_access s offset x).block n)
      after n =
          each_access Keeps (λ b k. k) s n (λ b v. keeps b (control_write b v) (λ k. off_control b k v))
          (λ b v. keeps b (status_write b v) (λ k. off_status b k v))
          offset x

  pub event_consistent : (kind operand : ℕ) → Consistent (bays_event s kind operand)
  unfolding bay_of
  event_consistent kind operand = record { bay0 = after 0 h.bay0; bay1 = after 1 h.bay1 }
    where
      after : (n : ℕ) → Keeps (bay_of s n) (bay_of (bays_event s kind operand) n)
      after n = each_event Keeps (λ b k. k) s n (λ b o. keeps b (lines_event b o) (λ k. off_lines b k o)) kind operand
