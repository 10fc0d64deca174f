-- The fresh bays are in range, and every reset, access and event keeps them in range: a request or a state that is stored is one of
-- the five, form factor bits are a remainder, and the capabilities register takes at most two bays.
use Prim.Native.Nat.{ℕ, ◌+◌, ◌*◌, ◌/◌, ◌%◌, ◌≤◌, ◌<◌}
use mathlib.Core.Path.{◌≡◌, refl, ◌∙◌}
use mathlib.Core.Bool.{Bool, true, not, ◌&&◌, ◌||◌}
use native.Mathlib.Omega.{arith}
use borrow.Author.Tests.{eq-eqb, le-leb, leb-true}
use lib.Bits.{and_high, and_mask, bit_and, or_shifted}
use lib.Dec.{eqb, leb}
use Rattle.access.specs.Block.{Result}
use Rattle.access.specs.declared.Access.{Access}
use Rattle.lists.proofs.Tests.{each_holds}
use Rattle.mask.proofs.Branch.{branch, branch_on}
use Rattle.mask.proofs.Every.{and_both, and_left, and_right}
use Rattle.mask.specs.Mask.{has_bit, within}
use Rattle.bays.specs.Bay as one
use Rattle.bays.specs.Bay.{
  bay_in_range,
  bay_reset,
  control_after,
  control_write,
  form_max,
  has_device,
  is_request,
  late_insertion,
  late_removal,
  present,
  request_code,
  requested_state,
  rises,
  status_write,
}
use Rattle.bays.specs.BayState as state
use Rattle.bays.specs.Bays.{
  bays_access,
  bays_event,
  bays_in_range,
  bays_reset,
  capabilities_mask,
  decoded_access,
  fresh_bays,
  legal_capabilities,
  lines_kind,
  range_tests,
}
use Rattle.bays.specs.Bit as bit
use Rattle.bays.specs.Lines.{
  button_pressed,
  insertion,
  lines_event,
  presence_taken,
  removal,
  take1394,
  take_button,
  take_security,
  take_usb,
  with_button,
  with_lines,
}
use Rattle.bays.specs.Once.{after_write}
use Rattle.bays.specs.Registers.{Decoded, Nowhere, To, bay_count, bay_count_max, bay_of, capabilities_from, decode, register_write, with_bay}
use Rattle.bays.specs.declared.Bays.{Bays}
use Rattle.bays.specs.declared.bay.Bay.{Bay}
use Rattle.bays.specs.declared.bay.Lines.{Lines}
use Rattle.bays.specs.declared.once.Once.{Once}
use Rattle.bays.specs.declared.registers.Register.{Register}
use Rattle.bays.specs.declared.registers.Register.TheVariants.{
  VendorId,
  RevisionId,
  SubsystemVendorId,
  SubsystemId,
  Capabilities,
  Control,
  Status,
}

pub fresh_in_range : bays_in_range fresh_bays ≡ true
unfolding bays_in_range bay_in_range
fresh_in_range = refl

-- ---- one bay
-- a state or a request; a bay; form factor bits
abbrev IsState : ℕ → Type 0
IsState n = leb n state.removal_allowed ≡ true

abbrev IsForm : Once → Type 0
IsForm o = leb o.value form_max ≡ true

abbrev BayRanged : Bay → Type 0
BayRanged b = bay_in_range b ≡ true

bay_ranged : (b : Bay) → IsState b.control.request → IsState b.state → IsForm b.form → BayRanged b
unfolding bay_in_range
bay_ranged b r s f = rw (r, s, f)

module _ (b : Bay) (h : bay_in_range b ≡ true) where
  pub request_in_range : leb b.control.request state.removal_allowed ≡ true
  unfolding bay_in_range
  request_in_range = each_holds (one.range_tests b) h 0 (omega arith)

  pub state_in_range : leb b.state state.removal_allowed ≡ true
  unfolding bay_in_range
  state_in_range = each_holds (one.range_tests b) h 1 (omega arith)

  pub form_in_range : leb b.form.value form_max ≡ true
  unfolding bay_in_range
  form_in_range = each_holds (one.range_tests b) h 2 (omega arith)

  control_after_ranged : (v : ℕ) → IsState (control_after b v).request
  unfolding control_after
  control_after_ranged v =
      branch_on IsState (is_request (request_code v))
      (and_right (leb state.inserted (request_code v)) (leb (request_code v) state.removal_allowed))
      (λ e. request_in_range)

  requested_ranged : (v : ℕ) → IsState (requested_state b v)
  unfolding requested_state
  requested_ranged v =
      branch_on IsState (is_request (request_code v) && has_device b)
      (λ e. and_right (leb state.inserted (request_code v)) (leb (request_code v) state.removal_allowed)
      (and_left (is_request (request_code v)) (has_device b) e))
      (λ e. state_in_range)

  late_insertion_ranged : (v s : ℕ) → IsState s → IsState (late_insertion b v s)
  unfolding late_insertion
  late_insertion_ranged v s k =
      branch IsState
      (rises b.control.devchgen (has_bit bit.devstschg_en v) && (b.devchg && (has_device b && eqb s state.empty)))
      refl k

  late_removal_ranged : (v s : ℕ) → IsState s → IsState (late_removal b v s)
  unfolding late_removal
  late_removal_ranged v s k =
      branch IsState (rises b.control.remreqen (has_bit bit.remreq_en v) && (b.remreq && has_device b)) refl k

  control_write_ranged : (v : ℕ) → BayRanged (control_write b v)
  unfolding control_write
  control_write_ranged v =
      bay_ranged (control_write b v) (control_after_ranged v)
      (late_removal_ranged v _ (late_insertion_ranged v _ (requested_ranged v)))
      form_in_range

  status_write_ranged : (v : ℕ) → BayRanged (status_write b v)
  unfolding status_write after_write
  status_write_ranged v =
      bay_ranged (status_write b v) request_in_range state_in_range
      (branch IsForm b.form.written form_in_range (le-leb (v / 256 % 8) form_max (omega arith)))

  reset_ranged : BayRanged (bay_reset b)
  unfolding bay_reset
  reset_ranged = bay_ranged (bay_reset b) refl (branch IsState (has_device b) refl refl) form_in_range

  -- ---- the lines
  lines_ranged : (l : Lines) → BayRanged (with_lines b l)
  lines_ranged l = bay_ranged (with_lines b l) request_in_range state_in_range form_in_range

  insertion_ranged : BayRanged (insertion b)
  unfolding insertion
  insertion_ranged =
      bay_ranged (insertion b) request_in_range (branch IsState b.control.devchgen refl state_in_range) form_in_range

  removal_ranged : BayRanged (removal b)
  unfolding removal
  removal_ranged = bay_ranged (removal b) refl refl form_in_range

  pressed_ranged : BayRanged (button_pressed b)
  unfolding button_pressed
  pressed_ranged =
      bay_ranged (button_pressed b) request_in_range (branch IsState b.control.remreqen refl state_in_range) form_in_range

module _ (b : Bay) (h : bay_in_range b ≡ true) where
  presence_ranged : (l : Lines) → BayRanged (presence_taken b l)
  unfolding presence_taken
  presence_ranged l =
      let k = lines_ranged b h l in
      branch BayRanged (has_device b) (branch BayRanged (present l) k (removal_ranged (with_lines b l) k))
      (branch BayRanged (present l) (insertion_ranged (with_lines b l) k) k)

  button_ranged : (level : Bool) → BayRanged (take_button b level)
  unfolding take_button
  button_ranged level =
      let k = lines_ranged b h (with_button b level).lines in
      branch BayRanged (level && (not b.lines.button && has_device b)) (pressed_ranged (with_button b level) k) k

lines_event_ranged : (b : Bay) → BayRanged b → (operand : ℕ) → BayRanged (lines_event b operand)
unfolding lines_event take1394 take_usb take_security
lines_event_ranged b h operand =
    let b1 = take1394 b (has_bit bit.line1394 operand) in
    let b2 = take_usb b1 (has_bit bit.line_usb operand) in
    let b3 = take_button b2 (has_bit bit.line_button operand) in
    lines_ranged b3 (button_ranged b2 (presence_ranged b1 (presence_ranged b h _) _) (has_bit bit.line_button operand)) _

-- ---- the capabilities register
-- SECLOCK and BAYCNT do not overlap, so the value is their sum
bay_count_ranged : (v : ℕ) → bay_count v ≤ bay_count_max
bay_count_ranged v =
    branch_on (λ n. n ≤ bay_count_max) (leb (v % 16) bay_count_max) (leb-true (v % 16) bay_count_max) (λ e. omega arith)

capabilities_sum : (v : ℕ) → capabilities_from v ≡ v / 16 % 2 * 16 + bay_count v
capabilities_sum v =
    let c = bay_count_ranged v in
    rw (and_high v 1 4) (or_shifted (v / 16 % 2) 4 (bay_count v) (omega arith))

capabilities_legal : (v : ℕ) → legal_capabilities (capabilities_from v) ≡ true
capabilities_legal v = rw (capabilities_sum v) (legal (v / 16 % 2) (bay_count v) (omega arith) (bay_count_ranged v))
  where
    legal : (x c : ℕ) → x < 2 → c ≤ bay_count_max → legal_capabilities (x * 16 + c) ≡ true
    legal x c l m =
        and_both (within capabilities_mask (x * 16 + c)) (leb ((x * 16 + c) % 16) bay_count_max)
        (eq-eqb (bit_and (x * 16 + c) capabilities_mask) (x * 16 + c) (and_mask (x * 16 + c) 5 ∙ omega arith))
        (le-leb ((x * 16 + c) % 16) bay_count_max (omega arith))

-- ---- the block
abbrev InRange : Bays → Type 0
InRange s = bays_in_range s ≡ true

abbrev ResultInRange : Result Bays → Type 0
ResultInRange r = InRange r.block

abbrev Legal : Once → Type 0
Legal o = legal_capabilities o.value ≡ true

together : (s : Bays) → Legal s.capabilities → BayRanged s.bay0 → BayRanged s.bay1 → InRange s
unfolding bays_in_range
together s c a b = rw (c, a, b)

module _ (s : Bays) (h : bays_in_range s ≡ true) where
  pub capabilities_in_range : legal_capabilities s.capabilities.value ≡ true
  unfolding bays_in_range
  capabilities_in_range = each_holds (range_tests s) h 0 (omega arith)

  pub bay0_in_range : bay_in_range s.bay0 ≡ true
  unfolding bays_in_range
  bay0_in_range = each_holds (range_tests s) h 1 (omega arith)

  pub bay1_in_range : bay_in_range s.bay1 ≡ true
  unfolding bays_in_range
  bay1_in_range = each_holds (range_tests s) h 2 (omega arith)

  pub bay_in_range_lem : (n : ℕ) → bay_in_range (bay_of s n) ≡ true
  unfolding bay_of
  bay_in_range_lem n = branch BayRanged (eqb n 0) bay0_in_range bay1_in_range

  with_bay_in_range : (n : ℕ) (b : Bay) → BayRanged b → InRange (with_bay s n b)
  unfolding with_bay
  with_bay_in_range n b k =
      branch InRange (eqb n 0) (together _ capabilities_in_range k bay1_in_range)
      (together _ capabilities_in_range bay0_in_range k)

  write_in_range : (r : Register) (v : ℕ) → ResultInRange (register_write s r v)
  unfolding register_write after_write
  write_in_range VendorId v = h
  write_in_range RevisionId v = h
  write_in_range SubsystemVendorId v = together _ capabilities_in_range bay0_in_range bay1_in_range
  write_in_range SubsystemId v = together _ capabilities_in_range bay0_in_range bay1_in_range
  write_in_range Capabilities v =
      together _ (branch Legal s.capabilities.written capabilities_in_range (capabilities_legal v)) bay0_in_range bay1_in_range
  write_in_range (Control n) v = with_bay_in_range n _ (control_write_ranged (bay_of s n) (bay_in_range_lem n) v)
  write_in_range (Status n) v = with_bay_in_range n _ (status_write_ranged (bay_of s n) (bay_in_range_lem n) v)

  decoded_in_range : (d : Decoded) (x : Access) → ResultInRange (decoded_access s d x)
  unfolding decoded_access
  decoded_in_range (To r) x = branch ResultInRange x.write (write_in_range r x.value) h
  decoded_in_range Nowhere x = h

  pub access_in_range : (offset : ℕ) (x : Access) → bays_in_range (bays_access s offset x).block ≡ true
  unfolding bays_access
  access_in_range offset x = decoded_in_range (decode offset x.width) x

  pub reset_in_range : (level : ℕ) → bays_in_range (bays_reset s level) ≡ true
  unfolding bays_reset
  reset_in_range level =
      branch InRange (eqb level 0 || eqb level 1) h
      (branch InRange (eqb level 2)
      (together _ capabilities_in_range (reset_ranged s.bay0 bay0_in_range) (reset_ranged s.bay1 bay1_in_range))
      fresh_in_range)

  pub event_in_range : (kind operand : ℕ) → bays_in_range (bays_event s kind operand) ≡ true
  unfolding bays_event
  event_in_range kind operand =
      let n = operand / 16 % 2 in
      branch InRange (eqb kind lines_kind) (with_bay_in_range n _ (lines_event_ranged (bay_of s n) (bay_in_range_lem n) operand)) h
