-- A field that is written once keeps what its first write stored. So the three registers and the form factor bits of the bays, once written,
-- are "read-only through resets 0 to 2": no access, no event and no reset below 3 changes them.
use Prim.Native.Nat.{ℕ, zero, suc, ◌/◌, ◌%◌, ◌<◌}
use mathlib.Core.Path.{◌≡◌, refl, ◌∙◌}
use mathlib.Core.Bool.{Bool, true, false, not, ◌&&◌, ◌||◌}
use native.Mathlib.Omega.{arith}
use borrow.Author.Tests.{eqb-false}
use lib.Bits.{bit_and}
use lib.Dec.{eqb}
use Rattle.access.specs.Block.{Result}
use Rattle.access.specs.declared.Access.{Access}
use Rattle.mask.proofs.Branch.{branch, branch_on}
use Rattle.mask.proofs.Every.{neither}
use Rattle.mask.specs.Mask.{has_bit}
use Rattle.bays.proofs.EachBay.{each_access, each_event}
use Rattle.bays.proofs.Lines.{RegistersKept, registers_kept, with_bay_kept}
use Rattle.bays.specs.Bay.{bay_reset, control_write, has_device, present, status_write}
use Rattle.bays.specs.Bays.{bays_access, bays_event, bays_reset, decoded_access, once_field}
use Rattle.bays.specs.Bit as bit
use Rattle.bays.specs.Lines.{
  button_pressed,
  insertion,
  lines_event,
  presence_taken,
  removal,
  take1394,
  take_button,
  take_security,
  take_usb,
}
use Rattle.bays.specs.Once.{after_write}
use Rattle.bays.specs.Registers.{Decoded, Nowhere, To, bay_of, capabilities_from, decode, register_write}
use Rattle.bays.specs.declared.Bays.{Bays}
use Rattle.bays.specs.declared.bay.Bay.{Bay}
use Rattle.bays.specs.declared.bay.Lines.{Lines}
use Rattle.bays.specs.declared.once.Once.{Once}
use Rattle.bays.specs.declared.registers.Register.{Register}
use Rattle.bays.specs.declared.registers.Register.TheVariants.{
  VendorId,
  RevisionId,
  SubsystemVendorId,
  SubsystemId,
  Capabilities,
  Control,
  Status,
}

-- ---- one field
module _ (o : Once) (v : ℕ) where
  pub write_once : o.written ≡ true → after_write o v ≡ o
  unfolding after_write
  write_once e = rw e

  pub write_first : o.written ≡ false → after_write o v ≡ record { value = v; written = true }
  unfolding after_write
  write_first e = rw e

  pub written_after : (after_write o v).written ≡ true
  unfolding after_write
  written_after = branch_on (λ (p : Once). p.written ≡ true) o.written (λ e. e) (λ e. refl)

-- ---- the form factor bits of one bay
abbrev KeepsForm : Bay → Bay → Type 0
KeepsForm b c = c.form ≡ b.form

abbrev KeepsWrittenForm : Bay → Bay → Type 0
KeepsWrittenForm b c = b.form.written ≡ true → c.form ≡ b.form

module _ (b : Bay) where
  pub first_write : (v : ℕ)
      → b.form.written ≡ false → ((status_write b v).form.written ≡ true) × ((status_write b v).form.value ≡ v / 256 % 8)
  unfolding status_write
  first_write v e = rw (write_first b.form (v / 256 % 8) e) (refl, refl)

  form_after_status : (v : ℕ) → KeepsWrittenForm b (status_write b v)
  unfolding status_write
  form_after_status v = write_once b.form (v / 256 % 8)

  form_after_control : (v : ℕ) → KeepsForm b (control_write b v)
  unfolding control_write
  form_after_control v = refl

  form_after_presence : (l : Lines) → KeepsForm b (presence_taken b l)
  unfolding presence_taken insertion removal
  form_after_presence l =
      branch (KeepsForm b) (has_device b) (branch (KeepsForm b) (present l) refl refl) (branch (KeepsForm b) (present l) refl refl)

  form_after_button : (level : Bool) → KeepsForm b (take_button b level)
  unfolding take_button button_pressed
  form_after_button level = branch (KeepsForm b) (level && (not b.lines.button && has_device b)) refl refl

pub form_after_lines : (b : Bay) (operand : ℕ) → (lines_event b operand).form ≡ b.form
unfolding lines_event take1394 take_usb take_security
form_after_lines b operand =
    let b1 = take1394 b (has_bit bit.line1394 operand) in
    let b2 = take_usb b1 (has_bit bit.line_usb operand) in
    form_after_button b2 (has_bit bit.line_button operand) ∙ form_after_presence b1 _ ∙ form_after_presence b _

-- ---- the form factor bits of each bay of the block
module _ (s : Bays) (n : ℕ) where
  pub form_after_access :
      (offset : ℕ) (x : Access) → (bay_of s n).form.written ≡ true → (bay_of (bays_access s offset x).block n).form ≡ (bay_of s n).form
  form_after_access =
      each_access KeepsWrittenForm (λ b e. refl) s n (λ b v e. form_after_control b v) form_after_status

  pub form_after_event : (kind operand : ℕ) → (bay_of (bays_event s kind operand) n).form ≡ (bay_of s n).form
  form_after_event = each_event KeepsForm (λ b. refl) s n form_after_lines

-- ---- the three registers
pub record RegistersStay (s t : Bays) : Type 0 where
  pub subvendor : s.subvendor.written ≡ true → t.subvendor ≡ s.subvendor
  pub subsystem : s.subsystem.written ≡ true → t.subsystem ≡ s.subsystem
  pub capabilities : s.capabilities.written ≡ true → t.capabilities ≡ s.capabilities

-- any block with the same registers
same_registers : {s t : Bays} → RegistersKept s t → RegistersStay s t
same_registers k = record { subvendor = λ e. k.subvendor; subsystem = λ e. k.subsystem; capabilities = λ e. k.capabilities }

module _ (s : Bays) where
  kept : RegistersStay s s
  kept = record { subvendor = λ e. refl; subsystem = λ e. refl; capabilities = λ e. refl }

  after_register : (r : Register) (v : ℕ) → RegistersStay s (register_write s r v).block
  unfolding register_write
  after_register VendorId v = kept
  after_register RevisionId v = kept
  after_register SubsystemVendorId v = record {
    subvendor = write_once s.subvendor (bit_and v 0xFFFF);
    subsystem = λ e. refl;
    capabilities = λ e. refl;
  }
  after_register SubsystemId v = record {
    subvendor = λ e. refl;
    subsystem = write_once s.subsystem (bit_and v 0xFFFF);
    capabilities = λ e. refl;
  }
  after_register Capabilities v = record {
    subvendor = λ e. refl;
    subsystem = λ e. refl;
    capabilities = write_once s.capabilities (capabilities_from v);
  }
  after_register (Control m) v = same_registers (with_bay_kept s m (control_write (bay_of s m) v))
  after_register (Status m) v = same_registers (with_bay_kept s m (status_write (bay_of s m) v))

  after_decoded : (d : Decoded) (x : Access) → RegistersStay s (decoded_access s d x).block
  unfolding decoded_access
  after_decoded (To r) x =
      branch (λ (t : Result Bays). RegistersStay s t.block) x.write (after_register r x.value) kept
  after_decoded Nowhere x = kept

  registers_after_access : (offset : ℕ) (x : Access) → RegistersStay s (bays_access s offset x).block
  unfolding bays_access
  registers_after_access offset x = after_decoded (decode offset x.width) x

-- ---- all five fields
module _ (s : Bays) where
  pub once_after_access :
      (offset : ℕ) (x : Access) (k : ℕ) → (once_field s k).written ≡ true
      → once_field (bays_access s offset x).block k ≡ once_field s k
  unfolding bay_of
  once_after_access offset x zero e = (registers_after_access s offset x).subvendor e
  once_after_access offset x (suc zero) e = (registers_after_access s offset x).subsystem e
  once_after_access offset x (suc (suc zero)) e = (registers_after_access s offset x).capabilities e
  once_after_access offset x (suc (suc (suc zero))) e = form_after_access s 0 offset x e
  once_after_access offset x (suc (suc (suc (suc zero)))) e = form_after_access s 1 offset x e
  once_after_access offset x (suc (suc (suc (suc (suc k))))) e = refl

  pub once_after_event : (kind operand k : ℕ) → once_field (bays_event s kind operand) k ≡ once_field s k
  unfolding bay_of
  once_after_event kind operand zero = (registers_kept s kind operand).subvendor
  once_after_event kind operand (suc zero) = (registers_kept s kind operand).subsystem
  once_after_event kind operand (suc (suc zero)) = (registers_kept s kind operand).capabilities
  once_after_event kind operand (suc (suc (suc zero))) = form_after_event s 0 kind operand
  once_after_event kind operand (suc (suc (suc (suc zero)))) = form_after_event s 1 kind operand
  once_after_event kind operand (suc (suc (suc (suc (suc k))))) = refl

  -- "reset 2 [..] keeps write-once fields"
  pub once_after_reset : (level : ℕ) → level < 3 → (k : ℕ) → once_field (bays_reset s level) k ≡ once_field s k
  unfolding bays_reset bay_reset
  once_after_reset level l k =
      branch_on Same (eqb level 0 || eqb level 1) (λ e. refl)
      (λ e. branch_on Same (eqb level 2) (λ t. refl) (λ t.
      let zero = eqb-false level 0 (neither (eqb level 0) (eqb level 1) e).0 in
      let one = eqb-false level 1 (neither (eqb level 0) (eqb level 1) e).1 in
      let two = eqb-false level 2 t in
      absurd (omega arith)))
    where
      Same : Bays → Type 0
      Same t = once_field t k ≡ once_field s k
