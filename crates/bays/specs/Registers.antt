-- The registers of the block: which one answers at an offset, what it reads, and what a write does. See docs/CHIP.md, "Bays".
use Rattle.std.specs.Prelude.{ℕ, ◌%◌, Bool, cond, Option, Some, None, eqb, leb}
use Rattle.std.specs.Int.Bits.{bit_and, bit_or}
use Rattle.access.specs.Block.{Result, status}
use Rattle.mask.specs.Mask.{has_bit}
use Rattle.bays.specs.Bay.{control_value, control_write, status_value, status_write}
use Rattle.bays.specs.Bit as bit
use Rattle.bays.specs.Offset as at
use Rattle.bays.specs.Once.{after_write, write_status}
use Rattle.bays.specs.declared.Bays.{Bays}
use Rattle.bays.specs.declared.bay.Bay.{Bay}
use Rattle.bays.specs.declared.once.Once.{Once}
use Rattle.bays.specs.declared.registers.Register.{Register}
use Rattle.bays.specs.declared.registers.Register.TheVariants.{
  VendorId,
  RevisionId,
  SubsystemVendorId,
  SubsystemId,
  Capabilities,
  Control,
  Status,
}

-- ---- the block with one part changed
abbrev pub bays : (subvendor subsystem capabilities : Once) (bay0 bay1 : Bay) → Bays
bays v s c a b = record { subvendor = v; subsystem = s; capabilities = c; bay0 = a; bay1 = b }

abbrev pub with_subvendor : Bays → Once → Bays
with_subvendor s o = bays o s.subsystem s.capabilities s.bay0 s.bay1

abbrev pub with_subsystem : Bays → Once → Bays
with_subsystem s o = bays s.subvendor o s.capabilities s.bay0 s.bay1

abbrev pub with_capabilities : Bays → Once → Bays
with_capabilities s o = bays s.subvendor s.subsystem o s.bay0 s.bay1

-- "two bays": 0, and any other number for bay 1
unfoldable pub bay_of : Bays → ℕ → Bay
bay_of s n = cond (eqb n 0) s.bay0 s.bay1

unfoldable pub with_bay : Bays → ℕ → Bay → Bays
with_bay s n b =
    cond (eqb n 0) (bays s.subvendor s.subsystem s.capabilities b s.bay1)
    (bays s.subvendor s.subsystem s.capabilities s.bay0 b)

-- ---- which register answers
-- an access leads to a register, or nowhere: then the answer is status 1
pub data Decoded : Type 0 where
  To : Register → Decoded
  Nowhere : Decoded

-- the same in the code
abbrev pub decoded_of : Option Register → Decoded
decoded_of (Some r) = To r
decoded_of None = Nowhere

-- "each of width 4; anything else up to AD7Fh is status 1"
abbrev pub register_at : ℕ → Decoded
register_at offset =
    cond (eqb offset at.vendor_id) (To VendorId)
    (cond (eqb offset at.revision_id) (To RevisionId)
    (cond (eqb offset at.subsystem_vendor_id) (To SubsystemVendorId)
    (cond (eqb offset at.subsystem_id) (To SubsystemId)
    (cond (eqb offset at.dbccr) (To Capabilities)
    (cond (eqb offset at.bcer0) (To (Control 0))
    (cond (eqb offset at.bstr0) (To (Status 0))
    (cond (eqb offset at.bcer1) (To (Control 1))
    (cond (eqb offset at.bstr1) (To (Status 1)) Nowhere))))))))

unfoldable pub decode : (offset width : ℕ) → Decoded
decode offset width = cond (eqb width 4) (register_at offset) Nowhere

-- the offset at which each register stands
abbrev pub offset_of : Register → ℕ
offset_of VendorId = at.vendor_id
offset_of RevisionId = at.revision_id
offset_of SubsystemVendorId = at.subsystem_vendor_id
offset_of SubsystemId = at.subsystem_id
offset_of Capabilities = at.dbccr
offset_of (Control n) = cond (eqb n 0) at.bcer0 at.bcer1
offset_of (Status n) = cond (eqb n 0) at.bstr0 at.bstr1

-- ---- the identification registers
-- the sheet: "a read-only register that contains $1260"
abbrev pub vendor : ℕ
vendor = 0x1260

-- the papers name no revision; 0 is our choice
abbrev pub revision : ℕ
revision = 0x00

-- BAYCNT: "the only valid values [..] are 0, 1 and 2. If the OS tries to write any other value, the CDP1020 will write a value of 2"
abbrev pub bay_count_max : ℕ
bay_count_max = 2

abbrev pub bay_count : ℕ → ℕ
bay_count v = cond (leb (v % 16) bay_count_max) (v % 16) bay_count_max

-- DBCCR: 4 SECLOCK, 3..0 BAYCNT
abbrev pub capabilities_from : ℕ → ℕ
capabilities_from v = bit_or (bit_and v bit.sec_lock) (bay_count v)

abbrev pub sec_lock_set : Bays → Bool
sec_lock_set s = has_bit bit.sec_lock s.capabilities.value

-- ---- reads: status 0, with no effect
unfoldable pub register_value : Bays → Register → ℕ
register_value s VendorId = vendor
register_value s RevisionId = revision
register_value s SubsystemVendorId = s.subvendor.value
register_value s SubsystemId = s.subsystem.value
register_value s Capabilities = s.capabilities.value
register_value s (Control n) = control_value (bay_of s n).control
register_value s (Status n) = status_value (sec_lock_set s) (bay_of s n)

-- ---- writes
unfoldable pub register_write : Bays → Register → ℕ → Result Bays
register_write s VendorId v = status 2 s
register_write s RevisionId v = status 2 s
register_write s SubsystemVendorId v =
    status (write_status s.subvendor) (with_subvendor s (after_write s.subvendor (bit_and v 0xFFFF)))
register_write s SubsystemId v =
    status (write_status s.subsystem) (with_subsystem s (after_write s.subsystem (bit_and v 0xFFFF)))
register_write s Capabilities v =
    status (write_status s.capabilities) (with_capabilities s (after_write s.capabilities (capabilities_from v)))
register_write s (Control n) v = status 0 (with_bay s n (control_write (bay_of s n) v))
register_write s (Status n) v = status 0 (with_bay s n (status_write (bay_of s n) v))
