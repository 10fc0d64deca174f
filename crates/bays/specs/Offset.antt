-- The offsets of the bay registers from AD00h: "Registers stand at that document's own addresses above AD00h". See docs/CHIP.md,
-- "Bays". Other files refer to them as `at.dbccr`.
use Rattle.std.specs.Prelude.{ℕ}

abbrev pub vendor_id : ℕ
vendor_id = 0x00

abbrev pub revision_id : ℕ
revision_id = 0x04

abbrev pub subsystem_vendor_id : ℕ
subsystem_vendor_id = 0x08

abbrev pub subsystem_id : ℕ
subsystem_id = 0x0A

abbrev pub dbccr : ℕ
dbccr = 0x0C

abbrev pub bcer0 : ℕ
bcer0 = 0x10

abbrev pub bstr0 : ℕ
bstr0 = 0x14

abbrev pub bcer1 : ℕ
bcer1 = 0x18

-- the sheet has no register at 1Ch
abbrev pub bstr1 : ℕ
bstr1 = 0x20
