-- Bits of the bay registers and of the operand of a line event, as masks. See docs/CHIP.md, "Bays". Other files refer to them as
-- `bit.lock_ctl`. The names are those of the controller's data sheet, source document 001.
use Rattle.std.specs.Prelude.{ℕ}

-- ---- BCER, the control and enable register of a bay
abbrev pub lock_ctl : ℕ
lock_ctl = 0x80

abbrev pub remreq_en : ℕ
remreq_en = 0x08

abbrev pub devstschg_en : ℕ
devstschg_en = 0x04

abbrev pub remevtwak_en : ℕ
remevtwak_en = 0x02

abbrev pub pwr_ctl : ℕ
pwr_ctl = 0x01

-- ---- BSTR, the status register of a bay
abbrev pub sl_sts : ℕ
sl_sts = 0x80

abbrev pub remreq_sts : ℕ
remreq_sts = 0x08

abbrev pub devstschg : ℕ
devstschg = 0x04

abbrev pub prsn_sts1394 : ℕ
prsn_sts1394 = 0x02

abbrev pub prsn_sts_usb : ℕ
prsn_sts_usb = 0x01

-- ---- DBCCR, the capabilities register
abbrev pub sec_lock : ℕ
sec_lock = 0x10

-- ---- the operand of a line event. "bits 0 to 3 the new levels, 1 for asserted, of 1394, USB, removal button, security"
abbrev pub line1394 : ℕ
line1394 = 0x01

abbrev pub line_usb : ℕ
line_usb = 0x02

abbrev pub line_button : ℕ
line_button = 0x04

abbrev pub line_security : ℕ
line_security = 0x08
