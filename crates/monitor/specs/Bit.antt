-- Bits of the monitor registers, as masks. See docs/CHIP.md, "Monitor". Other files refer to them as `bit.lock`.
use Rattle.std.specs.Prelude.{ℕ}

-- 40h: "Lock is bit 1"
abbrev pub lock : ℕ
lock = 0x02

-- 7Ch: "INTEN bit 2"
abbrev pub inten : ℕ
inten = 0x04

-- 7Eh: "VTR bit 4, VBAT bit 1, VOLT bit 0"
abbrev pub vtr_enable : ℕ
vtr_enable = 0x10

abbrev pub vbat_enable : ℕ
vbat_enable = 0x02

abbrev pub volt_enable : ℕ
volt_enable = 0x01

-- 83h: "VBAT bit 1, VTR bit 0"
abbrev pub vbat_status : ℕ
vbat_status = 0x02

abbrev pub vtr_status : ℕ
vtr_status = 0x01
