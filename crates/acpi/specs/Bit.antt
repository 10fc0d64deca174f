-- Bits of PM1a_STS, PM1a_CNT, the timer and the operand of a pin event, as masks. See docs/CHIP.md, "ACPI". Other files refer to
-- them as `bit.wake_sts`.
use Rattle.std.specs.Prelude.{ℕ}

-- ---- PM1a_STS
-- "TMR_STS (bit 0)"
abbrev pub tmr_sts : ℕ
tmr_sts = 0x0001

-- "4 bus master, bit 4"
abbrev pub bm_sts : ℕ
bm_sts = 0x0010

-- "40h a write sets GBL_STS (bit 5)"
abbrev pub gbl_sts : ℕ
gbl_sts = 0x0020

-- "08h or 09h (PM1a_STS bit 8 or 9)"
abbrev pub pwrbtn_sts : ℕ
pwrbtn_sts = 0x0100

abbrev pub slpbtn_sts : ℕ
slpbtn_sts = 0x0200

-- "3 RTC alarm, bit 10"
abbrev pub rtc_sts : ℕ
rtc_sts = 0x0400

-- "7 button held, bit 11"
abbrev pub pwrbtnor_sts : ℕ
pwrbtnor_sts = 0x0800

-- "a sleeping chip with pending wakes and sets WAKE_STS (bit 15)"
abbrev pub wake_sts : ℕ
wake_sts = 0x8000

-- ---- PM1a_CNT
-- "bit 0 reads SCI_EN"
abbrev pub sci_en : ℕ
sci_en = 0x0001

-- "bit 13 written 1 puts the chip to sleep"
abbrev pub slp_en : ℕ
slp_en = 0x2000

-- ---- the timer
-- the highest of its 24 bits
abbrev pub timer_bit23 : ℕ
timer_bit23 = 0x800000

-- ---- the operand of a pin event
-- "bit 3 new level"
abbrev pub pin_level : ℕ
pin_level = 0x08
