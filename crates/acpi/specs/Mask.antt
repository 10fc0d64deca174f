-- The masks of the ACPI registers. See docs/CHIP.md, "ACPI". Other files refer to them as `mask.pm1a_sts`.
use Rattle.std.specs.Prelude.{ℕ}

-- "0 (4) P_CNT, mask 17h."
abbrev pub p_cnt : ℕ
p_cnt = 0x17

-- "8 (2) PM1a_STS, mask 8F31h"
abbrev pub pm1a_sts : ℕ
pm1a_sts = 0x8F31

-- "10 (2) PM1a_EN, mask 0721h."
abbrev pub pm1a_en : ℕ
pm1a_en = 0x0721

-- "12 (2) PM1a_CNT: stores mask 1C02h"
abbrev pub pm1a_cnt : ℕ
pm1a_cnt = 0x1C02

-- GPE0_STS and GPE0_EN: "All 16 bits."
abbrev pub all_bits : ℕ
all_bits = 0xFFFF
