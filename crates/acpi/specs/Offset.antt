-- The offsets of the ACPI registers from AC00h. See docs/CHIP.md, "ACPI". Other files refer to them as `at.pm1a_sts`.
-- "0 (4) P_CNT [..] 4, 5 (1) P_LVL2, P_LVL3 [..] 6 (1) SMI_CMD [..] 8 (2) PM1a_STS [..] 10 (2) PM1a_EN [..] 12 (2) PM1a_CNT [..]
-- 14 (2) SETUP_IDX [..] 16 (2) GPE0_STS [..] 18 (2) GPE0_EN [..] 20 (4) SETUP_DATA [..] 24 (4) the timer"
use Rattle.std.specs.Prelude.{ℕ}

abbrev pub p_cnt : ℕ
p_cnt = 0

abbrev pub p_lvl2 : ℕ
p_lvl2 = 4

abbrev pub p_lvl3 : ℕ
p_lvl3 = 5

abbrev pub smi_cmd : ℕ
smi_cmd = 6

abbrev pub pm1a_sts : ℕ
pm1a_sts = 8

abbrev pub pm1a_en : ℕ
pm1a_en = 10

abbrev pub pm1a_cnt : ℕ
pm1a_cnt = 12

abbrev pub setup_idx : ℕ
setup_idx = 14

abbrev pub gpe0_sts : ℕ
gpe0_sts = 16

abbrev pub gpe0_en : ℕ
gpe0_en = 18

abbrev pub setup_data : ℕ
setup_data = 20

abbrev pub timer : ℕ
timer = 24
