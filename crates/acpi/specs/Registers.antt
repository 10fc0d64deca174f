-- The registers of the ACPI block, by their offset from AC00h. See docs/CHIP.md, "ACPI".
use Rattle.std.specs.Prelude.{ℕ, Bool, true, false, cond, ◌||◌, ◌==◌, bit_and, bit_or}
use Rattle.access.specs.Block.{Result, with_block, status}
use Rattle.access.specs.Status.{done}
use Rattle.mask.specs.Mask.{cleared, has_bit}
use Rattle.acpi.specs.Bit as bit
use Rattle.acpi.specs.Fields.{
  with_cpu,
  with_gpe0en,
  with_gpe0sts,
  with_pcnt,
  with_pm1cnt,
  with_pm1en,
  with_pm1sts,
  with_scien,
  with_sleeping,
}
use Rattle.acpi.specs.Mask as mask
use Rattle.acpi.specs.Offset as at
use Rattle.acpi.specs.Setup.{setup_index_write, setup_value, setup_write}
use Rattle.acpi.specs.declared.Acpi.{Acpi}

-- "Offset from AC00h, width; any other offset or width in the range is status 1."
unfoldable pub takes : ℕ → ℕ → Bool
takes offset width =
    cond (offset == at.p_cnt || offset == at.setup_data || offset == at.timer) (width == 4)
    (cond (offset == at.p_lvl2 || offset == at.p_lvl3 || offset == at.smi_cmd) (width == 1)
    (cond
    (offset == at.pm1a_sts || offset == at.pm1a_en || offset == at.pm1a_cnt || offset == at.setup_idx
    || offset == at.gpe0_sts || offset == at.gpe0_en)
    (width == 2)
    false))

-- ---- reads
-- "12 (2) PM1a_CNT: [..] bit 0 reads SCI_EN; [..] bits 13 and 2 read 0"
abbrev pub control_read : Acpi → ℕ
control_read a = cond a.scien (bit_or a.pm1cnt bit.sci_en) a.pm1cnt

-- the value of the register at an offset; "6 (1) SMI_CMD: [..] reads 0"
unfoldable pub register_value : Acpi → ℕ → ℕ
register_value a offset =
    cond (offset == at.p_cnt) a.pcnt
    (cond (offset == at.pm1a_sts) a.pm1sts
    (cond (offset == at.pm1a_en) a.pm1en
    (cond (offset == at.pm1a_cnt) (control_read a)
    (cond (offset == at.setup_idx) a.setupidx
    (cond (offset == at.gpe0_sts) a.gpe0sts
    (cond (offset == at.gpe0_en) a.gpe0en
    (cond (offset == at.setup_data) (setup_value a)
    (cond (offset == at.timer) a.timer 0))))))))

-- "4, 5 (1) P_LVL2, P_LVL3: read 0, a read puts the CPU state to 2, 3"
unfoldable pub register_read : Acpi → ℕ → Result Acpi
register_read a offset =
    cond (offset == at.p_lvl2) (with_block (done 0) (with_cpu a 2))
    (cond (offset == at.p_lvl3) (with_block (done 0) (with_cpu a 3)) (with_block (done (register_value a offset)) a))

-- ---- writes
-- "6 (1) SMI_CMD: 1 sets SCI_EN, 2 clears it, other values status 5"
unfoldable pub command_write : Acpi → ℕ → Result Acpi
command_write a v =
    cond (v == 1) (status 0 (with_scien a true)) (cond (v == 2) (status 0 (with_scien a false)) (status 5 a))

-- "12 (2) PM1a_CNT: stores mask 1C02h, [..] bit 13 written 1 puts the chip to sleep; [..] bit 2 does nothing."
unfoldable pub control_write : Acpi → ℕ → Result Acpi
control_write a v =
    cond (has_bit bit.slp_en v) (status 0 (with_sleeping (with_pm1cnt a (bit_and v mask.pm1a_cnt)) true))
    (status 0 (with_pm1cnt a (bit_and v mask.pm1a_cnt)))

-- "0 (4) P_CNT, mask 17h. [..] 8 (2) PM1a_STS, mask 8F31h, write 1 to clear. 10 (2) PM1a_EN, mask 0721h. [..] 16 (2)
-- GPE0_STS, write 1 to clear. 18 (2) GPE0_EN. All 16 bits." A write to P_LVL2, P_LVL3 or the timer has status 2.
unfoldable pub register_write : Acpi → ℕ → ℕ → Result Acpi
register_write a offset v =
    cond (offset == at.p_cnt) (status 0 (with_pcnt a (bit_and v mask.p_cnt)))
    (cond (offset == at.smi_cmd) (command_write a v)
    (cond (offset == at.pm1a_sts) (status 0 (with_pm1sts a (cleared mask.all_bits a.pm1sts (bit_and v mask.all_bits))))
    (cond (offset == at.pm1a_en) (status 0 (with_pm1en a (bit_and v mask.pm1a_en)))
    (cond (offset == at.pm1a_cnt) (control_write a v)
    (cond (offset == at.setup_idx) (setup_index_write a v)
    (cond (offset == at.gpe0_sts) (status 0 (with_gpe0sts a (cleared mask.all_bits a.gpe0sts (bit_and v mask.all_bits))))
    (cond (offset == at.gpe0_en) (status 0 (with_gpe0en a (bit_and v mask.all_bits)))
    (cond (offset == at.setup_data) (setup_write a v) (status 2 a)))))))))
