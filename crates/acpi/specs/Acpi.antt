-- The ACPI block as a whole: resets, range, accesses, events and settling. See docs/CHIP.md, "ACPI" and "Events".
use Rattle.std.specs.Prelude.{ℕ, ◌%◌, Bool, false, cond, ◌||◌, List, [], ◌∷◌, replicate, ◌==◌, nat_le, nat_lt, slice_index}
use Rattle.access.specs.Block.{Result, status}
use Rattle.access.specs.declared.Access.{Access}
use Rattle.lists.specs.Tests.{all_hold}
use Rattle.mask.specs.Every.{all_below}
use Rattle.mask.specs.Mask.{has_bit, within}
use Rattle.acpi.specs.Bit as bit
use Rattle.acpi.specs.Event.{pin_level, ticked, timer_size}
use Rattle.acpi.specs.Fields.{raise, with_cpu}
use Rattle.acpi.specs.Map.{legal_map}
use Rattle.acpi.specs.Mask as mask
use Rattle.acpi.specs.Registers.{register_read, register_write, takes}
use Rattle.acpi.specs.Settle.{sci_on, smi_on, wake}
use Rattle.acpi.specs.Setup.{irq_max, irq_reset, is_setup_index}
use Rattle.acpi.specs.declared.Acpi.{Acpi}

-- ---- resets
-- "Reset 2 also the ACPI block: all 0 and awake, IRQ 9, timer 0, CPU state 0; pin levels stay."
abbrev pub reset_state : List Bool → Acpi
reset_state levels = record {
  pcnt = 0;
  cpu = 0;
  scien = false;
  pm1sts = 0;
  pm1en = 0;
  pm1cnt = 0;
  sleeping = false;
  setupidx = 0;
  gpe0sts = 0;
  gpe0en = 0;
  maps = replicate 8 0;
  irq = irq_reset;
  timer = 0;
  levels = levels;
}

-- "Reset 3 also [..] pin levels 0"
abbrev pub fresh_acpi : Acpi
fresh_acpi = reset_state (replicate 8 false)

-- resets 0 and 1 keep the block
unfoldable pub acpi_reset : Acpi → ℕ → Acpi
acpi_reset a level = cond (level == 0 || level == 1) a (cond (level == 2) (reset_state a.levels) fresh_acpi)

-- ---- "State in range: every register within its mask and legal values, [..] timer below 2^24, CPU state 0, 2 or 3"
abbrev pub is_cpu_state : ℕ → Bool
is_cpu_state v = v == 0 || v == 2 || v == 3

abbrev pub map_in_range : List ℕ → ℕ → Bool
map_in_range maps k = legal_map (slice_index maps k)

-- GPE0_STS and GPE0_EN take all 16 bits
abbrev pub range_tests : Acpi → List Bool
range_tests a =
    within mask.p_cnt a.pcnt
    ∷ is_cpu_state a.cpu
    ∷ within mask.pm1a_sts a.pm1sts
    ∷ within mask.pm1a_en a.pm1en
    ∷ within mask.pm1a_cnt a.pm1cnt
    ∷ is_setup_index a.setupidx
    ∷ nat_le a.irq irq_max
    ∷ nat_lt a.timer timer_size
    ∷ all_below 8 (map_in_range a.maps)
    ∷ []

unfoldable pub acpi_in_range : Acpi → Bool
acpi_in_range a = all_hold (range_tests a)

-- ---- accesses, events and settling
-- "any other offset or width in the range is status 1"
unfoldable pub acpi_access : Acpi → ℕ → Access → Result Acpi
acpi_access a offset x =
    cond (takes offset x.width) (cond x.write (register_write a offset x.value) (register_read a offset))
    (status 1 a)

-- "1 ticks [..]; 2 pin (0 to 15: bits 2 to 0 pin, bit 3 new level [..]); 3 RTC alarm, bit 10; 4 bus master, bit 4; [..] 7
-- button held, bit 11. Kinds 3, 4 and 7 [..] set PM1a_STS." Kind 5 belongs to the monitor and kind 6 to the device.
unfoldable pub acpi_event : Acpi → ℕ → ℕ → Acpi
acpi_event a kind operand =
    cond (kind == 1) (ticked a operand)
    (cond (kind == 2) (pin_level a (operand % 8) (has_bit bit.pin_level operand))
    (cond (kind == 3) (raise a bit.rtc_sts)
    (cond (kind == 4) (raise a bit.bm_sts)
    (cond (kind == 7) (raise a bit.pwrbtnor_sts) a))))

-- "After every event and access, in order: a sleeping chip with pending wakes and sets WAKE_STS (bit 15); [..] either [SCI
-- or SMI] sets CPU state 0."
unfoldable pub acpi_settle : Acpi → Acpi
acpi_settle a = cond (sci_on (wake a) || smi_on (wake a)) (with_cpu (wake a) 0) (wake a)
