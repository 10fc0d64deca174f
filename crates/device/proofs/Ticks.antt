-- An event of n ticks has the same effect as n events of 1 tick, for 1 to 65,535 ticks and every device in range. An event of 0 ticks
-- only settles the device, and an event of 1 tick sets TMR_STS exactly from 7FFFFFh and from FFFFFFh. All this follows from laws
-- of the ACPI block, because ticks change no other block.
use Prim.Native.Nat.{ℕ, zero, suc, ◌+◌, ◌^◌, ◌≤◌, ◌<◌}
use mathlib.Core.Path.{◌≡◌, refl, sym, ap, ◌∙◌}
use mathlib.Core.Bool.{true, ◌||◌}
use native.Mathlib.Omega.{arith}
use lib.Dec.{eqb}
use Rattle.mask.specs.Mask.{has_bit}
use Rattle.acpi.proofs.Range.{timer_below}
use Rattle.acpi.proofs.Ticks.{no_ticks_lem, one_tick_status, ticks}
use Rattle.acpi.specs.Acpi.{acpi_event, acpi_settle}
use Rattle.acpi.specs.Bit as bit
use Rattle.acpi.specs.Event.{ticked, timer_size}
use Rattle.acpi.specs.Times.{times}
use Rattle.acpi.specs.declared.Acpi.{Acpi}
use Rattle.device.proofs.Range.{acpi_in_range_lem}
use Rattle.device.specs.Device.{device_in_range, settle_device, with_acpi}
use Rattle.device.specs.Event.{apply_event, event_block, event_effect, kind_of, operand_of}
use Rattle.device.specs.declared.Device.{Device}

timer_in_range : (d : Device) → device_in_range d ≡ true → d.acpi.timer < timer_size
timer_in_range d h = timer_below d.acpi (acpi_in_range_lem d h)

-- an event of n ticks changes only the ACPI block
pub ticks_applied : (d : Device) (n : ℕ) → n ≤ 65535 → apply_event d (2 ^ 24 + n) ≡ with_acpi d (acpi_settle (ticked d.acpi n))
unfolding apply_event event_effect event_block acpi_event
ticks_applied d n l =
    let k : kind_of (2 ^ 24 + n) ≡ 1 = omega arith in
    let o : operand_of (2 ^ 24 + n) ≡ n = omega arith in
    ap (λ (i : ℕ). settle_device (event_effect d i (operand_of (2 ^ 24 + n)))) k ∙ ap (λ (i : ℕ). settle_device (event_effect d 1 i)) o

-- n events of 1 tick change only the ACPI block
singles : (d : Device) (n : ℕ)
    → times n (λ e. apply_event e (2 ^ 24 + 1)) d ≡ with_acpi d (times n (λ b. acpi_settle (ticked b 1)) d.acpi)
singles d zero = refl
singles d (suc n) =
    ap (λ (e : Device). apply_event e (2 ^ 24 + 1)) (singles d n)
    ∙ ticks_applied (with_acpi d (times n (λ b. acpi_settle (ticked b 1)) d.acpi)) 1 (omega arith)

pub ticks_are_singles : (d : Device) (n : ℕ) → device_in_range d ≡ true → 1 ≤ n → n ≤ 65535
    → apply_event d (2 ^ 24 + n) ≡ times n (λ e. apply_event e (2 ^ 24 + 1)) d
ticks_are_singles d n h k l =
    ticks_applied d n l
    ∙ ap (with_acpi d) (ticks d.acpi n (timer_in_range d h) k l)
    ∙ sym (singles d n)

pub no_ticks_settle : (d : Device) → device_in_range d ≡ true → apply_event d (2 ^ 24) ≡ settle_device d
no_ticks_settle d h =
    ticks_applied d 0 (omega arith)
    ∙ ap (λ (a : Acpi). with_acpi d (acpi_settle a)) (no_ticks_lem d.acpi (timer_in_range d h))

pub one_tick_event : (d : Device) → device_in_range d ≡ true
    → has_bit bit.tmr_sts (apply_event d (2 ^ 24 + 1)).acpi.pm1sts
    ≡ (has_bit bit.tmr_sts d.acpi.pm1sts || (eqb d.acpi.timer 0x7FFFFF || eqb d.acpi.timer 0xFFFFFF))
one_tick_event d h =
    ap (λ (e : Device). has_bit bit.tmr_sts e.acpi.pm1sts) (ticks_applied d 1 (omega arith))
    ∙ one_tick_status d.acpi (timer_in_range d h)
