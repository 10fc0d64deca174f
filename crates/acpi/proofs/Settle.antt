-- Settling twice is the same as settling once: a pending status bit is still pending after WAKE_STS is set, and a settled block
-- has no pending status bit, or is awake with CPU state 0.
use Rattle.std.proofs.Common.{◌≡◌, ℕ, Bool, true, false, cond, ◌||◌, refl, ap, ◌∙◌}
use mathlib.Core.Bool.{and-false, or-true}
use lib.Bits.{bit_or}
use Rattle.mask.proofs.HasBit.{has_or}
use Rattle.mask.specs.Mask.{has_bit}
use Rattle.acpi.proofs.Legal.{either}
use Rattle.acpi.specs.Acpi.{acpi_settle, fresh_acpi}
use Rattle.acpi.specs.Bit as bit
use Rattle.acpi.specs.Fields.{raise, with_cpu, with_pm1sts, with_sleeping}
use Rattle.acpi.specs.Settle.{pending, wake}
use Rattle.acpi.specs.declared.Acpi.{Acpi}

-- setting more status bits does not end a pending one
pub pending_raise : (a : Acpi) (bits : ℕ) → pending a ≡ true → pending (raise a bits) ≡ true
unfolding pending
pending_raise a bits =
    pick (has_bit a.pm1en a.pm1sts) (has_bit a.gpe0en a.gpe0sts) (has_or a.pm1en a.pm1sts bits)
  where
    more : Bool
    more = has_bit a.pm1en (raise a bits).pm1sts

    pick : (p g : Bool) → (p ≡ true → more ≡ true) → (p || g) ≡ true → (more || g) ≡ true
    pick true g k e = rw (k refl)
    pick false g k e = rw e (or-true more)

-- a block with a pending status bit after settling
abbrev pub awake : Acpi → Acpi
awake a = with_cpu (with_sleeping (with_pm1sts a (cond a.sleeping (bit_or a.pm1sts bit.wake_sts) a.pm1sts)) false) 0

pub pending_awake : (a : Acpi) → pending a ≡ true → pending (awake a) ≡ true
unfolding pending
pending_awake a h = still a.sleeping
  where
    still : (s : Bool) → pending (with_pm1sts a (cond s (bit_or a.pm1sts bit.wake_sts) a.pm1sts)) ≡ true
    still true = pending_raise a bit.wake_sts h
    still false = h

settle_is : (a : Acpi) → acpi_settle a ≡ cond (pending (wake a)) (with_cpu (wake a) 0) (wake a)
unfolding acpi_settle
settle_is a = rw (either (wake a))

-- settling without, and with, a pending status bit
pub settle_idle : (a : Acpi) → pending a ≡ false → acpi_settle a ≡ a
unfolding wake
settle_idle a h = settle_is a ∙ rw (h, and-false a.sleeping, h)

pub settle_pending : (a : Acpi) → pending a ≡ true → acpi_settle a ≡ awake a
unfolding wake pending
settle_pending a h = settle_is a ∙ pick a.sleeping refl
  where
    pick : (s : Bool) → a.sleeping ≡ s → cond (pending (wake a)) (with_cpu (wake a) 0) (wake a) ≡ awake a
    pick true e = rw (e, h, pending_raise (with_sleeping a false) bit.wake_sts h)
    pick false e = rw (e, h)

-- settling such a block again changes nothing
awake_twice : (a : Acpi) → awake (awake a) ≡ awake a
awake_twice a = refl

pub settle_twice : (a : Acpi) → acpi_settle (acpi_settle a) ≡ acpi_settle a
settle_twice a = pick (pending a) refl
  where
    pick : (p : Bool) → pending a ≡ p → acpi_settle (acpi_settle a) ≡ acpi_settle a
    pick false h = ap acpi_settle (settle_idle a h)
    pick true h =
        rw (settle_pending a h) (settle_pending (awake a) (pending_awake a h) ∙ awake_twice a)

-- the fresh block has no pending status bit, so it is settled
pub settle_fresh : acpi_settle fresh_acpi ≡ fresh_acpi
unfolding pending
settle_fresh = settle_idle fresh_acpi refl
