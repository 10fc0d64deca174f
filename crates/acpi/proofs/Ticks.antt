-- n ticks are the same as n single ticks, each followed by settling. One tick sets TMR_STS exactly from 7FFFFFh and from FFFFFFh,
-- and settling between ticks makes no difference, since the order in which two status bits are set does not matter.
use Rattle.std.proofs.Common.{◌≡◌, ℕ, zero, suc, ◌+◌, ◌/◌, ◌%◌, ◌^◌, ◌<◌, ◌≤◌, Bool, true, false, cond, not, ◌||◌, eqb, sym, refl, ap, ◌∙◌, arith, eq-eqb, ne_eqb}
use mathlib.Core.Bool.{or-false, or-true}
use native.Mathlib.Decide.{ℕ_discrete}
use lib.Bits.{bit_and, bit_or, and_high, or_comm, or_zero_r}
use Rattle.mask.proofs.Bits.{and_or_distrib, or_assoc}
use Rattle.mask.proofs.HasBit.{has_or}
use Rattle.mask.specs.Mask.{has_bit}
use Rattle.acpi.proofs.Settle.{awake, pending_awake, pending_raise, settle_idle, settle_pending}
use Rattle.acpi.specs.Acpi.{acpi_settle}
use Rattle.acpi.specs.Bit as bit
use Rattle.acpi.specs.Event.{bit23_changes, ticked, timer_size}
use Rattle.acpi.specs.Fields.{raise, with_cpu, with_pm1sts, with_sleeping, with_timer}
use Rattle.acpi.specs.Settle.{pending}
use Rattle.acpi.specs.Times.{times}
use Rattle.acpi.specs.declared.Acpi.{Acpi}

-- ---- bit 23
-- bit 23 as part of a quotient, because `omega` does not reason about masks
abbrev bit23 : ℕ → ℕ
bit23 t = t / 2 ^ 23 % 2

changed : (t u : ℕ) → (bit23 t ≡ bit23 u → ⊥) → bit23_changes t u ≡ true
changed t u n =
    ap not (ne_eqb (bit_and t bit.timer_bit23) (bit_and u bit.timer_bit23) (λ e. n (omega (arith, and_high t 1 23, and_high u 1 23))))

unchanged : (t u : ℕ) → bit23 t ≡ bit23 u → bit23_changes t u ≡ false
unchanged t u e =
    ap not (eq-eqb (bit_and t bit.timer_bit23) (bit_and u bit.timer_bit23) (omega (arith, and_high t 1 23, and_high u 1 23)))

-- one tick changes bit 23 exactly from 7FFFFFh, to 800000h, and from FFFFFFh, to 0
pub changes_from : (t : ℕ) → t < timer_size → bit23_changes t ((t + 1) % timer_size) ≡ (eqb t 0x7FFFFF || eqb t 0xFFFFFF)
changes_from t h = pick (ℕ_discrete t 0x7FFFFF) (ℕ_discrete t 0xFFFFFF)
  where
    pick : Dec (t ≡ 0x7FFFFF) → Dec (t ≡ 0xFFFFFF)
        → bit23_changes t ((t + 1) % timer_size) ≡ (eqb t 0x7FFFFF || eqb t 0xFFFFFF)
    pick (yes e) k = changed t ((t + 1) % timer_size) (λ f. omega arith) ∙ rw (eq-eqb t 0x7FFFFF e)
    pick (no n) (yes e) =
        changed t ((t + 1) % timer_size) (λ f. omega arith) ∙ rw (ne_eqb t 0x7FFFFF n, eq-eqb t 0xFFFFFF e)
    pick (no n) (no m) = unchanged t ((t + 1) % timer_size) (omega arith) ∙ rw (ne_eqb t 0x7FFFFF n, ne_eqb t 0xFFFFFF m)

-- ---- settling between ticks
or_swap : (a b c : ℕ) → bit_or (bit_or a b) c ≡ bit_or (bit_or a c) b
or_swap a b c = or_assoc a b c ∙ ap (bit_or a) (or_comm b c) ∙ sym (or_assoc a c b)

-- the block with a timer value, and with TMR_STS set if p is true
abbrev counted : Bool → Acpi → ℕ → Acpi
counted p a v = cond p (raise (with_timer a v) bit.tmr_sts) (with_timer a v)

-- a pending status bit is still pending after ticks
pub pending_ticked : (a : Acpi) (n : ℕ) → pending a ≡ true → pending (ticked a n) ≡ true
unfolding ticked pending
pending_ticked a n h = pick (bit23_changes a.timer ((a.timer + n) % timer_size))
  where
    pick : (p : Bool) → pending (counted p a ((a.timer + n) % timer_size)) ≡ true
    pick true = pending_raise a bit.tmr_sts h
    pick false = h

-- waking up before the ticks is the same as after them: only the order of two status bits differs
awake_ticked : (a : Acpi) (n : ℕ) → awake (ticked (awake a) n) ≡ awake (ticked a n)
unfolding ticked
awake_ticked a n = pick a.sleeping
  where
    both : (s p : Bool) (v : ℕ)
        → awake (counted p (awake (with_sleeping a s)) v) ≡ awake (counted p (with_sleeping a s) v)
    both true true v =
        ap (with_pm1sts (with_cpu (with_timer (with_sleeping a false) v) 0)) (or_swap a.pm1sts bit.wake_sts bit.tmr_sts)
    both true false v = refl
    both false true v = refl
    both false false v = refl

    pick : (s : Bool) → awake (ticked (awake (with_sleeping a s)) n) ≡ awake (ticked (with_sleeping a s) n)
    pick true = both true (bit23_changes a.timer ((a.timer + n) % timer_size)) ((a.timer + n) % timer_size)
    pick false = both false (bit23_changes a.timer ((a.timer + n) % timer_size)) ((a.timer + n) % timer_size)

-- settling before the ticks makes no difference if the block settles after them
pub settle_between : (a : Acpi) (n : ℕ) → acpi_settle (ticked (acpi_settle a) n) ≡ acpi_settle (ticked a n)
settle_between a n = pick (pending a) refl
  where
    pick : (p : Bool) → pending a ≡ p → acpi_settle (ticked (acpi_settle a) n) ≡ acpi_settle (ticked a n)
    pick false h = rw (settle_idle a h)
    pick true h =
        rw (settle_pending a h)
        (settle_pending (ticked (awake a) n) (pending_ticked (awake a) n (pending_awake a h))
        ∙ awake_ticked a n
        ∙ sym (settle_pending (ticked a n) (pending_ticked a n h)))

-- ---- one more tick
counted_twice : (p q : Bool) (a : Acpi) (u v : ℕ) → counted q (counted p a u) v ≡ counted (p || q) a v
counted_twice true true a u v = ap (with_pm1sts (with_timer a v)) (or_assoc a.pm1sts bit.tmr_sts bit.tmr_sts)
counted_twice true false a u v = refl
counted_twice false true a u v = refl
counted_twice false false a u v = refl

-- up to 2^23 ticks change bit 23 at most once, so it differs after the last tick exactly if it changed before this tick or at it
changes_at_most_once : (t n : ℕ) → t < timer_size → n < 2 ^ 23
    → (bit23_changes t ((t + n) % timer_size) || bit23_changes ((t + n) % timer_size) (((t + n) % timer_size + 1) % timer_size))
    ≡ bit23_changes t (((t + n) % timer_size + 1) % timer_size)
changes_at_most_once t n h l = pick (ℕ_discrete (bit23 t) (bit23 u)) (ℕ_discrete (bit23 u) (bit23 v))
  where
    u : ℕ
    u = (t + n) % timer_size

    v : ℕ
    v = (u + 1) % timer_size

    pick : Dec (bit23 t ≡ bit23 u) → Dec (bit23 u ≡ bit23 v) → (bit23_changes t u || bit23_changes u v) ≡ bit23_changes t v
    pick (yes e) (yes f) = rw (unchanged t u e, unchanged u v f, unchanged t v (e ∙ f))
    pick (yes e) (no f) = rw (unchanged t u e, changed u v f, changed t v (λ g. f (sym e ∙ g)))
    pick (no e) (yes f) = rw (changed t u e, changed t v (λ g. e (g ∙ sym f)))
    pick (no e) (no f) = absurd (omega arith)

-- n + 1 ticks are n ticks and one more
pub ticked_more : (a : Acpi) (n : ℕ) → a.timer < timer_size → n < 2 ^ 23
    → ticked a (suc n) ≡ ticked (ticked a n) 1
unfolding ticked
ticked_more a n h l =
    let same : (a.timer + suc n) % timer_size ≡ (u + 1) % timer_size = omega arith in
    ap (λ (x : ℕ). counted (bit23_changes a.timer x) a x) same
    ∙ ap (λ (p : Bool). counted p a ((u + 1) % timer_size)) (sym (changes_at_most_once a.timer n h l))
    ∙ sym (pick (bit23_changes a.timer u))
  where
    u : ℕ
    u = (a.timer + n) % timer_size

    pick : (p : Bool) → ticked (counted p a u) 1 ≡ counted (p || bit23_changes u ((u + 1) % timer_size)) a ((u + 1) % timer_size)
    pick true = counted_twice true (bit23_changes u ((u + 1) % timer_size)) a u ((u + 1) % timer_size)
    pick false = counted_twice false (bit23_changes u ((u + 1) % timer_size)) a u ((u + 1) % timer_size)

-- ---- one tick
-- one tick moves the timer on, and sets TMR_STS exactly from 7FFFFFh and from FFFFFFh
pub one_tick : (a : Acpi) → a.timer < timer_size
    → ticked a 1
    ≡ cond (eqb a.timer 0x7FFFFF || eqb a.timer 0xFFFFFF) (raise (with_timer a ((a.timer + 1) % timer_size)) bit.tmr_sts)
    (with_timer a ((a.timer + 1) % timer_size))
unfolding ticked
one_tick a h = ap (λ (p : Bool). counted p a ((a.timer + 1) % timer_size)) (changes_from a.timer h)

-- settling leaves TMR_STS as it is
settle_keeps_tmr_sts : (a : Acpi) → has_bit bit.tmr_sts (acpi_settle a).pm1sts ≡ has_bit bit.tmr_sts a.pm1sts
settle_keeps_tmr_sts a = pick (pending a) refl
  where
    woken : (s : Bool) → has_bit bit.tmr_sts (awake (with_sleeping a s)).pm1sts ≡ has_bit bit.tmr_sts a.pm1sts
    woken true = rw (and_or_distrib a.pm1sts bit.wake_sts bit.tmr_sts) (rw (or_zero_r (bit_and a.pm1sts bit.tmr_sts)))
    woken false = refl

    pick : (p : Bool) → pending a ≡ p → has_bit bit.tmr_sts (acpi_settle a).pm1sts ≡ has_bit bit.tmr_sts a.pm1sts
    pick false h = rw (settle_idle a h)
    pick true h = rw (settle_pending a h) (woken a.sleeping)

-- after one tick and settling, TMR_STS is set exactly if it was set before, or if the timer was at 7FFFFFh or FFFFFFh
pub one_tick_status : (a : Acpi) → a.timer < timer_size
    → has_bit bit.tmr_sts (acpi_settle (ticked a 1)).pm1sts
    ≡ (has_bit bit.tmr_sts a.pm1sts || (eqb a.timer 0x7FFFFF || eqb a.timer 0xFFFFFF))
one_tick_status a h =
    settle_keeps_tmr_sts (ticked a 1)
    ∙ ap (λ (b : Acpi). has_bit bit.tmr_sts b.pm1sts) (one_tick a h)
    ∙ pick (eqb a.timer 0x7FFFFF || eqb a.timer 0xFFFFFF)
  where
    set : has_bit bit.tmr_sts (bit_or a.pm1sts bit.tmr_sts) ≡ true
    set = rw or_comm (has_or bit.tmr_sts bit.tmr_sts a.pm1sts refl)

    pick : (p : Bool)
        → has_bit bit.tmr_sts (counted p a ((a.timer + 1) % timer_size)).pm1sts ≡ (has_bit bit.tmr_sts a.pm1sts || p)
    pick true = set ∙ sym (or-true (has_bit bit.tmr_sts a.pm1sts))
    pick false = sym (or-false (has_bit bit.tmr_sts a.pm1sts))

-- ---- any number of ticks
-- 0 ticks change nothing
pub no_ticks_lem : (a : Acpi) → a.timer < timer_size → ticked a 0 ≡ a
unfolding ticked
no_ticks_lem a h =
    let same : (a.timer + 0) % timer_size ≡ a.timer = omega arith in
    ap (λ (v : ℕ). counted (bit23_changes a.timer v) a v) same
    ∙ ap (λ (p : Bool). counted p a a.timer) (unchanged a.timer a.timer refl)

-- "1 ticks (0 to 65,535; from 1 up, same as that many single ticks)"
pub ticks : (a : Acpi) (n : ℕ) → a.timer < timer_size → 1 ≤ n → n ≤ 65535
    → acpi_settle (ticked a n) ≡ times n (λ b. acpi_settle (ticked b 1)) a
ticks a zero h k l = absurd (omega arith)
ticks a (suc zero) h k l = refl
ticks a (suc (suc n)) h k l =
    ap acpi_settle (ticked_more a (suc n) h (omega arith))
    ∙ sym (settle_between (ticked a (suc n)) 1)
    ∙ ap (λ (b : Acpi). acpi_settle (ticked b 1)) (ticks a (suc n) h (omega arith) (omega arith))
