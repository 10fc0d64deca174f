-- The fresh ACPI block is in range, and every reset, access, event and settling keeps it in range: values are masked or tested
-- before they are stored, status bits are set within the mask, and the timer is a remainder.
use Rattle.std.proofs.Common.{◌≡◌, ℕ, ◌+◌, ◌-◌, ◌%◌, ◌<◌, Bool, true, false, ◌&&◌, ◌||◌, eqb, ltb, leb, List, get_or, set, refl, arith, ltb-true, lt-ltb}
use lib.Bits.{bit_and, bit_or}
use Rattle.access.specs.Block.{Result}
use Rattle.access.specs.declared.Access.{Access}
use Rattle.lists.proofs.Tests.{each_holds}
use Rattle.mask.proofs.Branch.{branch, branch_on}
use Rattle.mask.proofs.Mask.{within_and, within_masked, within_or}
use Rattle.mask.proofs.Store.{all_stored}
use Rattle.mask.specs.Every.{all_below}
use Rattle.mask.specs.Mask.{cleared, has_bit, within}
use Rattle.acpi.specs.Acpi.{
  acpi_access,
  acpi_event,
  acpi_in_range,
  acpi_reset,
  acpi_settle,
  fresh_acpi,
  is_cpu_state,
  map_in_range,
  range_tests,
}
use Rattle.acpi.specs.Bit as bit
use Rattle.acpi.specs.Event.{bit23_changes, pin_level, raise_mapped, ticked, timer_size}
use Rattle.acpi.specs.Fields.{
  raise,
  with_cpu,
  with_irq,
  with_levels,
  with_maps,
  with_pcnt,
  with_pm1cnt,
  with_pm1en,
  with_pm1sts,
  with_setupidx,
  with_sleeping,
  with_timer,
}
use Rattle.acpi.specs.Map.{in_direction, is_gpe_target, legal_map}
use Rattle.acpi.specs.Mask as mask
use Rattle.acpi.specs.Offset as at
use Rattle.acpi.specs.Registers.{command_write, control_write, register_read, register_write, takes}
use Rattle.acpi.specs.Settle.{pending, sci_on, smi_on, wake}
use Rattle.acpi.specs.Setup.{irq_max, irq_write, is_map_index, is_setup_index, map_write, setup_index_write, setup_write}
use Rattle.acpi.specs.SetupIndex as index
use Rattle.acpi.specs.declared.Acpi.{Acpi}

pub fresh_in_range : acpi_in_range fresh_acpi ≡ true
unfolding acpi_in_range legal_map
fresh_in_range = refl

-- ---- the range test as one test for each field, and back
record Ranged (a : Acpi) : Type 0 where
  pcnt : within mask.p_cnt a.pcnt ≡ true
  cpu : is_cpu_state a.cpu ≡ true
  pm1sts : within mask.pm1a_sts a.pm1sts ≡ true
  pm1en : within mask.pm1a_en a.pm1en ≡ true
  pm1cnt : within mask.pm1a_cnt a.pm1cnt ≡ true
  setupidx : is_setup_index a.setupidx ≡ true
  irq : leb a.irq irq_max ≡ true
  timer : ltb a.timer timer_size ≡ true
  maps : all_below 8 (map_in_range a.maps) ≡ true

apart : (a : Acpi) → acpi_in_range a ≡ true → Ranged a
unfolding acpi_in_range
apart a h =
    let test = each_holds (range_tests a) h in
    record {
      pcnt = test 0 (omega arith);
      cpu = test 1 (omega arith);
      pm1sts = test 2 (omega arith);
      pm1en = test 3 (omega arith);
      pm1cnt = test 4 (omega arith);
      setupidx = test 5 (omega arith);
      irq = test 6 (omega arith);
      timer = test 7 (omega arith);
      maps = test 8 (omega arith);
    }

together : (a : Acpi)
    → within mask.p_cnt a.pcnt ≡ true
    → is_cpu_state a.cpu ≡ true
    → within mask.pm1a_sts a.pm1sts ≡ true
    → within mask.pm1a_en a.pm1en ≡ true
    → within mask.pm1a_cnt a.pm1cnt ≡ true
    → is_setup_index a.setupidx ≡ true
    → leb a.irq irq_max ≡ true
    → ltb a.timer timer_size ≡ true
    → all_below 8 (map_in_range a.maps) ≡ true
    → acpi_in_range a ≡ true
unfolding acpi_in_range
together a p c s e n x i t m = rw (p, c, s, e, n, x, i, t, m)

-- a block is in range; the block after an access is in range
abbrev StaysInRange : Acpi → Type 0
StaysInRange a = acpi_in_range a ≡ true

abbrev ResultInRange : Result Acpi → Type 0
ResultInRange r = StaysInRange r.block

module _ (a : Acpi) (h : acpi_in_range a ≡ true) where
  r : Ranged a
  r = apart a h

  pub timer_below : a.timer < timer_size
  timer_below = ltb-true a.timer timer_size r.timer

  -- ---- one field changed; pin levels, SCI_EN, sleeping, GPE0_STS and GPE0_EN take any value
  kept_pcnt : (v : ℕ) → within mask.p_cnt v ≡ true → StaysInRange (with_pcnt a v)
  kept_pcnt v k =
      together (with_pcnt a v) k r.cpu r.pm1sts r.pm1en r.pm1cnt r.setupidx r.irq r.timer r.maps

  kept_cpu : (v : ℕ) → is_cpu_state v ≡ true → StaysInRange (with_cpu a v)
  kept_cpu v k =
      together (with_cpu a v) r.pcnt k r.pm1sts r.pm1en r.pm1cnt r.setupidx r.irq r.timer r.maps

  kept_pm1sts : (v : ℕ) → within mask.pm1a_sts v ≡ true → StaysInRange (with_pm1sts a v)
  kept_pm1sts v k =
      together (with_pm1sts a v) r.pcnt r.cpu k r.pm1en r.pm1cnt r.setupidx r.irq r.timer r.maps

  kept_pm1en : (v : ℕ) → within mask.pm1a_en v ≡ true → StaysInRange (with_pm1en a v)
  kept_pm1en v k =
      together (with_pm1en a v) r.pcnt r.cpu r.pm1sts k r.pm1cnt r.setupidx r.irq r.timer r.maps

  kept_pm1cnt : (v : ℕ) → within mask.pm1a_cnt v ≡ true → StaysInRange (with_pm1cnt a v)
  kept_pm1cnt v k =
      together (with_pm1cnt a v) r.pcnt r.cpu r.pm1sts r.pm1en k r.setupidx r.irq r.timer r.maps

  kept_setupidx : (v : ℕ) → is_setup_index v ≡ true → StaysInRange (with_setupidx a v)
  kept_setupidx v k =
      together (with_setupidx a v) r.pcnt r.cpu r.pm1sts r.pm1en r.pm1cnt k r.irq r.timer r.maps

  kept_irq : (v : ℕ) → leb v irq_max ≡ true → StaysInRange (with_irq a v)
  kept_irq v k =
      together (with_irq a v) r.pcnt r.cpu r.pm1sts r.pm1en r.pm1cnt r.setupidx k r.timer r.maps

  kept_timer : (v : ℕ) → ltb v timer_size ≡ true → StaysInRange (with_timer a v)
  kept_timer v k =
      together (with_timer a v) r.pcnt r.cpu r.pm1sts r.pm1en r.pm1cnt r.setupidx r.irq k r.maps

  kept_maps : (ms : List ℕ) → all_below 8 (map_in_range ms) ≡ true → StaysInRange (with_maps a ms)
  kept_maps ms k =
      together (with_maps a ms) r.pcnt r.cpu r.pm1sts r.pm1en r.pm1cnt r.setupidx r.irq r.timer k

  kept_raise : (bits : ℕ) → within mask.pm1a_sts bits ≡ true → StaysInRange (raise a bits)
  kept_raise bits k = kept_pm1sts (bit_or a.pm1sts bits) (within_or mask.pm1a_sts a.pm1sts bits r.pm1sts k)

  -- ---- accesses
  kept_read : (offset : ℕ) → ResultInRange (register_read a offset)
  unfolding register_read
  kept_read offset =
      branch ResultInRange (eqb offset at.p_lvl2) (kept_cpu 2 refl)
      (branch ResultInRange (eqb offset at.p_lvl3) (kept_cpu 3 refl) h)

  kept_map : (pin v : ℕ) → ResultInRange (map_write a pin v)
  unfolding map_write
  kept_map pin v =
      branch_on ResultInRange (legal_map v)
      (λ l. kept_maps (set a.maps pin v) (all_stored 8 (λ k. legal_map) a.maps pin v l r.maps))
      (λ l. h)

  kept_setup : (v : ℕ) → ResultInRange (setup_write a v)
  unfolding setup_write irq_write
  kept_setup v =
      branch ResultInRange (is_map_index a.setupidx) (kept_map (a.setupidx - index.first_map) v)
      (branch ResultInRange (eqb a.setupidx index.global_event) (kept_raise bit.gbl_sts refl)
      (branch ResultInRange (eqb a.setupidx index.irq) (branch_on ResultInRange (leb v irq_max) (kept_irq v) (λ l. h)) h))

  kept_setup_index : (v : ℕ) → ResultInRange (setup_index_write a v)
  unfolding setup_index_write
  kept_setup_index v = branch_on ResultInRange (is_setup_index v) (kept_setupidx v) (λ l. h)

  kept_command : (v : ℕ) → ResultInRange (command_write a v)
  unfolding command_write acpi_in_range
  kept_command v = branch ResultInRange (eqb v 1) h (branch ResultInRange (eqb v 2) h h)

  kept_control : (v : ℕ) → ResultInRange (control_write a v)
  unfolding control_write acpi_in_range
  kept_control v =
      let k = kept_pm1cnt (bit_and v mask.pm1a_cnt) (within_masked mask.pm1a_cnt v) in
      branch ResultInRange (has_bit bit.slp_en v) k k

  kept_write : (offset v : ℕ) → ResultInRange (register_write a offset v)
  unfolding register_write acpi_in_range
  kept_write offset v =
      branch ResultInRange (eqb offset at.p_cnt) (kept_pcnt (bit_and v mask.p_cnt) (within_masked mask.p_cnt v))
      (branch ResultInRange (eqb offset at.smi_cmd) (kept_command v)
      (branch ResultInRange (eqb offset at.pm1a_sts)
      (kept_pm1sts (cleared mask.all_bits a.pm1sts (bit_and v mask.all_bits))
      (within_and mask.pm1a_sts a.pm1sts (mask.all_bits - bit_and v mask.all_bits) r.pm1sts))
      (branch ResultInRange (eqb offset at.pm1a_en) (kept_pm1en (bit_and v mask.pm1a_en) (within_masked mask.pm1a_en v))
      (branch ResultInRange (eqb offset at.pm1a_cnt) (kept_control v)
      (branch ResultInRange (eqb offset at.setup_idx) (kept_setup_index v)
      (branch ResultInRange (eqb offset at.gpe0_sts) h
      (branch ResultInRange (eqb offset at.gpe0_en) h (branch ResultInRange (eqb offset at.setup_data) (kept_setup v) h))))))))

  pub access_in_range : (offset : ℕ) (x : Access) → acpi_in_range (acpi_access a offset x).block ≡ true
  unfolding acpi_access
  access_in_range offset x =
      branch ResultInRange (takes offset x.width) (branch ResultInRange x.write (kept_write offset x.value) (kept_read offset)) h

  -- ---- resets
  pub reset_in_range : (level : ℕ) → acpi_in_range (acpi_reset a level) ≡ true
  unfolding acpi_reset acpi_in_range legal_map
  reset_in_range level = branch StaysInRange (eqb level 0 || eqb level 1) h (branch StaysInRange (eqb level 2) refl refl)

-- ---- events and settling
kept_ticked : (a : Acpi) → StaysInRange a → (n : ℕ) → StaysInRange (ticked a n)
unfolding ticked
kept_ticked a h n =
    let v = (a.timer + n) % timer_size in
    let k = kept_timer a h v (lt-ltb v timer_size (omega arith)) in
    branch StaysInRange (bit23_changes a.timer v) (kept_raise (with_timer a v) k bit.tmr_sts refl) k

kept_mapped : (a : Acpi) → StaysInRange a → (m : ℕ) → StaysInRange (raise_mapped a m)
unfolding raise_mapped acpi_in_range
kept_mapped a h m =
    branch StaysInRange (eqb (m % 256) 0x08) (kept_raise a h bit.pwrbtn_sts refl)
    (branch StaysInRange (eqb (m % 256) 0x09) (kept_raise a h bit.slpbtn_sts refl)
    (branch StaysInRange (is_gpe_target (m % 256)) h h))

kept_pin : (a : Acpi) → StaysInRange a → (pin : ℕ) (level : Bool) → StaysInRange (pin_level a pin level)
unfolding pin_level acpi_in_range
kept_pin a h pin level =
    branch StaysInRange (in_direction (get_or a.maps pin 0) (get_or a.levels pin false) level)
    (kept_mapped (with_levels a (set a.levels pin level)) h (get_or a.maps pin 0))
    h

pub event_in_range : (a : Acpi) → acpi_in_range a ≡ true → (kind operand : ℕ) → acpi_in_range (acpi_event a kind operand) ≡ true
unfolding acpi_event
event_in_range a h kind operand =
    branch StaysInRange (eqb kind 1) (kept_ticked a h operand)
    (branch StaysInRange (eqb kind 2) (kept_pin a h (operand % 8) (has_bit bit.pin_level operand))
    (branch StaysInRange (eqb kind 3) (kept_raise a h bit.rtc_sts refl)
    (branch StaysInRange (eqb kind 4) (kept_raise a h bit.bm_sts refl)
    (branch StaysInRange (eqb kind 7) (kept_raise a h bit.pwrbtnor_sts refl) h))))

kept_wake : (a : Acpi) → StaysInRange a → StaysInRange (wake a)
unfolding wake acpi_in_range
kept_wake a h = branch StaysInRange (a.sleeping && pending a) (kept_raise (with_sleeping a false) h bit.wake_sts refl) h

pub settle_in_range : (a : Acpi) → acpi_in_range a ≡ true → acpi_in_range (acpi_settle a) ≡ true
unfolding acpi_settle
settle_in_range a h =
    let w = kept_wake a h in
    branch StaysInRange (sci_on (wake a) || smi_on (wake a)) (kept_cpu (wake a) w 0 refl) w
