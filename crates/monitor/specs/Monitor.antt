-- The monitor: index, data register, Lock, sensor event, interrupt and reset. See docs/CHIP.md, "Monitor".
use Rattle.std.specs.Prelude.{ℕ, ◌%◌, Bool, cond, ◌&&◌, ◌||◌, List, map, eqb, get_or, set}
use Rattle.std.specs.Int.Bits.{bit_and, bit_or}
use Rattle.access.specs.Block.{Result, with_block, status, takes_byte}
use Rattle.access.specs.Status.{done}
use Rattle.access.specs.declared.Access.{Access}
use Rattle.mask.specs.Mask.{within, cleared, has_bit}
use Rattle.monitor.specs.Bit as bit
use Rattle.monitor.specs.Index as at
use Rattle.monitor.specs.Table.{
  absent,
  read_only,
  lock,
  lockable,
  never_locked,
  write1_clears,
  all_of,
  kind_of,
  reset_of,
  mask_of,
  slot_of,
  stored_indices,
}
use Rattle.monitor.specs.declared.Monitor.{Monitor}

abbrev pub monitor : ℕ → List ℕ → Monitor
monitor index registers = record { index = index; registers = registers }

-- the stored register at an index
abbrev pub register : Monitor → ℕ → ℕ
register m i = get_or m.registers (slot_of i) 0

-- the monitor with a value stored in this register
abbrev pub with_register : Monitor → ℕ → ℕ → Monitor
with_register m i v = monitor m.index (set m.registers (slot_of i) v)

-- the value of the register at a listed index; a read-only register always has its reset value
abbrev pub register_of : Monitor → ℕ → ℕ
register_of m i = cond (eqb (kind_of i) read_only) (reset_of i) (register m i)

-- ---- "Reset 1 also the monitor, its index and Lock."
abbrev pub fresh_monitor : Monitor
fresh_monitor = monitor 0 (map reset_of stored_indices)

abbrev pub monitor_reset : Monitor → ℕ → Monitor
monitor_reset m level = cond (eqb level 0) m fresh_monitor

-- "State in range: every register within its mask"
abbrev pub monitor_in_range : Monitor → Bool
monitor_in_range m = all_of stored_indices (λ i. within (mask_of i) (register m i))

-- ---- the index: "One byte index, readable, and data."
abbrev pub with_index : Monitor → ℕ → Monitor
with_index m v = monitor v m.registers

abbrev pub index_access : Monitor → Access → Result Monitor
index_access m x = cond x.write (status 0 (with_index m (x.value % 256))) (with_block (done m.index) m)

-- ---- the data register. "those not listed are status 4"
unfoldable pub data_read : Monitor → Result Monitor
data_read m = cond (eqb (kind_of m.index) absent) (status 4 m) (with_block (done (register_of m m.index)) m)

-- 40h: "Lock is bit 1"
abbrev pub lock_set : Monitor → Bool
lock_set m = has_bit bit.lock (register m at.lock)

-- "A locked register written while Lock is set: status 2."
unfoldable pub lockable_write : Monitor → ℕ → ℕ → Result Monitor
lockable_write m i v = cond (lock_set m) (status 2 m) (status 0 (with_register m i v))

-- a write to the register at an index, by its kind. "Lock is bit 1: writing 1 sets it, 0 does nothing"
unfoldable pub write_as : ℕ → Monitor → ℕ → ℕ → Result Monitor
write_as kind m i v =
    cond (eqb kind lock) (lockable_write m i (bit_or (register m i) (bit_and v (mask_of i))))
    (cond (eqb kind read_only) (status 2 m)
    (cond (eqb kind lockable) (lockable_write m i (bit_and v (mask_of i)))
    (cond (eqb kind write1_clears) (status 0 (with_register m i (cleared 0xFF (register m i) v)))
    (cond (eqb kind never_locked) (status 0 (with_register m i (bit_and v (mask_of i)))) (status 4 m)))))

abbrev pub data_write : Monitor → ℕ → Result Monitor
data_write m v = write_as (kind_of m.index) m m.index v

abbrev pub data_access : Monitor → Access → Result Monitor
data_access m x = cond x.write (data_write m (x.value % 256)) (data_read m)

-- offset 0 is the index, any other the data register
unfoldable pub monitor_access : Monitor → ℕ → Access → Result Monitor
monitor_access m offset x =
    cond (takes_byte x.width) (cond (eqb offset 0) (index_access m x) (data_access m x)) (status 1 m)

-- ---- "5 sensor (0 to 3, set in 83h)"
abbrev pub with_sensors : Monitor → ℕ → Monitor
with_sensors m bits = with_register m at.voltage_status (bit_or (register m at.voltage_status) bits)

abbrev pub monitor_event : Monitor → ℕ → ℕ → Monitor
monitor_event m kind operand = cond (eqb kind 5) (with_sensors m (operand % 4)) m

-- "The monitor interrupt is on exactly if INTEN, VOLT and either both VTR bits or both VBAT bits are set."
abbrev pub interrupt : Monitor → Bool
interrupt m =
    has_bit bit.inten (register m at.interrupt_control)
    && has_bit bit.volt_enable (register m at.interrupt_enables)
    && ((has_bit bit.vtr_enable (register m at.interrupt_enables) && has_bit bit.vtr_status (register m at.voltage_status))
    || (has_bit bit.vbat_enable (register m at.interrupt_enables) && has_bit bit.vbat_status (register m at.voltage_status)))
