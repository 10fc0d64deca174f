-- The indices of the monitor registers that have an effect. See docs/CHIP.md, "Monitor". Other files refer to them as `at.lock`.
use Rattle.std.specs.Prelude.{ℕ}

abbrev pub lock : ℕ
lock = 0x40

abbrev pub interrupt_control : ℕ
interrupt_control = 0x7C

abbrev pub interrupt_enables : ℕ
interrupt_enables = 0x7E

abbrev pub voltage_status : ℕ
voltage_status = 0x83
