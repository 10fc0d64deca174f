-- The values of SETUP_IDX. See docs/CHIP.md, "Setup registers". Other files refer to them as `index.irq`.
-- "10h to 17h the map of pins 0 to 7; 40h a write sets GBL_STS (bit 5), reads 0; 41h the IRQ, 0 to 15; 00h reads 0, writes status
-- 5."
use Rattle.std.specs.Prelude.{ℕ}

abbrev pub none : ℕ
none = 0x00

abbrev pub first_map : ℕ
first_map = 0x10

abbrev pub last_map : ℕ
last_map = 0x17

abbrev pub global_event : ℕ
global_event = 0x40

abbrev pub irq : ℕ
irq = 0x41
