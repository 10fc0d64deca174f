-- The indices of the configuration registers. See docs/CHIP.md, "Configuration". Other files refer to them as
-- `register.activate`. "Data registers: 07h device number [..]. With device number 0Ah: 30h activate [..]; 60h/61h runtime base
-- high/low; 62h/63h key base high/low; F2h key control"
use Rattle.std.specs.Prelude.{ℕ}

abbrev pub device_number : ℕ
device_number = 0x07

abbrev pub activate : ℕ
activate = 0x30

abbrev pub runtime_base_high : ℕ
runtime_base_high = 0x60

abbrev pub runtime_base_low : ℕ
runtime_base_low = 0x61

abbrev pub key_base_high : ℕ
key_base_high = 0x62

abbrev pub key_base_low : ℕ
key_base_low = 0x63

abbrev pub key_control : ℕ
key_control = 0xF2
