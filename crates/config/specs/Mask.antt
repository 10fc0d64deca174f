-- The masks of the configuration registers. See docs/CHIP.md, "Configuration". Other files refer to them as `mask.activate`.
use Rattle.std.specs.Prelude.{ℕ}

-- "30h activate (mask 01h)"
abbrev pub activate : ℕ
activate = 0x01

-- "F2h key control (mask 07h)"
abbrev pub key_control : ℕ
key_control = 0x07

-- "The bases used are masked with FF80h and FFE0h (ours)."
abbrev pub runtime_base : ℕ
runtime_base = 0xFF80

abbrev pub key_base : ℕ
key_base = 0xFFE0
