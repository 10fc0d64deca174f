-- An entry of the log is one 64-bit number: the value of a read in its low 32 bits, and the block that owned the port above.
-- See docs/CHIP.md, "Runs".
use Rattle.std.specs.Prelude.{ℕ, ◌+◌, ◌*◌, ◌/◌, ◌%◌}

-- there are 2^32 values
abbrev pub value_count : ℕ
value_count = 0x1_0000_0000

-- "The log keeps it beside each value"
abbrev pub log_entry : (owner value : ℕ) → ℕ
log_entry owner value = owner * value_count + value

-- the two numbers of an entry
abbrev pub entry_owner : ℕ → ℕ
entry_owner e = e / value_count

abbrev pub entry_value : ℕ → ℕ
entry_value e = e % value_count
