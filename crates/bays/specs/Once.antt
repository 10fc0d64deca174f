-- A field that is written once: the three identification registers, and the form factor bits of a bay. See docs/CHIP.md, "Bays".
use Rattle.std.specs.Prelude.{ℕ, true, false, cond}
use Rattle.bays.specs.declared.once.Once.{Once}

abbrev pub fresh_once : Once
fresh_once = record { value = 0; written = false }

-- "written once after power-on, by the first write to their register whatever its value, and then read-only"
unfoldable pub after_write : Once → ℕ → Once
after_write o v = cond o.written o (record { value = v; written = true })

-- the status of a write to a register that is nothing but such a field: status 2 is "a write to a read-only register"
unfoldable pub write_status : Once → ℕ
write_status o = cond o.written 2 0
