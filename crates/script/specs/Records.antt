-- The records of a script, read from its bytes. See docs/CHIP.md, "Records".
use Rattle.std.specs.Prelude.{ℕ, zero, suc, ◌*◌, ◌/◌, List, [], ◌∷◌, length}
use Rattle.record.specs.Record.{record_at, record_size}
use Rattle.record.specs.declared.Record.{Record}

-- n records, from this place on
abbrev pub records_from : ℕ → ℕ → List ℕ → List Record
records_from zero place bytes = []
records_from (suc n) place bytes = record_at bytes (record_size * place) ∷ records_from n (suc place) bytes

abbrev pub record_count : List ℕ → ℕ
record_count bytes = length bytes / record_size

unfoldable pub records_of : List ℕ → List Record
records_of bytes = records_from (record_count bytes) 0 bytes
