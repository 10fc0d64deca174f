-- The monitor as 20 bytes, and back: the index, and then the value of each listed register. See docs/STATE.md.
use Rattle.std.specs.Prelude.{ℕ, Bool, List, ◌∷◌, map, eqb, get_or}
use Rattle.monitor.specs.Monitor.{monitor, register_of}
use Rattle.monitor.specs.Table.{all_of, listed_indices, place_in, read_only_indices, reset_of, stored_indices}
use Rattle.monitor.specs.declared.Monitor.{Monitor}

-- how many bytes
abbrev pub monitor_size : ℕ
monitor_size = 20

abbrev pub monitor_bytes : Monitor → List ℕ
monitor_bytes m = m.index ∷ map (register_of m) listed_indices

-- the byte of the register at a listed index
abbrev pub saved_byte : List ℕ → ℕ → ℕ
saved_byte bytes i = get_or bytes (place_in i 1 listed_indices) 0

abbrev pub monitor_from : List ℕ → Monitor
monitor_from bytes = monitor (get_or bytes 0 0) (map (saved_byte bytes) stored_indices)

-- "read-only monitor registers at their reset"
abbrev pub monitor_saved : List ℕ → Bool
monitor_saved bytes = all_of read_only_indices (λ i. eqb (saved_byte bytes i) (reset_of i))
