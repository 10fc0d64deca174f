-- SETUP_IDX, and the registers that SETUP_DATA accesses. See docs/CHIP.md, "Setup registers".
use Rattle.std.specs.Prelude.{ℕ, ◌-◌, Bool, cond, ◌&&◌, ◌||◌, ◌==◌, nat_le, slice_index, slice_set}
use Rattle.access.specs.Block.{Result, status}
use Rattle.acpi.specs.Bit as bit
use Rattle.acpi.specs.Fields.{raise, with_irq, with_maps, with_setupidx}
use Rattle.acpi.specs.Map.{legal_map}
use Rattle.acpi.specs.SetupIndex as index
use Rattle.acpi.specs.declared.Acpi.{Acpi}

-- "14 (2) SETUP_IDX: 00h, 10h to 17h, 40h, 41h; others status 5."
abbrev pub is_map_index : ℕ → Bool
is_map_index i = nat_le index.first_map i && nat_le i index.last_map

abbrev pub is_setup_index : ℕ → Bool
is_setup_index i = i == index.none || is_map_index i || i == index.global_event || i == index.irq

unfoldable pub setup_index_write : Acpi → ℕ → Result Acpi
setup_index_write a v = cond (is_setup_index v) (status 0 (with_setupidx a v)) (status 5 a)

-- What SETUP_DATA reads. Under an index that no block in range holds, it answers as under 00h. That answer is free, and this choice makes
-- the definitions shortest.
-- "20 (4) SETUP_DATA: 10h to 17h the map of pins 0 to 7; 40h [..] reads 0; 41h the IRQ, 0 to 15; 00h reads 0"
unfoldable pub setup_value : Acpi → ℕ
setup_value a =
    cond (is_map_index a.setupidx) (slice_index a.maps (a.setupidx - index.first_map))
    (cond (a.setupidx == index.irq) a.irq 0)

-- "Other values, and an IRQ above 15, are status 5."
unfoldable pub map_write : Acpi → ℕ → ℕ → Result Acpi
map_write a pin v = cond (legal_map v) (status 0 (with_maps a (slice_set a.maps pin v))) (status 5 a)

-- "41h the IRQ, 0 to 15"; reset 2 sets "IRQ 9"
abbrev pub irq_max : ℕ
irq_max = 15

abbrev pub irq_reset : ℕ
irq_reset = 9

unfoldable pub irq_write : Acpi → ℕ → Result Acpi
irq_write a v = cond (nat_le v irq_max) (status 0 (with_irq a v)) (status 5 a)

-- Under an index that no block in range holds, a write is answered as under 00h too.
-- "40h a write sets GBL_STS (bit 5), reads 0; [..] 00h reads 0, writes status 5"
unfoldable pub setup_write : Acpi → ℕ → Result Acpi
setup_write a v =
    cond (is_map_index a.setupidx) (map_write a (a.setupidx - index.first_map) v)
    (cond (a.setupidx == index.global_event) (status 0 (raise a bit.gbl_sts))
    (cond (a.setupidx == index.irq) (irq_write a v) (status 5 a)))
