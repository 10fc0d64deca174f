-- The ACPI block as 45 bytes, and back, in the order of its table in docs/STATE.md.
use Rattle.std.specs.Prelude.{ℕ, zero, suc, ◌+◌, Bool, false, ◌&&◌, List, [], ◌∷◌, ◌++◌, slice_index, slice_index_or}
use Rattle.little_endian.specs.Bytes.{flag_at, flag_byte, four_at, four_bytes, is_flag, two_at, two_bytes}
use Rattle.mask.specs.Every.{all_below}
use Rattle.acpi.specs.declared.Acpi.{Acpi}

-- how many bytes
abbrev pub acpi_size : ℕ
acpi_size = 45

-- ---- the block as bytes
-- the bytes of n maps, and of n levels, from a pin on
abbrev pub map_bytes : ℕ → ℕ → List ℕ → List ℕ
map_bytes zero pin maps = []
map_bytes (suc n) pin maps = two_bytes (slice_index maps pin) ++ map_bytes n (suc pin) maps

abbrev pub level_bytes : ℕ → ℕ → List Bool → List ℕ
level_bytes zero pin levels = []
level_bytes (suc n) pin levels = flag_byte (slice_index_or levels pin false) ∷ level_bytes n (suc pin) levels

abbrev pub acpi_bytes : Acpi → List ℕ
acpi_bytes a =
    (a.pcnt ∷ a.cpu ∷ flag_byte a.scien ∷ two_bytes a.pm1sts)
    ++ (two_bytes a.pm1en
    ++ (two_bytes a.pm1cnt
    ++ (flag_byte a.sleeping
    ∷ (two_bytes a.setupidx
    ++ (two_bytes a.gpe0sts
    ++ (two_bytes a.gpe0en
    ++ (map_bytes 8 0 a.maps ++ (a.irq ∷ (four_bytes a.timer ++ level_bytes 8 0 a.levels)))))))))

-- ---- the block from its bytes
-- n maps, and n levels, from a place in the bytes on
abbrev pub maps_from : ℕ → ℕ → List ℕ → List ℕ
maps_from zero at bytes = []
maps_from (suc n) at bytes = two_at bytes at ∷ maps_from n (at + 2) bytes

abbrev pub levels_from : ℕ → ℕ → List ℕ → List Bool
levels_from zero at bytes = []
levels_from (suc n) at bytes = flag_at bytes at ∷ levels_from n (suc at) bytes

unfoldable pub acpi_from : List ℕ → Acpi
acpi_from bytes = record {
  pcnt = slice_index bytes 0;
  cpu = slice_index bytes 1;
  scien = flag_at bytes 2;
  pm1sts = two_at bytes 3;
  pm1en = two_at bytes 5;
  pm1cnt = two_at bytes 7;
  sleeping = flag_at bytes 9;
  setupidx = two_at bytes 10;
  gpe0sts = two_at bytes 12;
  gpe0en = two_at bytes 14;
  maps = maps_from 8 16 bytes;
  irq = slice_index bytes 32;
  timer = four_at bytes 33;
  levels = levels_from 8 37 bytes;
}

-- ---- can these bytes be an ACPI block? The flags are 0 or 1
abbrev pub levels_saved : List ℕ → Bool
levels_saved bytes = all_below 8 (λ k. is_flag bytes (37 + k))

abbrev pub acpi_saved : List ℕ → Bool
acpi_saved bytes = is_flag bytes 2 && is_flag bytes 9 && levels_saved bytes
