-- An ACPI block that is saved and loaded is the same block. Bytes that can be an ACPI block, loaded and saved, are the same
-- bytes.
use Rattle.std.proofs.Common.{◌≡◌, ℕ, ◌+◌, ◌<◌, true, false, ◌&&◌, List, length, get_or, refl, ◌∙◌, arith}
use Rattle.lists.proofs.Slice.{slice_whole}
use Rattle.lists.specs.Slice.{slice}
use Rattle.little_endian.proofs.ReadBack.{
  byte_flag,
  byte0_four,
  byte0_two,
  byte1_four,
  byte1_two,
  byte2_four,
  byte3_four,
  flag_back,
  flag_fits,
  four_back,
  two_back,
}
use Rattle.little_endian.specs.Bytes.{byte0, byte1, flag_at, flag_byte, is_flag, two}
use Rattle.mask.proofs.Every.{all_at, and_left, and_right}
use Rattle.acpi.specs.Saved.{acpi_bytes, acpi_from, acpi_saved, acpi_size, levels_from, levels_saved, maps_from}
use Rattle.acpi.specs.declared.Acpi.{Acpi}

-- each field fits its bytes, and each array has its length; the types of the code ensure it
pub record Typed (a : Acpi) : Type 0 where
  pub pm1sts : a.pm1sts < 65536
  pub pm1en : a.pm1en < 65536
  pub pm1cnt : a.pm1cnt < 65536
  pub setupidx : a.setupidx < 65536
  pub gpe0sts : a.gpe0sts < 65536
  pub gpe0en : a.gpe0en < 65536
  pub map : (k : ℕ) → get_or a.maps k 0 < 65536
  pub maps : length a.maps ≡ 8
  pub timer : a.timer < 0x1_0000_0000
  pub levels : length a.levels ≡ 8

-- ---- a block, saved and loaded
pub bytes_length_lem : (a : Acpi) → length (acpi_bytes a) ≡ acpi_size
bytes_length_lem a = refl

pub bytes_saved : (a : Acpi) → acpi_saved (acpi_bytes a) ≡ true
bytes_saved a = simp flag_fits

module _ (a : Acpi) (t : Typed a) where
  maps_back : maps_from 8 16 (acpi_bytes a) ≡ a.maps
  maps_back =
      let b : (k : ℕ) → two (byte0 (get_or a.maps k 0)) (byte1 (get_or a.maps k 0)) ≡ get_or a.maps k 0 =
      λ k. two_back (get_or a.maps k 0) (t.map k) in
      rw (b 0, b 1, b 2, b 3, b 4, b 5, b 6, b 7) (slice_whole 0 8 a.maps t.maps)

  levels_back : levels_from 8 37 (acpi_bytes a) ≡ a.levels
  levels_back = simp flag_back (slice_whole false 8 a.levels t.levels)

  pub load_back : acpi_from (acpi_bytes a) ≡ a
  unfolding acpi_from
  load_back =
      rw (
        maps_back,
        levels_back,
        flag_back a.scien,
        flag_back a.sleeping,
        two_back a.pm1sts t.pm1sts,
        two_back a.pm1en t.pm1en,
        two_back a.pm1cnt t.pm1cnt,
        two_back a.setupidx t.setupidx,
        two_back a.gpe0sts t.gpe0sts,
        two_back a.gpe0en t.gpe0en,
        four_back a.timer t.timer,
      )

-- ---- bytes, loaded and saved
module _ (bytes : List ℕ) (byte : (k : ℕ) → get_or bytes k 0 < 256) (saved : acpi_saved bytes ≡ true) where
  low_at : (i j : ℕ) → byte0 (two (get_or bytes i 0) (get_or bytes j 0)) ≡ get_or bytes i 0
  low_at i j = byte0_two (get_or bytes i 0) (get_or bytes j 0) (byte i)

  high_at : (i j : ℕ) → byte1 (two (get_or bytes i 0) (get_or bytes j 0)) ≡ get_or bytes j 0
  high_at i j = byte1_two (get_or bytes i 0) (get_or bytes j 0) (byte i) (byte j)

  flags : (is_flag bytes 2 && is_flag bytes 9) ≡ true
  flags = and_left (is_flag bytes 2 && is_flag bytes 9) (levels_saved bytes) saved

  level_at : (k : ℕ) → k < 8 → flag_byte (flag_at bytes (37 + k)) ≡ get_or bytes (37 + k) 0
  level_at k l =
      byte_flag (get_or bytes (37 + k) 0)
      (all_at 8 (λ j. is_flag bytes (37 + j)) (and_right (is_flag bytes 2 && is_flag bytes 9) (levels_saved bytes) saved) k l)

  bytes_back : acpi_bytes (acpi_from bytes) ≡ slice 0 acpi_size 0 bytes
  unfolding acpi_from
  bytes_back =
      let b : ℕ → ℕ = λ k. get_or bytes k 0 in
      rw (
        byte_flag (b 2) (and_left (is_flag bytes 2) (is_flag bytes 9) flags),
        byte_flag (b 9) (and_right (is_flag bytes 2) (is_flag bytes 9) flags),
        byte0_four (b 33) (b 34) (b 35) (b 36) (byte 33) (byte 34) (byte 35) (byte 36),
        byte1_four (b 33) (b 34) (b 35) (b 36) (byte 33) (byte 34) (byte 35) (byte 36),
        byte2_four (b 33) (b 34) (b 35) (b 36) (byte 33) (byte 34) (byte 35) (byte 36),
        byte3_four (b 33) (b 34) (b 35) (b 36) (byte 33) (byte 34) (byte 35) (byte 36),
        level_at 0 (omega arith),
        level_at 1 (omega arith),
        level_at 2 (omega arith),
        level_at 3 (omega arith),
        level_at 4 (omega arith),
        level_at 5 (omega arith),
        level_at 6 (omega arith),
        level_at 7 (omega arith),
      )
      (simp (low_at, high_at))

pub save_back :
    (bytes : List ℕ) → length bytes ≡ acpi_size → ((k : ℕ) → get_or bytes k 0 < 256) → acpi_saved bytes ≡ true
    → acpi_bytes (acpi_from bytes) ≡ bytes
save_back bytes n byte saved = bytes_back bytes byte saved ∙ slice_whole 0 acpi_size bytes n
