-- Bays that are saved and loaded are the same bays. Bytes that can be the bays, loaded and saved, are the same bytes. The second is shown
-- once for a field that is written once and once for a bay, from any place on, and then put together for the block.
use Prim.Native.Nat.{ℕ, zero, suc, ◌+◌, ◌<◌}
use mathlib.Core.Path.{◌≡◌, refl, ap₂, ◌∙◌}
use mathlib.Core.Bool.{true}
use mathlib.Core.List.{List, [], ◌∷◌, ◌++◌}
use lib.ListN.{get_or, length}
use native.Mathlib.Nat.{add-zero}
use native.Mathlib.Omega.{arith}
use Rattle.lists.proofs.Slice.{slice_whole}
use Rattle.little_endian.proofs.ReadBack.{byte_flag, byte0_two, byte1_two, flag_back, flag_fits, two_back}
use Rattle.little_endian.specs.Bytes.{byte0, byte1, flag_at, flag_byte, is_flag, two}
use Rattle.mask.proofs.Every.{and_left, and_right}
use Rattle.bays.specs.Saved.{
  bay_bytes,
  bay_from,
  bay_saved,
  bay_size,
  bays_bytes,
  bays_from,
  bays_saved,
  bays_size,
  once_bytes,
  once_from,
  once_size,
}
use Rattle.bays.specs.declared.Bays.{Bays}

-- each value that is saved as two bytes fits them; the types of the code ensure it. Requests and states are saved as they are
pub record Typed (s : Bays) : Type 0 where
  pub subvendor : s.subvendor.value < 65536
  pub subsystem : s.subsystem.value < 65536
  pub capabilities : s.capabilities.value < 65536
  pub form0 : s.bay0.form.value < 65536
  pub form1 : s.bay1.form.value < 65536

pub bytes_length_lem : (s : Bays) → length (bays_bytes s) ≡ bays_size
bytes_length_lem s = refl

pub bytes_saved : (s : Bays) → bays_saved (bays_bytes s) ≡ true
unfolding bay_saved
bytes_saved s = simp flag_fits

-- ---- saved and loaded
pub load_back : (s : Bays) → Typed s → bays_from (bays_bytes s) ≡ s
unfolding bays_from bay_from
load_back s t =
    rw (
      two_back s.subvendor.value t.subvendor,
      two_back s.subsystem.value t.subsystem,
      two_back s.capabilities.value t.capabilities,
      two_back s.bay0.form.value t.form0,
      two_back s.bay1.form.value t.form1,
    )
    (simp flag_back)

-- ---- loaded and saved
-- n bytes from place `at + k` on. If `at` is a numeral, this is a slice
abbrev part : List ℕ → (at n k : ℕ) → List ℕ
part bytes at zero k = []
part bytes at (suc n) k = get_or bytes (at + k) 0 ∷ part bytes at n (suc k)

module _ (bytes : List ℕ) (byte : (k : ℕ) → get_or bytes k 0 < 256) where
  flag_at_lem : (k : ℕ) → is_flag bytes k ≡ true → flag_byte (flag_at bytes k) ≡ get_or bytes k 0
  flag_at_lem k h = byte_flag (get_or bytes k 0) h

  low_at : (i j : ℕ) → byte0 (two (get_or bytes i 0) (get_or bytes j 0)) ≡ get_or bytes i 0
  low_at i j = byte0_two (get_or bytes i 0) (get_or bytes j 0) (byte i)

  high_at : (i j : ℕ) → byte1 (two (get_or bytes i 0) (get_or bytes j 0)) ≡ get_or bytes j 0
  high_at i j = byte1_two (get_or bytes i 0) (get_or bytes j 0) (byte i) (byte j)

  once_save_back : (at : ℕ) → is_flag bytes (at + 2) ≡ true → once_bytes (once_from bytes at) ≡ part bytes at once_size 0
  once_save_back at h = rw (add-zero, flag_at_lem (at + 2) h, low_at at (at + 1), high_at at (at + 1))

  bay_save_back : (at : ℕ) → bay_saved bytes at ≡ true → bay_bytes (bay_from bytes at) ≡ part bytes at bay_size 0
  unfolding bay_from bay_saved
  bay_save_back at h =
      let seven : at + 6 + 1 ≡ at + 7 = omega arith in
      let eight : at + 6 + 2 ≡ at + 8 = omega arith in
      rw (add-zero, low_at (at + 6) (at + 6 + 1), high_at (at + 6) (at + 6 + 1), seven, eight) (search (flag_at_lem, and_left, and_right))

pub save_back :
    (bytes : List ℕ) → length bytes ≡ bays_size → ((k : ℕ) → get_or bytes k 0 < 256) → bays_saved bytes ≡ true
    → bays_bytes (bays_from bytes) ≡ bytes
unfolding bays_from
save_back bytes n byte h =
    ap₂ ◌++◌ (once_save_back bytes byte 0 (search (and_left, and_right)))
    (ap₂ ◌++◌ (once_save_back bytes byte 3 (search (and_left, and_right)))
    (ap₂ ◌++◌ (once_save_back bytes byte 6 (search (and_left, and_right)))
    (ap₂ ◌++◌ (bay_save_back bytes byte 9 (search (and_left, and_right)))
    (bay_save_back bytes byte 25 (search (and_left, and_right))))))
    ∙ slice_whole 0 bays_size bytes n
