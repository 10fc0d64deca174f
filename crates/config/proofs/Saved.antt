-- A configuration that is saved and loaded is the same configuration. Bytes that can be a configuration, loaded and saved, are
-- the same bytes.
use Prim.Native.Nat.{ℕ, ◌<◌}
use mathlib.Core.Path.{◌≡◌, refl, ◌∙◌}
use mathlib.Core.Bool.{true}
use mathlib.Core.List.{List}
use lib.ListN.{get_or, length}
use Rattle.lists.proofs.Slice.{slice_whole}
use Rattle.lists.specs.Slice.{slice}
use Rattle.little_endian.proofs.ReadBack.{byte_flag, byte0_two, byte1_two, flag_back, flag_fits, two_back}
use Rattle.little_endian.specs.Bytes.{two}
use Rattle.config.specs.Base.{high, low}
use Rattle.config.specs.Saved.{config_bytes, config_from, config_saved, config_size}
use Rattle.config.specs.declared.Config.{Config}

-- the bases fit two bytes; the types of the code ensure it
pub record Typed (g : Config) : Type 0 where
  pub runtime_base_lem : g.runtime_base < 65536
  pub key_base_lem : g.key_base < 65536

pub bytes_length_lem : (g : Config) → length (config_bytes g) ≡ config_size
bytes_length_lem g = refl

pub bytes_saved : (g : Config) → config_saved (config_bytes g) ≡ true
bytes_saved g = flag_fits g.unlocked

pub load_back : (g : Config) → Typed g → config_from (config_bytes g) ≡ g
unfolding config_from
load_back g t =
    rw (flag_back g.unlocked, two_back g.runtime_base t.runtime_base_lem, two_back g.key_base t.key_base_lem)

module _ (bytes : List ℕ) (byte : (k : ℕ) → get_or bytes k 0 < 256) where
  low_back : (i j : ℕ) → low (two (get_or bytes j 0) (get_or bytes i 0)) ≡ get_or bytes j 0
  low_back i j = byte0_two (get_or bytes j 0) (get_or bytes i 0) (byte j)

  high_back : (i j : ℕ) → high (two (get_or bytes j 0) (get_or bytes i 0)) ≡ get_or bytes i 0
  high_back i j = byte1_two (get_or bytes j 0) (get_or bytes i 0) (byte j) (byte i)

  kept : config_saved bytes ≡ true → config_bytes (config_from bytes) ≡ slice 0 config_size 0 bytes
  unfolding config_from
  kept h = rw (byte_flag (get_or bytes 0 0) h, high_back 4 5, low_back 4 5, high_back 6 7, low_back 6 7)

pub save_back :
    (bytes : List ℕ) → length bytes ≡ config_size → ((k : ℕ) → get_or bytes k 0 < 256) → config_saved bytes ≡ true
    → config_bytes (config_from bytes) ≡ bytes
save_back bytes n byte h = kept bytes byte h ∙ slice_whole 0 config_size bytes n
