-- The configuration as 9 bytes, and back. See docs/STATE.md. The two bases are stored high byte first.
use Rattle.std.specs.Prelude.{ℕ, ◌+◌, Bool, List, [], ◌∷◌, get_or}
use Rattle.little_endian.specs.Bytes.{flag_at, flag_byte, is_flag, two}
use Rattle.config.specs.Base.{high, low}
use Rattle.config.specs.Fields.{config}
use Rattle.config.specs.declared.Config.{Config}

-- how many bytes
abbrev pub config_size : ℕ
config_size = 9

abbrev pub config_bytes : Config → List ℕ
config_bytes g =
    flag_byte g.unlocked ∷ g.index ∷ g.number ∷ g.activate ∷ high g.runtime_base ∷ low g.runtime_base
    ∷ high g.key_base ∷ low g.key_base ∷ g.control ∷ []

-- the base whose high byte is at a place, with its low byte after it
abbrev pub base_at : List ℕ → ℕ → ℕ
base_at bytes at = two (get_or bytes (at + 1) 0) (get_or bytes at 0)

unfoldable pub config_from : List ℕ → Config
config_from bytes =
    config (flag_at bytes 0) (get_or bytes 1 0) (get_or bytes 2 0) (get_or bytes 3 0) (base_at bytes 4) (base_at bytes 6)
    (get_or bytes 8 0)

-- can these bytes be a configuration? The flag is 0 or 1
abbrev pub config_saved : List ℕ → Bool
config_saved bytes = is_flag bytes 0
