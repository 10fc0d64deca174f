-- The key as 32 bytes, in order, and back. See docs/STATE.md. Any byte can be a key byte.
use Rattle.std.specs.Prelude.{ℕ, List}
use Rattle.lists.specs.Slice.{slice}
use Rattle.key.specs.declared.Key.{Key}

-- how many bytes
abbrev pub key_size : ℕ
key_size = 32

abbrev pub key_bytes : Key → List ℕ
key_bytes k = slice 0 key_size 0 k.bytes

abbrev pub key_from : List ℕ → Key
key_from bytes = record { bytes = bytes }
