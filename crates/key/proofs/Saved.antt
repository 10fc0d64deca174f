-- A key that is saved and loaded is the same key, and 32 bytes that are loaded and saved are the same bytes.
use Prim.Native.Nat.{ℕ}
use mathlib.Core.Path.{◌≡◌, ap}
use mathlib.Core.List.{List}
use lib.ListN.{length}
use Rattle.lists.proofs.Slice.{slice_length, slice_whole}
use Rattle.key.specs.Saved.{key_bytes, key_from, key_size}
use Rattle.key.specs.declared.Key.{Key}

pub record Typed (k : Key) : Type 0 where
  pub bytes : length k.bytes ≡ key_size

pub bytes_length_lem : (k : Key) → length (key_bytes k) ≡ key_size
bytes_length_lem k = slice_length 0 key_size 0 k.bytes

pub load_back : (k : Key) → Typed k → key_from (key_bytes k) ≡ k
load_back k t = ap key_from (slice_whole 0 key_size k.bytes t.bytes)

pub save_back : (bytes : List ℕ) → length bytes ≡ key_size → key_bytes (key_from bytes) ≡ bytes
save_back bytes n = slice_whole 0 key_size bytes n
