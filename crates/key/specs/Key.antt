-- The 32 key bytes, under the read-lock and the write-lock of key control. See docs/CHIP.md, "Key".
use Rattle.std.specs.Prelude.{ℕ, ◌%◌, cond, ltb, get_or, set, replicate}
use Rattle.access.specs.declared.Access.{Access}
use Rattle.access.specs.Block.{Result, with_block, status, takes_byte}
use Rattle.access.specs.Status.{Answer, done, status_only}
use Rattle.mask.specs.Mask.{has_bit}
use Rattle.key.specs.Saved.{key_size}
use Rattle.key.specs.declared.Key.{Key}

abbrev pub fresh_key : Key
fresh_key = record { bytes = replicate key_size 0 }

-- "Reset 3 also key bytes [..] 0"
abbrev pub vbat_reset : ℕ
vbat_reset = 3

abbrev pub key_reset : Key → ℕ → Key
key_reset k level = cond (ltb level vbat_reset) k fresh_key

-- "Key control: bit 2 write-lock, bit 1 read-lock"
abbrev pub read_lock : ℕ
read_lock = 0x02

abbrev pub write_lock : ℕ
write_lock = 0x04

-- "A key read under read-lock and a key write under write-lock have status 2."
unfoldable pub key_read : Key → ℕ → ℕ → Answer
key_read k control offset = cond (has_bit read_lock control) (status_only 2) (done (get_or k.bytes offset 0))

unfoldable pub key_write : Key → ℕ → ℕ → ℕ → Result Key
key_write k control offset v =
    cond (has_bit write_lock control) (status 2 k) (status 0 (record { bytes = set k.bytes offset v }))

-- an access to the key byte at an offset; `control` is key control, which belongs to the configuration
unfoldable pub key_access : Key → ℕ → ℕ → Access → Result Key
key_access k control offset x =
    cond (takes_byte x.width)
    (cond x.write (key_write k control offset (x.value % 256)) (with_block (key_read k control offset) k))
    (status 1 k)
