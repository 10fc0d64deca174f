-- The two bytes of a base, each with its own index: "60h/61h runtime base high/low; 62h/63h key base high/low".
use Rattle.std.specs.Prelude.{ℕ}
use Rattle.little_endian.specs.Bytes.{byte0, byte1, two}

abbrev pub high : ℕ → ℕ
high base = byte1 base

abbrev pub low : ℕ → ℕ
low base = byte0 base

-- the base after a write to one of its bytes
abbrev pub with_high : ℕ → ℕ → ℕ
with_high base v = two (low base) v

abbrev pub with_low : ℕ → ℕ → ℕ
with_low base v = two v (high base)
