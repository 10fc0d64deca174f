-- The layout of a record, byte by byte, with every number written out: where each field is, and that numbers have their low byte first.
use Prim.Native.Nat.{ℕ, ◌+◌, ◌*◌}
use mathlib.Core.Path.{◌≡◌, refl}
use mathlib.Core.List.{List, [], ◌∷◌}
use native.Mathlib.Omega.{arith}
use Rattle.record.specs.Record.{bytes_of, record_at}
use Rattle.record.specs.declared.Record.{Record}

same_fields : {m k w p t v m' p' t' v' : ℕ} → m ≡ m' → p ≡ p' → t ≡ t' → v ≡ v'
    → ◌≡◌ {A = Record} (record { mark = m; kind = k; width = w; port = p; target = t; value = v })
    (record { mark = m'; kind = k; width = w; port = p'; target = t'; value = v' })
same_fields a b c d = rw (a, b, c, d)

-- the record that starts a list of bytes
pub layout :
    (m0 m1 k w p0 p1 t0 t1 v0 v1 v2 v3 : ℕ) (rest : List ℕ)
    → record_at (m0 ∷ m1 ∷ k ∷ w ∷ p0 ∷ p1 ∷ t0 ∷ t1 ∷ v0 ∷ v1 ∷ v2 ∷ v3 ∷ rest) 0
    ≡ record {
      mark = m0 + 256 * m1;
      kind = k;
      width = w;
      port = p0 + 256 * p1;
      target = t0 + 256 * t1;
      value = v0 + 256 * v1 + 65536 * v2 + 16777216 * v3;
    }
unfolding record_at
layout m0 m1 k w p0 p1 t0 t1 v0 v1 v2 v3 rest = same_fields (omega arith) (omega arith) (omega arith) (omega arith)

-- the marks: 5Ah A5h in a script, C3h 3Ch in an image. The example has port 002Eh, target 0102h and value 03040506h
pub script_mark :
    bytes_of (record { mark = 0xA55A; kind = 1; width = 4; port = 0x002E; target = 0x0102; value = 0x0304_0506 })
    ≡ 0x5A ∷ 0xA5 ∷ 1 ∷ 4 ∷ 0x2E ∷ 0x00 ∷ 0x02 ∷ 0x01 ∷ 0x06 ∷ 0x05 ∷ 0x04 ∷ 0x03 ∷ []
unfolding bytes_of
script_mark = refl

pub word_mark :
    bytes_of (record { mark = 0x3CC3; kind = 8; width = 0; port = 0; target = 0; value = 0 })
    ≡ 0xC3 ∷ 0x3C ∷ 8 ∷ 0 ∷ 0 ∷ 0 ∷ 0 ∷ 0 ∷ 0 ∷ 0 ∷ 0 ∷ 0 ∷ []
unfolding bytes_of
word_mark = refl
