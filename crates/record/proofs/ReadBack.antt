-- A record that is written and read is the same record, wherever its bytes are, if each field fits its bytes.
use Prim.Native.Nat.{ℕ, ◌+◌, ◌<◌}
use mathlib.Core.Path.{◌≡◌, refl, ◌∙◌}
use mathlib.Core.List.{List, ◌++◌}
use lib.ListN.{length}
use lib.Seq.{get_or-append-add}
use native.Mathlib.Nat.{mod-eq_of_lt}
use native.Mathlib.Omega.{arith}
use Rattle.little_endian.proofs.ReadBack.{four_back, four_after, two_back, two_after}
use Rattle.record.specs.Record.{bytes_of, record_at, record_size}
use Rattle.record.specs.declared.Record.{Record}

-- each field fits its bytes
pub record Fits (r : Record) : Type 0 where
  pub mark : r.mark < 65536
  pub kind : r.kind < 256
  pub width : r.width < 256
  pub port : r.port < 65536
  pub target : r.target < 65536
  pub value : r.value < 0x1_0000_0000

pub twelve_bytes : (r : Record) → length (bytes_of r) ≡ record_size
unfolding bytes_of
twelve_bytes r = refl

-- other bytes in front do not matter
after_front : (front bytes : List ℕ) → record_at (front ++ bytes) (length front) ≡ record_at bytes 0
unfolding record_at
after_front front bytes =
    let z : length front + 0 ≡ length front = omega arith in
    rw (
      rw z at (two_after front bytes 0),
      get_or-append-add front bytes 2 0,
      get_or-append-add front bytes 3 0,
      two_after front bytes 4,
      two_after front bytes 6,
      four_after front bytes 8,
    )

at_once : (r : Record) (back : List ℕ) → Fits r → record_at (bytes_of r ++ back) 0 ≡ r
unfolding record_at bytes_of
at_once r back f =
    rw (
      two_back r.mark f.mark,
      mod-eq_of_lt f.kind,
      mod-eq_of_lt f.width,
      two_back r.port f.port,
      two_back r.target f.target,
      four_back r.value f.value,
    )

pub read_back_lem : (front back : List ℕ) (r : Record) → Fits r → record_at (front ++ (bytes_of r ++ back)) (length front) ≡ r
read_back_lem front back r f = after_front front (bytes_of r ++ back) ∙ at_once r back f
