-- A monitor that is saved and loaded is the same monitor. Bytes that can be a monitor, loaded and saved, are the same bytes.
-- Each byte after the index is what a read of its register returns.
use Prim.Native.Nat.{ℕ, suc, ◌<◌}
use mathlib.Core.Path.{◌≡◌, refl, sym, ap, ◌∙◌}
use mathlib.Core.Bool.{true, not}
use mathlib.Core.List.{List}
use native.Mathlib.Omega.{arith}
use borrow.Author.Tests.{eqb-true, not-true}
use lib.Dec.{eqb}
use lib.ListN.{get_or, length}
use Rattle.access.specs.Status.{done}
use Rattle.lists.proofs.Slice.{slice_whole}
use Rattle.lists.specs.Slice.{slice}
use Rattle.mask.proofs.Every.{all_at}
use Rattle.monitor.proofs.Table.{map_at}
use Rattle.monitor.specs.Monitor.{data_read, register_of, with_index}
use Rattle.monitor.specs.Saved.{monitor_bytes, monitor_from, monitor_saved, monitor_size, saved_byte}
use Rattle.monitor.specs.Table.{absent, kind_of, listed_indices, read_only_indices, reset_of}
use Rattle.monitor.specs.declared.Monitor.{Monitor}

-- the array has 12 elements; the types of the code ensure it
pub record Typed (m : Monitor) : Type 0 where
  pub registers : length m.registers ≡ 12

pub bytes_length_lem : (m : Monitor) → length (monitor_bytes m) ≡ monitor_size
bytes_length_lem m = refl

pub bytes_saved : (m : Monitor) → monitor_saved (monitor_bytes m) ≡ true
bytes_saved m = refl

pub load_back : (m : Monitor) → Typed m → monitor_from (monitor_bytes m) ≡ m
load_back m t =
    ap {B = Monitor} (λ (l : List ℕ). record { index = m.index; registers = l })
    (slice_whole 0 12 m.registers t.registers)

pub save_back :
    (bytes : List ℕ) → length bytes ≡ monitor_size → ((k : ℕ) → get_or bytes k 0 < 256) → monitor_saved bytes ≡ true
    → monitor_bytes (monitor_from bytes) ≡ bytes
save_back bytes n byte h = kept ∙ slice_whole 0 monitor_size bytes n
  where
    at_reset : (k : ℕ) → k < 7 → saved_byte bytes (get_or read_only_indices k 0) ≡ reset_of (get_or read_only_indices k 0)
    at_reset k l =
        eqb-true (saved_byte bytes (get_or read_only_indices k 0)) (reset_of (get_or read_only_indices k 0))
        (all_at 7 (λ j. eqb (saved_byte bytes (get_or read_only_indices j 0)) (reset_of (get_or read_only_indices j 0))) h k l)

    kept : monitor_bytes (monitor_from bytes) ≡ slice 0 monitor_size 0 bytes
    kept =
        rw (
          at_reset 0 (omega arith),
          at_reset 1 (omega arith),
          at_reset 2 (omega arith),
          at_reset 3 (omega arith),
          at_reset 4 (omega arith),
          at_reset 5 (omega arith),
          at_reset 6 (omega arith),
        )

-- byte k + 1 is what a read of the k-th listed register returns
pub byte_reads :
    (m : Monitor) (k : ℕ) → k < 19
    → (data_read (with_index m (get_or listed_indices k 0))).answer ≡ done (get_or (monitor_bytes m) (suc k) 0)
unfolding data_read
byte_reads m k l =
    rw (not-true (eqb (kind_of (get_or listed_indices k 0)) absent)
    (all_at 19 (λ j. not (eqb (kind_of (get_or listed_indices j 0)) absent)) refl k l))
    (ap done (sym (map_at (register_of m) listed_indices k l)))
