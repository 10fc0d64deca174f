-- The table of the monitor registers, and the lists of indices that follow from it. See docs/CHIP.md, "Monitor".
use Rattle.std.specs.Prelude.{ℕ, zero, suc, ◌-◌, Bool, true, not, cond, ◌&&◌, List, [], ◌∷◌, ◌++◌, leb, eqb, get_or, length}
use Rattle.mask.specs.Every.{all_below}
use Rattle.monitor.specs.declared.tables.RegisterKind.{RegisterKind}
use Rattle.monitor.specs.declared.tables.RegisterKind.TheVariants.{Absent, ReadOnly, Lock, Lockable, Unlocked, Clearable}

-- a row of the table: first and last index, kind, reset value, mask
pub record Row : Type 0 where
  pub first : ℕ
  pub last : ℕ
  pub kind : ℕ
  pub reset : ℕ
  pub mask : ℕ

-- ---- the columns "Kind" and "Locked by Lock": `lock` is 40h itself, `lockable` is read/write and locked by Lock,
-- `never_locked` is read/write and not locked
abbrev pub absent : ℕ
absent = 0

abbrev pub read_only : ℕ
read_only = 1

abbrev pub lock : ℕ
lock = 2

abbrev pub lockable : ℕ
lockable = 3

abbrev pub never_locked : ℕ
never_locked = 4

abbrev pub write1_clears : ℕ
write1_clears = 5

-- the kinds of the code, by these numbers
abbrev pub kind_number : RegisterKind → ℕ
kind_number Absent = absent
kind_number ReadOnly = read_only
kind_number Lock = lock
kind_number Lockable = lockable
kind_number Unlocked = never_locked
kind_number Clearable = write1_clears

abbrev row : ℕ → ℕ → ℕ → ℕ → ℕ → Row
row f l k r m = record { first = f; last = l; kind = k; reset = r; mask = m }

-- the mask of a read-only register is FFh, so that its reset value is within it
abbrev pub table : List Row
table =
    row 0x40 0x40 lock 0x00 0x02
    ∷ row 0x6E 0x6E read_only 0x44 0xFF
    ∷ row 0x6F 0x6F read_only 0x40 0xFF
    ∷ row 0x7C 0x7C lockable 0x40 0xE6
    ∷ row 0x7E 0x7E lockable 0xEC 0xFF
    ∷ row 0x80 0x80 lockable 0x0E 0x0F
    ∷ row 0x81 0x81 lockable 0x24 0x3F
    ∷ row 0x82 0x82 lockable 0x0E 0x0F
    ∷ row 0x83 0x83 write1_clears 0x00 0x03
    ∷ row 0x84 0x88 read_only 0x00 0xFF
    ∷ row 0x90 0x91 never_locked 0x04 0x1F
    ∷ row 0xB5 0xB5 lockable 0x00 0x33
    ∷ row 0xB6 0xB6 lockable 0x00 0xF0
    ∷ row 0xB7 0xB7 lockable 0x00 0x0F
    ∷ []

-- "The table has 256 entries; those not listed are status 4."
abbrev pub row_in : ℕ → List Row → Row
row_in i [] = row i i absent 0 0
row_in i (r ∷ rs) = cond (leb r.first i && leb i r.last) r (row_in i rs)

abbrev pub kind_of : ℕ → ℕ
kind_of i = (row_in i table).kind

abbrev pub reset_of : ℕ → ℕ
reset_of i = (row_in i table).reset

abbrev pub mask_of : ℕ → ℕ
mask_of i = (row_in i table).mask

-- ---- the indices of the rows whose kind passes a test, in the order of the table
abbrev pub up_from : ℕ → ℕ → List ℕ
up_from i zero = []
up_from i (suc n) = i ∷ up_from (suc i) n

abbrev pub indices_in : (ℕ → Bool) → List Row → List ℕ
indices_in kinds [] = []
indices_in kinds (r ∷ rs) = cond (kinds r.kind) (up_from r.first (suc r.last - r.first)) [] ++ indices_in kinds rs

-- all 19 registers
abbrev pub listed_indices : List ℕ
listed_indices = indices_in (λ k. true) table

-- 6Eh, 6Fh, 84h to 88h
abbrev pub read_only_indices : List ℕ
read_only_indices = indices_in (λ k. eqb k read_only) table

-- the 12 registers that can change, in the order in which they are stored: 40h, 7Ch, 7Eh, 80h to 83h, 90h, 91h, B5h to B7h
abbrev pub stored_indices : List ℕ
stored_indices = indices_in (λ k. not (eqb k read_only)) table

-- each index of a list passes a test
abbrev pub all_of : List ℕ → (ℕ → Bool) → Bool
all_of indices passes = all_below (length indices) (λ k. passes (get_or indices k 0))

-- the place of an index in a list, counted from k; the place after the last if the index is not in the list
abbrev pub place_in : ℕ → ℕ → List ℕ → ℕ
place_in i k [] = k
place_in i k (j ∷ js) = cond (eqb i j) k (place_in i (suc k) js)

-- the place of a register among the stored registers; 12 if it is not stored
abbrev pub slot_of : ℕ → ℕ
slot_of i = place_in i 0 stored_indices
