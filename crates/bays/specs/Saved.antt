-- The bays as 41 bytes, and back: the three registers that are written once, then bay 0, then bay 1. See docs/STATE.md.
use Rattle.std.specs.Prelude.{ℕ, ◌+◌, Bool, ◌&&◌, List, [], ◌∷◌, ◌++◌, get_or}
use Rattle.little_endian.specs.Bytes.{byte0, byte1, flag_at, flag_byte, is_flag, two_at}
use Rattle.bays.specs.Bay.{bay, control, lines}
use Rattle.bays.specs.Registers.{bays}
use Rattle.bays.specs.declared.Bays.{Bays}
use Rattle.bays.specs.declared.bay.Bay.{Bay}
use Rattle.bays.specs.declared.once.Once.{Once}

-- how many bytes there are of a field that is written once, and of a bay
abbrev pub once_size : ℕ
once_size = 3

abbrev pub bay_size : ℕ
bay_size = 16

-- where each part starts
abbrev pub subsystem_start : ℕ
subsystem_start = once_size

abbrev pub capabilities_start : ℕ
capabilities_start = subsystem_start + once_size

abbrev pub bay0_start : ℕ
bay0_start = capabilities_start + once_size

abbrev pub bay1_start : ℕ
bay1_start = bay0_start + bay_size

abbrev pub bays_size : ℕ
bays_size = bay1_start + bay_size

-- ---- the bytes
abbrev pub once_bytes : Once → List ℕ
once_bytes o = byte0 o.value ∷ byte1 o.value ∷ flag_byte o.written ∷ []

abbrev pub bay_bytes : Bay → List ℕ
bay_bytes b =
    flag_byte b.control.lock
    ∷ b.control.request
    ∷ flag_byte b.control.remreqen
    ∷ flag_byte b.control.devchgen
    ∷ flag_byte b.control.wakeen
    ∷ flag_byte b.control.power
    ∷ byte0 b.form.value
    ∷ byte1 b.form.value
    ∷ flag_byte b.form.written
    ∷ b.state
    ∷ flag_byte b.remreq
    ∷ flag_byte b.devchg
    ∷ flag_byte b.lines.ieee1394
    ∷ flag_byte b.lines.usb
    ∷ flag_byte b.lines.button
    ∷ flag_byte b.lines.security
    ∷ []

abbrev pub bays_bytes : Bays → List ℕ
bays_bytes s =
    once_bytes s.subvendor
    ++ (once_bytes s.subsystem ++ (once_bytes s.capabilities ++ (bay_bytes s.bay0 ++ bay_bytes s.bay1)))

-- ---- the block from its bytes; each part from its first byte on
abbrev pub once_from : List ℕ → ℕ → Once
once_from bytes at = record { value = two_at bytes at; written = flag_at bytes (at + 2) }

unfoldable pub bay_from : List ℕ → ℕ → Bay
bay_from bytes at =
    bay
    (control (flag_at bytes at) (get_or bytes (at + 1) 0) (flag_at bytes (at + 2)) (flag_at bytes (at + 3)) (flag_at bytes (at + 4))
    (flag_at bytes (at + 5)))
    (get_or bytes (at + 9) 0) (flag_at bytes (at + 10)) (flag_at bytes (at + 11)) (once_from bytes (at + 6))
    (lines (flag_at bytes (at + 12)) (flag_at bytes (at + 13)) (flag_at bytes (at + 14)) (flag_at bytes (at + 15)))

unfoldable pub bays_from : List ℕ → Bays
bays_from bytes =
    bays (once_from bytes 0) (once_from bytes subsystem_start) (once_from bytes capabilities_start) (bay_from bytes bay0_start)
    (bay_from bytes bay1_start)

-- ---- can these bytes be the block? Every flag is 0 or 1
abbrev pub control_saved : List ℕ → ℕ → Bool
control_saved bytes at =
    is_flag bytes at && is_flag bytes (at + 2) && is_flag bytes (at + 3) && is_flag bytes (at + 4) && is_flag bytes (at + 5)

abbrev pub status_saved : List ℕ → ℕ → Bool
status_saved bytes at = is_flag bytes (at + 8) && is_flag bytes (at + 10) && is_flag bytes (at + 11)

abbrev pub lines_saved : List ℕ → ℕ → Bool
lines_saved bytes at = is_flag bytes (at + 12) && is_flag bytes (at + 13) && is_flag bytes (at + 14) && is_flag bytes (at + 15)

unfoldable pub bay_saved : List ℕ → ℕ → Bool
bay_saved bytes at = control_saved bytes at && status_saved bytes at && lines_saved bytes at

abbrev pub once_saved : List ℕ → ℕ → Bool
once_saved bytes at = is_flag bytes (at + 2)

abbrev pub ids_saved : List ℕ → Bool
ids_saved bytes = once_saved bytes 0 && once_saved bytes subsystem_start && once_saved bytes capabilities_start

abbrev pub bays_saved : List ℕ → Bool
bays_saved bytes = ids_saved bytes && bay_saved bytes bay0_start && bay_saved bytes bay1_start
