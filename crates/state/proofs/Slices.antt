-- Slices of any length: `save` writes a slice of `state_size` bytes as a whole and leaves any other slice unchanged. Only a slice of that
-- length can hold a device.
use Prim.Native.Nat.{ℕ}
use mathlib.Core.Path.{◌≡◌, refl, sym, ◌∙◌}
use mathlib.Core.Bool.{Bool, true, false, cond, false≢true}
use lib.Dec.{eqb}
use mathlib.Core.List.{List}
use lib.ListN.{length}
use lib.Seq.{paste}
use borrow.Author.Tests.{eq-eqb, eqb-true, ne_eqb}
use Rattle.device.specs.Device.{fresh_device}
use Rattle.device.specs.declared.Device.{Device}
use Rattle.lists.proofs.Paste.{paste_whole}
use Rattle.outcome.specs.Number as number
use Rattle.outcome.specs.Refusal.{refusal}
use Rattle.state.proofs.RoundTrip.{state_length}
use Rattle.state.specs.State.{device_from, device_or, holds_device, is_saved, loaded, saved, state_bytes, state_size}

pub saved_bytes : (d : Device) (lent : List ℕ) → length lent ≡ state_size → saved d lent ≡ state_bytes d
unfolding saved
saved_bytes d lent n = rw (eq-eqb (length lent) state_size n)

pub saved_whole :
    (d : Device) (lent bytes : List ℕ) → length lent ≡ state_size → bytes ≡ paste lent 0 (state_bytes d) (length (state_bytes d))
    → bytes ≡ saved d lent
saved_whole d lent bytes n e = e ∙ paste_whole lent (state_bytes d) (state_length d ∙ sym n) ∙ sym (saved_bytes d lent n)

pub saved_not : (d : Device) (lent : List ℕ) → (length lent ≡ state_size → ⊥) → lent ≡ saved d lent
unfolding saved
saved_not d lent n = rw (ne_eqb (length lent) state_size n)

pub holds_saved : (bytes : List ℕ) → length bytes ≡ state_size → is_saved bytes ≡ holds_device bytes
unfolding holds_device
holds_saved bytes n = rw (eq-eqb (length bytes) state_size n)

pub holds_not : (bytes : List ℕ) → (length bytes ≡ state_size → ⊥) → false ≡ holds_device bytes
unfolding holds_device
holds_not bytes n = rw (ne_eqb (length bytes) state_size n)

-- bytes that hold a device have the length of a state
pub holds_length : (bytes : List ℕ) → holds_device bytes ≡ true → length bytes ≡ state_size
unfolding holds_device
holds_length bytes h = pick (eqb (length bytes) state_size) refl h
  where
    pick : (a : Bool) → eqb (length bytes) state_size ≡ a → cond a (is_saved bytes) false ≡ true → length bytes ≡ state_size
    pick true e s = eqb-true (length bytes) state_size e
    pick false e s = absurd (false≢true s)

-- what a caller of `load` gets: the device that the bytes hold, or the device that the caller names
pub loaded_or : (bytes : List ℕ) (otherwise : Device) → device_or (loaded bytes) otherwise ≡ cond (holds_device bytes) (device_from bytes) otherwise
unfolding loaded
loaded_or bytes otherwise = pick (holds_device bytes)
  where
    pick : (h : Bool)
        → device_or (cond h (record { refusal = refusal 0 0; device = device_from bytes }) (record { refusal = refusal number.bad_state 0; device = fresh_device })) otherwise
        ≡ cond h (device_from bytes) otherwise
    pick true = refl
    pick false = refl
