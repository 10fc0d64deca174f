-- Slices of any length: `save` writes a slice of `sequencer_size` bytes as a whole and leaves any other slice unchanged.
use Prim.Native.Nat.{ℕ}
use mathlib.Core.Path.{◌≡◌, refl, sym, ◌∙◌}
use mathlib.Core.Bool.{Bool, true, false, cond}
use mathlib.Core.List.{List}
use lib.ListN.{length}
use lib.Seq.{paste}
use borrow.Author.Tests.{eq-eqb, ne_eqb}
use Rattle.lists.proofs.Paste.{paste_whole}
use Rattle.outcome.specs.Number as number
use Rattle.outcome.specs.Refusal.{refusal}
use Rattle.step.specs.Sequencer.{fresh_sequencer}
use Rattle.step.specs.declared.Sequencer.{Sequencer}
use Rattle.sequencer_state.proofs.RoundTrip.{bytes_length_lem}
use Rattle.sequencer_state.specs.State.{
  holds_sequencer,
  loaded,
  saved,
  sequencer_bytes,
  sequencer_from,
  sequencer_or,
  sequencer_size,
}

pub saved_bytes : (s : Sequencer) (lent : List ℕ) → length lent ≡ sequencer_size → saved s lent ≡ sequencer_bytes s
unfolding saved
saved_bytes s lent n = rw (eq-eqb (length lent) sequencer_size n)

pub saved_whole :
    (s : Sequencer) (lent bytes : List ℕ) → length lent ≡ sequencer_size
    → bytes ≡ paste lent 0 (sequencer_bytes s) (length (sequencer_bytes s)) → bytes ≡ saved s lent
saved_whole s lent bytes n e = e ∙ paste_whole lent (sequencer_bytes s) (bytes_length_lem s ∙ sym n) ∙ sym (saved_bytes s lent n)

pub saved_not : (s : Sequencer) (lent : List ℕ) → (length lent ≡ sequencer_size → ⊥) → lent ≡ saved s lent
unfolding saved
saved_not s lent n = rw (ne_eqb (length lent) sequencer_size n)

-- what a caller of `load` gets: the sequencer that the bytes hold, or the one that the caller names
pub loaded_or :
    (bytes : List ℕ) (otherwise : Sequencer)
    → sequencer_or (loaded bytes) otherwise ≡ cond (holds_sequencer bytes) (sequencer_from bytes) otherwise
unfolding loaded
loaded_or bytes otherwise = pick (holds_sequencer bytes)
  where
    pick : (h : Bool)
        → sequencer_or (cond h (record { refusal = refusal 0 0; sequencer = sequencer_from bytes }) (record { refusal = refusal number.bad_state 0; sequencer = fresh_sequencer })) otherwise
        ≡ cond h (sequencer_from bytes) otherwise
    pick true = refl
    pick false = refl
