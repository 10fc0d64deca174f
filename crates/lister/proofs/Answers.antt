-- The answer of `list`, from the answer of `measure`: a fault of the script comes first, then a buffer that is too short.
use Prim.Native.Nat.{ℕ, ◌≤◌, ◌<◌}
use mathlib.Core.Path.{◌≡◌, ap, sym, ◌∙◌}
use mathlib.Core.Bool.{false}
use mathlib.Core.List.{List}
use borrow.Author.Tests.{le-ltb, lt-ltb, ne_eqb}
use lib.Dec.{eqb}
use lib.ListN.{length}
use Rattle.outcome.specs.Refusal.{refusal}
use Rattle.lister.specs.Listing.{ListResult, list_refusal, list_result, listing, measured, refused_at, script_fault, text_after, with_text}
use Rattle.lister.proofs.Faults.{no_refusal_lem, none_of}

-- without a fault, the place is 0 too
pub no_fault : (script : List ℕ) → (script_fault script).number ≡ 0 → script_fault script ≡ refusal 0 0
no_fault script h = no_refusal_lem script (none_of script h)

module _ (script buffer : List ℕ) (found : ListResult) (e : found ≡ measured script) where
  number_is : found.refusal ≡ (script_fault script).number
  unfolding measured
  number_is = ap (λ (x : ListResult). x.refusal) e

  pub refused : (found.refusal ≡ 0 → ⊥) → (found ≡ list_result script buffer) × (buffer ≡ text_after script buffer)
  unfolding measured list_result list_refusal text_after
  refused z =
      let n : eqb (script_fault script).number 0 ≡ false = rw number_is at (ne_eqb found.refusal 0 z) in
      (e ∙ (rw (n, n)), rw (n, n))

  module _ (z : found.refusal ≡ 0) where
    length_is : found.length ≡ length (listing script)
    unfolding measured
    length_is = ap (λ (x : ListResult). x.length) e ∙ (rw (sym number_is ∙ z))

    clear : script_fault script ≡ refusal 0 0
    clear = no_fault script (sym number_is ∙ z)

    pub too_short_lem : length buffer < found.length → (refused_at 34 0 ≡ list_result script buffer) × (buffer ≡ text_after script buffer)
    unfolding list_result list_refusal text_after
    too_short_lem h =
        let l = lt-ltb (length buffer) (length (listing script)) (rw length_is at h) in
        (rw (clear, l), rw (clear, l))

    pub room : found.length ≤ length buffer → ((script_fault script).number ≡ 0) × (length (listing script) ≤ length buffer)
    room h = (sym number_is ∙ z, rw length_is at h)

    pub listed : found.length ≤ length buffer
        → (found ≡ list_result script buffer) × (with_text (listing script) buffer ≡ text_after script buffer)
    unfolding measured list_result list_refusal text_after
    listed h =
        let l = le-ltb (length buffer) (length (listing script)) (rw length_is at h) in
        (e ∙ (rw (clear, l)), rw (clear, l))
