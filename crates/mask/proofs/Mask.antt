-- What keeps a value within a mask: masking it, clearing bits of it, and `bit_or` with a value that is also within the mask.
use Prim.Native.Nat.{ℕ}
use mathlib.Core.Path.{◌≡◌, sym, ap, ◌∙◌}
use mathlib.Core.Bool.{true}
use lib.Bits.{bit_and, bit_or, and_self, and_comm}
use borrow.Author.Tests.{eqb-true, eq-eqb}
use Rattle.mask.specs.Mask.{within}
use Rattle.mask.proofs.Bits.{and_assoc, and_or_distrib}

-- masking a value that is within the mask changes nothing
pub kept : (mask v : ℕ) → within mask v ≡ true → bit_and v mask ≡ v
kept mask v h = eqb-true (bit_and v mask) v h

pub within_masked : (mask v : ℕ) → within mask (bit_and v mask) ≡ true
within_masked mask v =
    eq-eqb (bit_and (bit_and v mask) mask) (bit_and v mask) (and_assoc v mask mask ∙ ap (bit_and v) (and_self mask))

pub within_and : (mask s v : ℕ) → within mask s ≡ true → within mask (bit_and s v) ≡ true
within_and mask s v h =
    eq-eqb (bit_and (bit_and s v) mask) (bit_and s v)
    (and_assoc s v mask ∙ ap (bit_and s) (and_comm v mask) ∙ sym (and_assoc s mask v)
    ∙ ap (λ (x : ℕ). bit_and x v) (kept mask s h))

pub within_or : (mask a b : ℕ) → within mask a ≡ true → within mask b ≡ true → within mask (bit_or a b) ≡ true
within_or mask a b h k =
    eq-eqb (bit_and (bit_or a b) mask) (bit_or a b)
    (and_or_distrib a b mask ∙ ap (λ (x : ℕ). bit_or x (bit_and b mask)) (kept mask a h) ∙ ap (bit_or a) (kept mask b k))
