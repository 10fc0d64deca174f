-- An access leads to a register only at the register's own offset and with width 4, and there it does: each register is reached, and at
-- no second place.
use Prim.Native.Nat.{ℕ, zero, suc, ◌<◌}
use mathlib.Core.Path.{◌≡◌, refl}
use mathlib.Core.Bool.{true, cond}
use native.Mathlib.Omega.{arith}
use borrow.Author.Tests.{eqb-true}
use lib.Dec.{eqb}
use Rattle.mask.proofs.Branch.{branch_on}
use Rattle.bays.specs.Registers.{Decoded, Nowhere, To, decode, offset_of, register_at}
use Rattle.bays.specs.declared.registers.Register.{Register}
use Rattle.bays.specs.declared.registers.Register.TheVariants.{
  VendorId,
  RevisionId,
  SubsystemVendorId,
  SubsystemId,
  Capabilities,
  Control,
  Status,
}

module _ (offset : ℕ) (r : Register) where
  -- if a decoded access leads to r, the offset is that of r
  abbrev AtOffset : Decoded → Type 0
  AtOffset d = d ≡ To r → offset ≡ offset_of r

  nowhere : AtOffset Nowhere
  nowhere e = let z : ◌≡◌ {A = ℕ} 0 1 = cc in absurd (omega arith)

  -- one more test of `register_at`
  tested : (q : Register) {rest : Decoded} → AtOffset rest → AtOffset (cond (eqb offset (offset_of q)) (To q) rest)
  tested q {rest} k = branch_on AtOffset (eqb offset (offset_of q)) (λ t e. here t e) (λ t. k)
    where
      here : eqb offset (offset_of q) ≡ true → To q ≡ To r → offset ≡ offset_of r
      here t e =
          let same : q ≡ r = cc in
          rw (← same) (eqb-true offset (offset_of q) t)

  register_at_lem : AtOffset (register_at offset)
  register_at_lem =
      tested VendorId
      (tested RevisionId
      (tested SubsystemVendorId
      (tested SubsystemId
      (tested Capabilities (tested (Control 0) (tested (Status 0) (tested (Control 1) (tested (Status 1) nowhere))))))))

pub decode_to : (offset width : ℕ) (r : Register) → decode offset width ≡ To r → (offset ≡ offset_of r) × (width ≡ 4)
unfolding decode
decode_to offset width r =
    branch_on (λ d. d ≡ To r → (offset ≡ offset_of r) × (width ≡ 4)) (eqb width 4)
    (λ w e. (register_at_lem offset r e, eqb-true width 4 w))
    (λ w e. let z : ◌≡◌ {A = ℕ} 0 1 = cc in absurd (omega arith))

-- the register, if it is that of a bay, is that of bay 0 or 1
abbrev pub OfBay : Register → Type 0
OfBay VendorId = Unit {0}
OfBay RevisionId = Unit {0}
OfBay SubsystemVendorId = Unit {0}
OfBay SubsystemId = Unit {0}
OfBay Capabilities = Unit {0}
OfBay (Control n) = n < 2
OfBay (Status n) = n < 2

pub reached : (r : Register) → OfBay r → decode (offset_of r) 4 ≡ To r
unfolding decode
reached VendorId h = refl
reached RevisionId h = refl
reached SubsystemVendorId h = refl
reached SubsystemId h = refl
reached Capabilities h = refl
reached (Control zero) h = refl
reached (Control (suc zero)) h = refl
reached (Control (suc (suc n))) h = absurd (omega arith)
reached (Status zero) h = refl
reached (Status (suc zero)) h = refl
reached (Status (suc (suc n))) h = absurd (omega arith)
