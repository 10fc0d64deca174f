-- The owner in the answer to an access: the first block that claims the port, at every status. An access that a block accepts has an owner.
use Prim.Native.Nat.{ℕ, suc, ◌<◌}
use mathlib.Core.Path.{◌≡◌, refl, sym, ◌∙◌}
use mathlib.Core.Bool.{false}
use native.Mathlib.Omega.{arith}
use Rattle.access.specs.declared.Access.{Access}
use Rattle.lists.proofs.Tests.{FirstAt, first_holds, none_holds}
use Rattle.lists.specs.Tests.{holds_at}
use Rattle.device.proofs.Claims.{owner_at_most, same_owner}
use Rattle.device.proofs.Orderly.{same_status}
use Rattle.device.specs.Dispatch.{device_access, dispatch}
use Rattle.device.specs.Owner.{claims, nobody, owner}
use Rattle.device.specs.declared.Device.{Device}

-- the answer names a block
abbrev pub HasOwner : Device → Access → Type 0
HasOwner d x = (device_access d x).owner ≡ nobody → ⊥

module _ (d : Device) (x : Access) where
  -- "the block that owns the port", before the access changes the device
  pub names_owner : (device_access d x).owner ≡ owner d.config x.port
  unfolding device_access dispatch
  names_owner = refl

  -- "The first owner answers": the block that is named claims the port, and no block before it does
  pub named_is_first : (k : ℕ) → (device_access d x).owner ≡ suc k → FirstAt (claims d.config x.port) k
  unfolding owner
  named_is_first k e = first_holds (claims d.config x.port) k (sym names_owner ∙ e)

  -- "0 none": if nobody is named, no block claims the port
  pub nobody_claims : (device_access d x).owner ≡ nobody → (k : ℕ) → holds_at (claims d.config x.port) k ≡ false
  unfolding owner
  nobody_claims e k = none_holds (claims d.config x.port) (sym names_owner ∙ e) k

  -- "this digit": the number of an owner has one digit
  pub one_digit : (device_access d x).owner < 10
  one_digit = let most = owner_at_most d.config x.port in rw names_owner (omega (arith, most))

  -- status 1 has two cases, "nobody claims, or the owner doesn't take it": an access that a block takes has an owner
  pub taken_has_owner : ((device_access d x).answer.status ≡ 1 → ⊥) → HasOwner d x
  unfolding device_access dispatch
  taken_has_owner taken e = taken (same_status x _ ∙ rw e)

  -- and so has an access that is done
  pub done_has_owner : (device_access d x).answer.status ≡ 0 → HasOwner d x
  done_has_owner z = taken_has_owner (λ e. omega (arith, z, e))

  -- an access does not change the owner of its own port, so the owner after the access is the same
  pub owner_kept : owner (device_access d x).device.config x.port ≡ (device_access d x).owner
  unfolding device_access dispatch
  owner_kept = same_owner d x
