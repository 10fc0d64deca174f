-- The owner of a port claims it, so the port is not below the first port of the block. Bases are bounded by their masks. An access does
-- not change the owner of its port.
use Prim.Native.Nat.{ℕ, zero, suc, ◌+◌, ◌-◌, ◌≤◌, ◌<◌}
use mathlib.Core.Path.{◌≡◌, refl, ap, sym, ◌∙◌}
use mathlib.Core.Bool.{Bool, true, false, not, ◌&&◌, ◌||◌}
use borrow.Author.Tests.{eqb-false, eqb-true, leb-true, ltb-true}
use native.Mathlib.Omega.{arith}
use lib.Bits.{and_le_r}
use lib.Dec.{eqb, leb, ltb}
use lib.ListN.{get_or}
use Rattle.access.specs.declared.Access.{Access}
use Rattle.config.specs.Config.{key_base, runtime_base}
use Rattle.config.specs.declared.Config.{Config}
use Rattle.lists.proofs.Tests.{first_at_most, first_holds}
use Rattle.lists.specs.Tests.{holds_at}
use Rattle.mask.proofs.Every.{and_left, and_right}
use Rattle.device.specs.Dispatch.{answers, unclaimed}
use Rattle.device.specs.Owner.{acpi, acpi_port, claims, config_port, configuration, is_active, key, key_claims, key_port, monitor, monitor_claims, monitor_port, owner}
use Rattle.device.specs.declared.Device.{Device}

-- a base is at most its mask, so adding an offset does not overflow
pub runtime_at_most : (g : Config) → runtime_base g ≤ 0xFF80
runtime_at_most g = and_le_r g.runtime_base 0xFF80

pub key_at_most : (g : Config) → key_base g ≤ 0xFFE0
key_at_most g = and_le_r g.key_base 0xFFE0

-- the claim of the owner holds
claimed : (g : Config) (port k : ℕ) → owner g port ≡ suc k → holds_at (claims g port) (suc k) ≡ true
unfolding owner
claimed g port k e = (first_holds (claims g port) k e).holds

-- the number of an owner is at most that of the last block
pub owner_at_most : (g : Config) (port : ℕ) → owner g port ≤ key
unfolding owner
owner_at_most g port = first_at_most (claims g port)

-- a port that equals one of two ports is at least the smaller one
either_at_least : (port a b : ℕ) → a ≤ b → (eqb port a || eqb port b) ≡ true → a ≤ port
either_at_least port a b l h = pick (eqb port a) (eqb port b) refl refl h
  where
    pick : (p q : Bool) → eqb port a ≡ p → eqb port b ≡ q → (p || q) ≡ true → a ≤ port
    pick true q e f h = let z = eqb-true port a e in omega (arith, z)
    pick false true e f h = let z = eqb-true port b f in omega (arith, z, l)
    pick false false e f h = let z : ◌≡◌ {A = ℕ} 0 1 = cc in absurd (omega arith)

module _ (g : Config) (port : ℕ) where
  -- the port is at least the first port of its owner, so the offset is not negative; the same for each block
  pub config_owns : owner g port ≡ configuration → config_port ≤ port
  config_owns e = leb-true 0x002E port (and_left (leb 0x002E port) (leb port 0x002F) (claimed g port 0 e))

  pub acpi_owns : owner g port ≡ acpi → acpi_port ≤ port
  acpi_owns e = leb-true 0xAC00 port (and_left (leb 0xAC00 port) (leb port 0xAC1F) (claimed g port 1 e))

  pub monitor_owns : owner g port ≡ monitor → monitor_port g ≤ port
  unfolding monitor_claims
  monitor_owns e =
      let base = runtime_base g in
      let either = eqb port (base + 0x70) || eqb port (base + 0x71) in
      either_at_least port (base + 0x70) (base + 0x71) (omega arith)
      (and_right (not (eqb base 0)) either (and_right (is_active g) (not (eqb base 0) && either) (claimed g port 2 e)))

  key_within : owner g port ≡ key → (leb (key_base g) port && ltb port (key_base g + 32)) ≡ true
  unfolding key_claims
  key_within e =
      let base = key_base g in
      let within = leb base port && ltb port (base + 32) in
      and_right (not (eqb base 0)) within (and_right (is_active g) (not (eqb base 0) && within) (claimed g port 3 e))

  pub key_owns : owner g port ≡ key → key_port g ≤ port
  key_owns e = leb-true (key_base g) port (and_left (leb (key_base g) port) _ (key_within e))

  -- the offset selects one of the 32 key bytes
  pub key_byte : owner g port ≡ key → port - key_port g < 32
  key_byte e =
      let above = key_owns e in
      let below = ltb-true port (key_base g + 32) (and_right (leb (key_base g) port) _ (key_within e)) in
      omega (arith, above, below)

-- ---- an access does not change who owns its port
-- the configuration claims its ports whatever it holds
config_always_owns : (g h : Config) (port : ℕ) → owner g port ≡ configuration → owner h port ≡ configuration
unfolding owner
config_always_owns g h port e = rw (claimed g port 0 e)

-- and no other block changes the configuration
config_kept :
    (d : Device) (x : Access) (k : ℕ) → (k ≡ configuration → ⊥) → (get_or (answers d x) k (unclaimed d)).block.config ≡ d.config
config_kept d x zero n = refl
config_kept d x (suc zero) n = absurd (n refl)
config_kept d x (suc (suc zero)) n = refl
config_kept d x (suc (suc (suc zero))) n = refl
config_kept d x (suc (suc (suc (suc zero)))) n = refl
config_kept d x (suc (suc (suc (suc (suc k))))) n = refl

pub same_owner :
    (d : Device) (x : Access)
    → owner (get_or (answers d x) (owner d.config x.port) (unclaimed d)).block.config x.port ≡ owner d.config x.port
same_owner d x = pick (eqb (owner d.config x.port) configuration) refl
  where
    next : Config
    next = (get_or (answers d x) (owner d.config x.port) (unclaimed d)).block.config

    pick : (b : Bool) → eqb (owner d.config x.port) configuration ≡ b → owner next x.port ≡ owner d.config x.port
    pick true e =
        let o = eqb-true (owner d.config x.port) configuration e in
        config_always_owns d.config next x.port o ∙ sym o
    pick false e =
        let n = eqb-false (owner d.config x.port) configuration e in
        ap (λ (g : Config). owner g x.port) (config_kept d x (owner d.config x.port) n)
