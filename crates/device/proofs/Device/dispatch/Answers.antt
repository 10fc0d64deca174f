-- `Device::dispatch` returns `dispatch`: each arm of the `match` calls the owner, its answer is the element of `answers` at the number of
-- the owner, and the result has that number.
use Rattle.std.proofs.Common.{ℕ, ◌≡◌, sym, ap, ◌∙◌, arith, get_or}
use Rattle.access.specs.Block.{Result, with_block}
use Rattle.access.specs.declared.Access.{Access}
use Rattle.access.specs.Status.{Answer, status_only}
use Rattle.device.proofs.Claims.{acpi_owns, config_owns, key_byte, key_owns, monitor_owns}
use Rattle.device.specs.Device.{with_acpi, with_config, with_key, with_monitor}
use Rattle.device.specs.Dispatch.{answered_by, answers, dispatch, owned_by, unclaimed}
use Rattle.device.specs.Owner.{nobody, owner}
use Rattle.device.specs.Owners.{block_number}
use Rattle.device.specs.declared.Device.{Device}
use Rattle.device.specs.declared.owner.Owner.{Owner}
use Rattle.device.proofs.Device.dispatch.Goals as goal

-- the element at the number of the owner, with this number, is the result of `dispatch`
by_owner :
    (d : Device) (x : Access) (k : ℕ) (r : Result Device) → owner d.config x.port ≡ k → r ≡ get_or (answers d x) k (unclaimed d)
    → owned_by k r ≡ dispatch d x
unfolding dispatch
by_owner d x k r o e = rw o (ap (owned_by k) e)

-- the block that the `match` finds owns the port
block_owns : {n : ℕ} {o : Owner} (v : Owner) → block_number o ≡ n → o ≡ v → n ≡ block_number v
block_owns v e t = sym e ∙ ap block_number t

by_block :
    (d : Device) (x : Access) {o : Owner} (v : Owner) (r : Result Device) → block_number o ≡ owner d.config x.port → o ≡ v
    → r ≡ get_or (answers d x) (block_number v) (unclaimed d) → owned_by (block_number o) r ≡ dispatch d x
by_block d x v r e t q =
    by_owner d x _ r (sym e) (q ∙ ap (λ (w : Owner). get_or (answers d x) (block_number w) (unclaimed d)) (sym t))

-- ---- the configuration
pub overflow_sub-access : goal.overflow_sub-access
overflow_sub-access c = omega (arith, config_owns _ _ (block_owns _ c.in-Some.ensures c.in-Configuration.is))

pub returns-in-Configuration : goal.returns-in-Configuration
returns-in-Configuration c =
    c.answered.ensures
    ∙ by_block c.args.self c.args.access _ _ c.in-Some.ensures c.in-Configuration.is
    (ap (answered_by (with_config c.args.self)) c.access-r.ensures)

-- ---- the ACPI block
pub overflow_sub-access-in-Acpi : goal.overflow_sub-access-in-Acpi
overflow_sub-access-in-Acpi c = omega (arith, acpi_owns _ _ (block_owns _ c.in-Some.ensures c.in-Acpi.is))

pub returns-in-Acpi : goal.returns-in-Acpi
returns-in-Acpi c =
    c.answered-in-Acpi.ensures
    ∙ by_block c.args.self c.args.access _ _ c.in-Some.ensures c.in-Acpi.is
    (ap (answered_by (with_acpi c.args.self)) c.access-r-in-Acpi.ensures)

-- ---- the monitor
pub overflow_sub-access-in-Monitor : goal.overflow_sub-access-in-Monitor
overflow_sub-access-in-Monitor c = omega (arith, c.monitor_port.ensures, monitor_owns _ _ (block_owns _ c.in-Some.ensures c.in-Monitor.is))

pub returns-in-Monitor : goal.returns-in-Monitor
returns-in-Monitor c =
    c.answered-in-Monitor.ensures
    ∙ by_block c.args.self c.args.access _ _ c.in-Some.ensures c.in-Monitor.is
    (ap (answered_by (with_monitor c.args.self)) (rw c.monitor_port.ensures at c.access-r-in-Monitor.ensures))

-- ---- the key
pub overflow_sub-access-in-Key : goal.overflow_sub-access-in-Key
overflow_sub-access-in-Key c = omega (arith, c.key_base.ensures, key_owns _ _ (block_owns _ c.in-Some.ensures c.in-Key.is))

pub access-r-requires-in-Key : goal.access-r-requires-in-Key
access-r-requires-in-Key c = rw c.key_base.ensures (key_byte _ _ (block_owns _ c.in-Some.ensures c.in-Key.is))

pub returns-in-Key : goal.returns-in-Key
returns-in-Key c =
    c.answered-in-Key.ensures
    ∙ by_block c.args.self c.args.access _ _ c.in-Some.ensures c.in-Key.is
    (ap (answered_by (with_key c.args.self)) (rw c.key_base.ensures at c.access-r-in-Key.ensures))

-- ---- no owner
pub returns-in_default : goal.returns-in_default
returns-in_default c =
    by_owner c.args.self c.args.access nobody _ (sym c.in_default.ensures)
    (ap (λ (a : Answer). with_block a c.args.self) c.status_only.ensures
    ∙ ap (λ (n : ℕ). with_block (status_only n) c.args.self) c.number.ensures)
