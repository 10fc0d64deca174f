-- "Apart from the settling below, statuses 1 to 5 change nothing. [..] A write's value answer is 0." Every status is one of those in the
-- table. This holds of every device and access, because it holds of each block (`Orderly`).
use Prim.Native.Nat.{◌-◌}
use mathlib.Core.Path.{◌≡◌, refl, ap, ◌∙◌}
use mathlib.Core.Bool.{Bool, true, false, cond}
use Rattle.access.proofs.Block.{Orderly, StatusInTable}
use Rattle.access.specs.Block.{Result, with_block}
use Rattle.access.specs.Status.{Answer, is_status, read_value}
use Rattle.access.specs.declared.Access.{Access}
use Rattle.acpi.proofs.Orderly.{acpi_orderly}
use Rattle.config.proofs.Orderly.{config_orderly}
use Rattle.key.proofs.Orderly.{key_orderly}
use Rattle.lists.proofs.All.{at_any}
use Rattle.monitor.proofs.Orderly.{monitor_orderly}
use Rattle.device.specs.Device.{settle_device, with_acpi, with_config, with_key, with_monitor}
use Rattle.device.specs.Dispatch.{final_answer, answered_by, answers, device_access, dispatch}
use Rattle.device.specs.Owner.{acpi_port, config_port, key_port, monitor_port, owner}
use Rattle.device.specs.declared.Device.{Device}

record OrderlyResult (d : Device) (x : Access) (r : Result Device) : Type 0 where
  unchanged : (r.answer.status ≡ 0 → ⊥) → r.block ≡ d
  write_zero : x.write ≡ true → r.answer.value ≡ 0
  status_in_table : StatusInTable r.answer

-- if the answer of the block is orderly, so is the answer of the device
by_block :
    {B : Type 0} {d : Device} {x : Access} {b : B} {r : Result B} (put : B → Device) → put b ≡ d → Orderly b x.write r
    → OrderlyResult d x (answered_by put r)
by_block put same o = record { unchanged = λ n. rw (o.unchanged n) same; write_zero = o.write_zero; status_in_table = o.status_in_table }

dispatch_orderly : (d : Device) (x : Access) → OrderlyResult d x (with_block (dispatch d x).answer (dispatch d x).device)
unfolding dispatch
dispatch_orderly d x =
    let nobody : OrderlyResult d x _ = record { unchanged = λ n. refl; write_zero = λ e. refl; status_in_table = refl } in
    let g = d.config in
    at_any (OrderlyResult d x) nobody (answers d x) (
      nobody,
      (
        by_block (with_config d) refl (config_orderly g (x.port - config_port) x),
        (
          by_block (with_acpi d) refl (acpi_orderly d.acpi (x.port - acpi_port) x),
          (
            by_block (with_monitor d) refl (monitor_orderly d.monitor (x.port - monitor_port g) x),
            (by_block (with_key d) refl (key_orderly d.key g.control (x.port - key_port g) x), tt),
          ),
        ),
      ),
    )
    (owner g x.port)

-- the status is that of the owner, for reads and for writes
pub same_status : (x : Access) (r : Answer) → (final_answer x r).status ≡ r.status
same_status x r = pick x.write
  where
    pick : (b : Bool)
        → (cond b r (record { status = r.status; value = read_value r.status x.width r.value })).status ≡ r.status
    pick true = refl
    pick false = refl

-- with a status other than 0, only settling changes the device
pub access_unchanged :
    (d : Device) (x : Access) → ((device_access d x).answer.status ≡ 0 → ⊥) → (device_access d x).device ≡ settle_device d
unfolding device_access
access_unchanged d x n =
    ap settle_device ((dispatch_orderly d x).unchanged (λ z. n (rw (same_status x (dispatch d x).answer) z)))

pub write_answers_zero : (d : Device) (x : Access) → x.write ≡ true → (device_access d x).answer.value ≡ 0
unfolding device_access
write_answers_zero d x w = ap (λ (b : Bool). (given b).value) w ∙ (dispatch_orderly d x).write_zero w
  where
    given : Bool → Answer
    given b =
        let r = (dispatch d x).answer in
        cond b r (record { status = r.status; value = read_value r.status x.width r.value })

-- every access, on every device, has status 0, 1, 2, 4 or 5
pub access_status : (d : Device) (x : Access) → is_status (device_access d x).answer.status ≡ true
unfolding device_access
access_status d x = rw (same_status x (dispatch d x).answer) (dispatch_orderly d x).status_in_table
