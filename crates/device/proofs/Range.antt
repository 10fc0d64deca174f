-- The fresh device is in range, and every access and event keeps a device in range, by the laws of
-- the blocks. Reset 3 returns the fresh device.
use Prim.Native.Nat.{ℕ, ◌+◌, ◌-◌, ◌*◌, ◌^◌}
use mathlib.Core.Path.{◌≡◌, refl}
use mathlib.Core.Bool.{true}
use lib.Dec.{eqb}
use Rattle.access.specs.Block.{Result}
use Rattle.access.specs.declared.Access.{Access}
use Rattle.acpi.proofs.Range as in-acpi
use Rattle.acpi.specs.Acpi.{acpi_in_range, acpi_reset, acpi_settle}
use Rattle.acpi.specs.declared.Acpi.{Acpi}
use Rattle.config.proofs.Range as in-config
use Rattle.config.specs.Config.{config_in_range}
use Rattle.config.specs.declared.Config.{Config}
use Rattle.key.specs.declared.Key.{Key}
use Rattle.lists.proofs.All.{at_any}
use Rattle.lists.proofs.Tests.{all_hold_lem, all_held}
use Rattle.mask.proofs.Branch.{branch}
use Rattle.monitor.proofs.Range as in-monitor
use Rattle.monitor.specs.Monitor.{monitor_in_range}
use Rattle.monitor.specs.declared.Monitor.{Monitor}
use Rattle.device.proofs.Settle.{settle_fresh_device}
use Rattle.device.specs.Device.{
  device_in_range,
  fresh_device,
  range_tests,
  reset_device,
  settle_device,
  with_acpi,
  with_config,
  with_key,
  with_monitor,
}
use Rattle.device.specs.Dispatch.{answers, device_access, dispatch}
use Rattle.device.specs.Event.{apply_event, event_block, event_effect, every_block, kind_of, operand_of}
use Rattle.device.specs.Owner.{acpi, acpi_port, config_port, monitor, monitor_port, owner}
use Rattle.device.specs.declared.Device.{Device}

abbrev InRange : Device → Type 0
InRange d = device_in_range d ≡ true

-- ---- a device is in range if and only if its blocks are
record BlocksInRange (d : Device) : Type 0 where
  config : config_in_range d.config ≡ true
  acpi : acpi_in_range d.acpi ≡ true
  monitor : monitor_in_range d.monitor ≡ true

blocks : (d : Device) → InRange d → BlocksInRange d
unfolding device_in_range
blocks d h =
    let all = all_held (range_tests d) h in
    record { config = all.0; acpi = all.1.0; monitor = all.1.1.0 }

together : (d : Device) → BlocksInRange d → InRange d
unfolding device_in_range
together d b = all_hold_lem (range_tests d) (b.config, (b.acpi, (b.monitor, tt)))

pub acpi_in_range_lem : (d : Device) → InRange d → acpi_in_range d.acpi ≡ true
acpi_in_range_lem d h = (blocks d h).acpi

pub fresh_in_range : InRange fresh_device
fresh_in_range =
    together fresh_device (record {
      config = in-config.fresh_in_range;
      acpi = in-acpi.fresh_in_range;
      monitor = in-monitor.fresh_in_range;
    })

module _ (d : Device) (h : InRange d) where
  -- ---- one block replaced by a block in range
  with_config_lem : (g : Config) → config_in_range g ≡ true → InRange (with_config d g)
  with_config_lem g k = let b = blocks d h in together _ (record { config = k; acpi = b.acpi; monitor = b.monitor })

  with_acpi_lem : (a : Acpi) → acpi_in_range a ≡ true → InRange (with_acpi d a)
  with_acpi_lem a k = let b = blocks d h in together _ (record { config = b.config; acpi = k; monitor = b.monitor })

  with_monitor_lem : (m : Monitor) → monitor_in_range m ≡ true → InRange (with_monitor d m)
  with_monitor_lem m k = let b = blocks d h in together _ (record { config = b.config; acpi = b.acpi; monitor = k })

  with_key_lem : (k : Key) → InRange (with_key d k)
  with_key_lem k = let b = blocks d h in together _ (record { config = b.config; acpi = b.acpi; monitor = b.monitor })

  settle_in_range : InRange (settle_device d)
  settle_in_range = with_acpi_lem (acpi_settle d.acpi) (in-acpi.settle_in_range d.acpi (blocks d h).acpi)

  -- ---- an access
  dispatch_in_range : (x : Access) → InRange (dispatch d x).device
  unfolding dispatch
  dispatch_in_range x =
      let b = blocks d h in
      let g = d.config in
      at_any (λ (r : Result Device). InRange r.block) h (answers d x) (
        h,
        (
          with_config_lem _ (in-config.access_in_range g (x.port - config_port) x b.config),
          (
            with_acpi_lem _ (in-acpi.access_in_range d.acpi b.acpi (x.port - acpi_port) x),
            (with_monitor_lem _ (in-monitor.access_in_range d.monitor b.monitor (x.port - monitor_port g) x), (with_key_lem _, tt)),
          ),
        ),
      )
      (owner g x.port)

  -- ---- an event
  reset_in_range : (level : ℕ) → InRange (reset_device d level)
  unfolding reset_device
  reset_in_range level =
      let b = blocks d h in
      together (reset_device d level) (record {
        config = in-config.reset_in_range d.config level b.config;
        acpi = in-acpi.reset_in_range d.acpi b.acpi level;
        monitor = in-monitor.reset_in_range d.monitor b.monitor level;
      })

  effect_in_range : (kind operand : ℕ) → InRange (event_effect d kind operand)
  unfolding event_effect
  effect_in_range kind operand =
      let b = blocks d h in
      branch InRange (eqb (event_block kind) acpi) (with_acpi_lem _ (in-acpi.event_in_range d.acpi b.acpi kind operand))
      (branch InRange (eqb (event_block kind) monitor)
      (with_monitor_lem _ (in-monitor.event_in_range d.monitor b.monitor kind operand))
      (branch InRange (eqb (event_block kind) every_block) (reset_in_range operand) h))

pub access_in_range : (d : Device) (x : Access) → InRange d → InRange (device_access d x).device
unfolding device_access
access_in_range d x h = settle_in_range (dispatch d x).device (dispatch_in_range d h x)

pub event_in_range : (d : Device) (number : ℕ) → InRange d → InRange (apply_event d number)
unfolding apply_event
event_in_range d number h =
    settle_in_range (event_effect d (kind_of number) (operand_of number)) (effect_in_range d h (kind_of number) (operand_of number))

-- ---- "Reset 3 also key bytes and pin levels 0: the fresh device."
pub reset_is_fresh : (d : Device) → reset_device d 3 ≡ fresh_device
unfolding reset_device acpi_reset
reset_is_fresh d = refl

-- the event of reset 3 also settles the device, which changes nothing on the fresh device
pub reset_event : (d : Device) → apply_event d (6 * 2 ^ 24 + 3) ≡ fresh_device
unfolding apply_event event_effect reset_device event_block acpi_reset
reset_event d = settle_fresh_device
