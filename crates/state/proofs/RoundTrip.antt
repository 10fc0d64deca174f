-- Loading what was saved returns the device, and saving what was loaded returns the bytes. Both follow from the laws of the
-- blocks, each applied to the part of its block.
use Prim.Native.Nat.{ℕ, ◌+◌, ◌<◌}
use mathlib.Core.Path.{◌≡◌, ap, ◌∙◌}
use mathlib.Core.Bool.{true}
use mathlib.Core.List.{List, [], ◌∷◌, ◌++◌}
use lib.ListN.{drop, get_or, length, length-append, length-drop}
use native.Mathlib.Omega.{arith}
use borrow.Author.Tests.{eq-eqb}
use Rattle.acpi.proofs.Saved as of-acpi
use Rattle.acpi.specs.Saved.{acpi_bytes, acpi_saved, acpi_size}
use Rattle.config.proofs.Saved as of-config
use Rattle.config.specs.Saved.{config_bytes, config_saved, config_size}
use Rattle.device.specs.declared.Device.{Device}
use Rattle.key.proofs.Saved as of-key
use Rattle.key.specs.Saved.{key_bytes, key_size}
use Rattle.lists.proofs.Tests.{all_hold_lem, all_held}
use Rattle.monitor.proofs.Saved as of-monitor
use Rattle.monitor.specs.Saved.{monitor_bytes, monitor_saved, monitor_size}
use Rattle.outcome.specs.Refusal.{refusal}
use Rattle.state.proofs.Parts.{cut, front_part, later_part, part_bytes, part_length, whole_part}
use Rattle.state.specs.State.{
  acpi_start,
  device_from,
  holds_device,
  is_saved,
  saved_tests,
  key_start,
  loaded,
  monitor_start,
  part,
  state_bytes,
  state_size,
}
use Rattle.state.specs.State.{LoadResult}

-- the fields of every block fit their types
pub record Typed (d : Device) : Type 0 where
  pub config : of-config.Typed d.config
  pub key : of-key.Typed d.key
  pub monitor : of-monitor.Typed d.monitor
  pub acpi : of-acpi.Typed d.acpi

-- the bytes after those of the monitor, of the key and of the configuration
abbrev after_monitor : Device → List ℕ
after_monitor d = acpi_bytes d.acpi

abbrev after_key : Device → List ℕ
after_key d = monitor_bytes d.monitor ++ after_monitor d

abbrev after_config : Device → List ℕ
after_config d = key_bytes d.key ++ after_key d

module _ (d : Device) where
  -- the bytes of each block are found at its start
  config_part : part 0 config_size (state_bytes d) ≡ config_bytes d.config
  unfolding state_bytes
  config_part = front_part (config_bytes d.config) (after_config d) config_size (of-config.bytes_length_lem d.config)

  key_part : part key_start key_size (state_bytes d) ≡ key_bytes d.key
  unfolding state_bytes
  key_part =
      later_part (config_bytes d.config) (after_config d) config_size 0 key_size (of-config.bytes_length_lem d.config)
      ∙ front_part (key_bytes d.key) (after_key d) key_size (of-key.bytes_length_lem d.key)

  monitor_part : part monitor_start monitor_size (state_bytes d) ≡ monitor_bytes d.monitor
  unfolding state_bytes
  monitor_part =
      later_part (config_bytes d.config) (after_config d) config_size key_size monitor_size (of-config.bytes_length_lem d.config)
      ∙ later_part (key_bytes d.key) (after_key d) key_size 0 monitor_size (of-key.bytes_length_lem d.key)
      ∙ front_part (monitor_bytes d.monitor) (after_monitor d) monitor_size (of-monitor.bytes_length_lem d.monitor)

  acpi_part : part acpi_start acpi_size (state_bytes d) ≡ acpi_bytes d.acpi
  unfolding state_bytes
  acpi_part =
      later_part (config_bytes d.config) (after_config d) config_size (key_size + monitor_size) acpi_size (of-config.bytes_length_lem d.config)
      ∙ later_part (key_bytes d.key) (after_key d) key_size monitor_size acpi_size (of-key.bytes_length_lem d.key)
      ∙ later_part (monitor_bytes d.monitor) (after_monitor d) monitor_size 0 acpi_size (of-monitor.bytes_length_lem d.monitor)
      ∙ whole_part (acpi_bytes d.acpi) acpi_size (of-acpi.bytes_length_lem d.acpi)

  pub state_length : length (state_bytes d) ≡ state_size
  unfolding state_bytes
  state_length =
      simp length-append
      (omega (
        arith,
        of-config.bytes_length_lem d.config,
        of-key.bytes_length_lem d.key,
        of-monitor.bytes_length_lem d.monitor,
        of-acpi.bytes_length_lem d.acpi,
      ))

  -- ---- saved, then loaded
  pub state_saved : is_saved (state_bytes d) ≡ true
  state_saved =
      rw (config_part, monitor_part, acpi_part)
      (all_hold_lem (config_saved (config_bytes d.config) ∷ monitor_saved (monitor_bytes d.monitor) ∷ acpi_saved (acpi_bytes d.acpi) ∷ []) (of-config.bytes_saved d.config, (of-monitor.bytes_saved d.monitor, (of-acpi.bytes_saved d.acpi, tt))))

  pub device_back_lem : Typed d → device_from (state_bytes d) ≡ d
  device_back_lem t =
      rw (
        config_part,
        key_part,
        monitor_part,
        acpi_part,
        of-config.load_back d.config t.config,
        of-key.load_back d.key t.key,
        of-monitor.load_back d.monitor t.monitor,
        of-acpi.load_back d.acpi t.acpi,
      )

  -- the same for `load`, which also checks the length
  pub load_back : Typed d → loaded (state_bytes d) ≡ record { refusal = refusal 0 0; device = d }
  unfolding loaded holds_device
  load_back t =
      rw (eq-eqb (length (state_bytes d)) state_size state_length, state_saved)
      (ap {B = LoadResult} (λ (e : Device). record { refusal = refusal 0 0; device = e }) (device_back_lem t))

-- ---- loaded, then saved
four_equal : {a b c d a' b' c' d' : List ℕ} → a ≡ a' → b ≡ b' → c ≡ c' → d ≡ d'
    → a ++ (b ++ (c ++ d)) ≡ a' ++ (b' ++ (c' ++ d'))
four_equal p q r s = rw (p, q, r, s)

module _ (bs : List ℕ) (n : length bs ≡ state_size) where
  -- the parts of the four blocks make up the whole list
  joined : part 0 config_size bs ++ (part key_start key_size bs ++ (part monitor_start monitor_size bs ++ part acpi_start acpi_size bs)) ≡ bs
  joined =
      let size : length (drop acpi_start bs) ≡ acpi_size = length-drop acpi_start bs ∙ omega (arith, n) in
      let last : part acpi_start acpi_size bs ≡ drop acpi_start bs = whole_part (drop acpi_start bs) acpi_size size in
      rw (last, cut monitor_start monitor_size bs, cut key_start key_size bs, cut 0 config_size bs)

  pub bytes_back : ((k : ℕ) → get_or bs k 0 < 256) → is_saved bs ≡ true → state_bytes (device_from bs) ≡ bs
  unfolding state_bytes
  bytes_back byte saved =
      let s = all_held (saved_tests bs) saved in
      four_equal
      (of-config.save_back (part 0 config_size bs) (part_length 0 config_size bs (omega (arith, n))) (part_bytes 0 config_size bs byte) s.0)
      (of-key.save_back (part key_start key_size bs) (part_length key_start key_size bs (omega (arith, n))))
      (of-monitor.save_back (part monitor_start monitor_size bs) (part_length monitor_start monitor_size bs (omega (arith, n))) (part_bytes monitor_start monitor_size bs byte) s.1.0)
      (of-acpi.save_back (part acpi_start acpi_size bs) (part_length acpi_start acpi_size bs (omega (arith, n))) (part_bytes acpi_start acpi_size bs byte) s.1.1.0)
      ∙ joined
