-- The configuration from its fields, and the configuration with one field changed.
use Rattle.std.specs.Prelude.{ℕ, Bool}
use Rattle.config.specs.declared.Config.{Config}

abbrev pub config : Bool → ℕ → ℕ → ℕ → ℕ → ℕ → ℕ → Config
config unlocked index number activate runtime key control = record {
  unlocked = unlocked;
  index = index;
  number = number;
  activate = activate;
  runtime_base = runtime;
  key_base = key;
  control = control;
}

abbrev pub with_unlocked : Config → Bool → Config
with_unlocked g b = config b g.index g.number g.activate g.runtime_base g.key_base g.control

abbrev pub with_index : Config → ℕ → Config
with_index g v = config g.unlocked v g.number g.activate g.runtime_base g.key_base g.control

abbrev pub with_number : Config → ℕ → Config
with_number g v = config g.unlocked g.index v g.activate g.runtime_base g.key_base g.control

abbrev pub with_activate : Config → ℕ → Config
with_activate g v = config g.unlocked g.index g.number v g.runtime_base g.key_base g.control

abbrev pub with_runtime_base : Config → ℕ → Config
with_runtime_base g v = config g.unlocked g.index g.number g.activate v g.key_base g.control

abbrev pub with_key_base : Config → ℕ → Config
with_key_base g v = config g.unlocked g.index g.number g.activate g.runtime_base v g.control

abbrev pub with_control : Config → ℕ → Config
with_control g v = config g.unlocked g.index g.number g.activate g.runtime_base g.key_base v
