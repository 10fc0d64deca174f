-- Taking an entry apart gives the owner and the value that it was made of, if the value is below 2^32, as every `u32` is. Every number is
-- the entry of its two numbers.
use Prim.Native.Nat.{ℕ, ◌<◌}
use mathlib.Core.Path.{◌≡◌}
use native.Mathlib.Omega.{arith}
use Rattle.log_entry.specs.Entry.{entry_owner, entry_value, log_entry, value_count}

pub owner_back : (owner value : ℕ) → value < value_count → entry_owner (log_entry owner value) ≡ owner
owner_back owner value h = omega arith

pub value_back : (owner value : ℕ) → value < value_count → entry_value (log_entry owner value) ≡ value
value_back owner value h = omega arith

pub entry_back : (e : ℕ) → log_entry (entry_owner e) (entry_value e) ≡ e
entry_back e = omega arith
