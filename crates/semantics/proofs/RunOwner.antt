-- The owner that a run lists with each access and logs with each value: the first block that claims the port when the access is made, after
-- the next event. Both runs of a script use these definitions, so the theorem about them does not show this.
use Prim.Native.Nat.{ℕ, ◌<◌}
use mathlib.Core.Path.{◌≡◌, ◌∙◌}
use mathlib.Core.List.{List, [], ◌∷◌, ◌++◌}
use Rattle.access.specs.declared.Access.{Access}
use Rattle.device.proofs.NamedOwner.{names_owner}
use Rattle.device.specs.Device.{outputs_of}
use Rattle.device.specs.Owner.{owner}
use Rattle.log_entry.proofs.EntryParts.{owner_back, value_back}
use Rattle.log_entry.specs.Entry.{entry_owner, entry_value, log_entry, value_count}
use Rattle.semantics.specs.World.{World, after_access, after_next_event, after_read, answer_to, entry_logged, read_of, value_read}

-- the owner of a port, after the next event
abbrev pub owner_now : World → ℕ → ℕ
owner_now w port = owner (after_next_event w.device w.events).config port

module _ (w : World) where
  pub access_owner : (x : Access) → (answer_to w x).owner ≡ owner_now w x.port
  access_owner x = names_owner (after_next_event w.device w.events) x

  -- every write, read and test is listed with it
  pub owner_listed :
      (x : Access) (entries : List ℕ)
      → (after_access w x entries).accesses
      ≡ w.accesses
      ++ (record {
        access = x;
        owner = owner_now w x.port;
        answer = (answer_to w x).answer;
        outputs = outputs_of (answer_to w x).device;
      } ∷ [])
  owner_listed x entries = rw (access_owner x)

  -- and every read logs it beside its value
  pub owner_logged : (p wd : ℕ) → (after_read p wd w).logged ≡ w.logged ++ (log_entry (owner_now w p) (value_read p wd w) ∷ [])
  unfolding after_read entry_logged
  owner_logged p wd = rw (access_owner (read_of p wd))

  -- taking the entry apart gives both, if the value is below 2^32; in the code it is a `u32`
  pub logged_owner : (p wd : ℕ) → value_read p wd w < value_count → entry_owner (entry_logged p wd w) ≡ owner_now w p
  unfolding entry_logged
  logged_owner p wd h = owner_back (answer_to w (read_of p wd)).owner (value_read p wd w) h ∙ access_owner (read_of p wd)

  pub logged_value : (p wd : ℕ) → value_read p wd w < value_count → entry_value (entry_logged p wd w) ≡ value_read p wd w
  unfolding entry_logged
  logged_value p wd h = value_back (answer_to w (read_of p wd)).owner (value_read p wd w) h
