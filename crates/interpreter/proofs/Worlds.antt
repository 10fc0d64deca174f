-- What a write, a read, a test and a delay do to the state of the code is what they do to the world that it represents.
use Prim.Native.Nat.{ℕ, suc, ◌+◌, ◌≤◌, ◌<◌}
use mathlib.Core.Path.{◌≡◌, ap, sym, ◌∙◌}
use mathlib.Core.List.{List, [], append-nil}
use native.Mathlib.Numerals.{add-one}
use lib.ListN.{drop, length, set}
use Rattle.access.specs.declared.Access.{Access}
use Rattle.device.specs.Dispatch.{AccessResult, device_access}
use Rattle.device.specs.Event.{apply_event, tick_event}
use Rattle.device.specs.declared.Device.{Device}
use Rattle.log_entry.specs.Entry.{log_entry}
use Rattle.mask.specs.Mask.{has_bit}
use Rattle.semantics.specs.World.{
  World,
  after_access,
  after_delay,
  after_next_event,
  after_read,
  after_test,
  after_write,
  answer_to,
  entry_logged,
  events_after,
  read_of,
  shares_one,
  value_read,
  write_of,
}
use Rattle.step.proofs.EachKind.{logs, one_more}
use Rattle.interpreter.specs.State.{Holds}

-- an access of the code: the device after the next event, the answer, and the number t of events taken
pub record Accessing (events : List ℕ) (d : Device) (n : ℕ) (a : Access) (r : AccessResult) (t : ℕ) : Type 0 where
  pub arrived : Device
  pub applied : arrived ≡ after_next_event d (drop n events)
  pub answered : r ≡ device_access arrived a
  pub inside : t ≤ length events
  pub left : drop t events ≡ events_after (drop n events)

module _ {events lent : List ℕ} {d : Device} {n k : ℕ} {log : List ℕ} {w : World} (h : Holds events lent d n k log w) where
  same_answer : {a : Access} {r : AccessResult} {t : ℕ} → Accessing events d n a r t → r ≡ answer_to w a
  same_answer g = g.answered ∙ rw (g.applied, h.device, h.left)

  same_left : {a : Access} {r : AccessResult} {t : ℕ} → Accessing events d n a r t → drop t events ≡ events_after w.events
  same_left g = g.left ∙ ap events_after h.left

  after_access_lem : {a : Access} {r : AccessResult} {t : ℕ} → Accessing events d n a r t
      → Holds events lent r.device t k log (after_access w a [])
  after_access_lem g =
      let e = append-nil w.logged in
      record {
        device = ap (λ (y : AccessResult). y.device) (same_answer g);
        left = same_left g;
        inside = g.inside;
        logged = rw e h.logged;
        lines = rw e h.lines;
      }

  pub after_write_lem : (p wd v : ℕ) {r : AccessResult} {t : ℕ} → Accessing events d n (write_of p wd v) r t
      → Holds events lent r.device t k log (after_write p wd v w)
  unfolding after_write
  after_write_lem p wd v g = after_access_lem g

  pub after_test_lem : (p wd : ℕ) {r : AccessResult} {t : ℕ} → Accessing events d n (read_of p wd) r t
      → Holds events lent r.device t k log (after_test p wd w)
  unfolding after_test
  after_test_lem p wd g = after_access_lem g

  -- the test of the code is that of the world
  pub test_is : (p wd m : ℕ) {r : AccessResult} {t : ℕ} → Accessing events d n (read_of p wd) r t
      → has_bit m r.answer.value ≡ shares_one p wd m w
  unfolding shares_one value_read
  test_is p wd m g = ap (λ (y : AccessResult). has_bit m y.answer.value) (same_answer g)

  pub after_read_lem : (p wd : ℕ) {r : AccessResult} {t : ℕ} → Accessing events d n (read_of p wd) r t → k < length log
      → Holds events lent r.device t (k + 1) (set log k (log_entry r.owner r.answer.value)) (after_read p wd w)
  unfolding after_read entry_logged value_read
  after_read_lem p wd g l =
      let s = same_answer g in
      let e = ap (λ (y : AccessResult). log_entry y.owner y.answer.value) s in
      record {
        device = ap (λ (y : AccessResult). y.device) s;
        left = same_left g;
        inside = g.inside;
        logged = add-one _ ∙ ap suc h.logged ∙ sym (one_more w.logged _);
        lines = rw e (logs w.logged lent log k _ h.logged h.lines l);
      }

  pub after_delay_lem : (ticks : ℕ) (d' : Device) → d' ≡ apply_event d (tick_event ticks) → Holds events lent d' n k log (after_delay ticks w)
  unfolding after_delay
  after_delay_lem ticks d' e = record {
    device = e ∙ ap (λ (y : Device). apply_event y (tick_event ticks)) h.device;
    left = h.left;
    inside = h.inside;
    logged = h.logged;
    lines = h.lines;
  }
