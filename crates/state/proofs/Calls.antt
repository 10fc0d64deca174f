-- What a single call on saved bytes replies and leaves in them, in each of its three cases: the bytes hold no device; the device refuses
-- the call; the call is made. Then the same for the results of the code.
use Prim.Native.Nat.{ℕ}
use mathlib.Core.Path.{◌≡◌, ap, sym, ◌∙◌}
use mathlib.Core.Bool.{true, false}
use mathlib.Core.List.{List}
use borrow.Author.Tests.{eq-eqb, ne_eqb}
use Rattle.std.specs.Prelude.{Ok, Err}
use Rattle.access.specs.declared.Access.{Access}
use Rattle.device.specs.Device.{outputs_of}
use Rattle.device.specs.Dispatch.{AccessResult, device_access, result_of}
use Rattle.device.specs.Event.{apply_event}
use Rattle.device.specs.Owner.{nobody}
use Rattle.device.specs.Single.{access_done, access_refusal, access_refused, accessed, after_event, event_done, event_refusal, event_refused, no_outputs, single_access, single_event}
use Rattle.device.specs.declared.AccessResult as code
use Rattle.device.specs.declared.Device.{Device}
use Rattle.device.specs.declared.single.SingleAccess as code_access
use Rattle.device.specs.declared.single.SingleEvent as code_event
use Rattle.outcome.proofs.Numbers.{refusal_number_above}
use Rattle.outcome.specs.Number as number
use Rattle.outcome.specs.Refusal.{Refusal, refusal}
use Rattle.outcome.specs.Refused.{refusal_number, refusal_of}
use Rattle.outcome.specs.declared.Refused.{Refused}
use Rattle.state.proofs.Slices.{holds_length}
use Rattle.state.specs.Call.{access_reply, bytes_after_access, bytes_after_event, event_reply, saved_access, saved_event}
use Rattle.state.specs.State.{LoadResult, device_from, holds_device, load_of, loaded, save_refusal, saved, state_size}
use lib.ListN.{length}

module _ (bytes : List ℕ) where
  module _ (x : Access) where
    pub access_unheld : holds_device bytes ≡ false
        → (access_refused number.bad_state ≡ saved_access bytes x) × (bytes ≡ bytes_after_access bytes x)
    unfolding saved_access bytes_after_access
    access_unheld h = (rw h, rw h)

    pub access_refused_lem : (r : ℕ) → holds_device bytes ≡ true → access_refusal (device_from bytes) x ≡ r → (r ≡ 0 → ⊥)
        → (access_refused r ≡ saved_access bytes x) × (bytes ≡ bytes_after_access bytes x)
    unfolding saved_access bytes_after_access single_access
    access_refused_lem r h e differs = (rw (h, e, ne_eqb r 0 differs), rw (h, e, ne_eqb r 0 differs, ne_eqb r 0 differs))

    pub access_made_lem : holds_device bytes ≡ true → access_refusal (device_from bytes) x ≡ 0
        → (access_done (device_access (device_from bytes) x).owner (device_access (device_from bytes) x).answer (outputs_of (device_access (device_from bytes) x).device)
        ≡ saved_access bytes x)
        × (saved (device_access (device_from bytes) x).device bytes ≡ bytes_after_access bytes x)
    unfolding saved_access bytes_after_access single_access saved
    access_made_lem h e = (rw (h, e), rw (h, e, eq-eqb (length bytes) state_size (holds_length bytes h)))

  module _ (n : ℕ) where
    pub event_unheld : holds_device bytes ≡ false
        → (event_refused number.bad_state ≡ saved_event bytes n) × (bytes ≡ bytes_after_event bytes n)
    unfolding saved_event bytes_after_event
    event_unheld h = (rw h, rw h)

    pub event_refused_lem : (r : ℕ) → holds_device bytes ≡ true → event_refusal (device_from bytes) n ≡ r → (r ≡ 0 → ⊥)
        → (event_refused r ≡ saved_event bytes n) × (bytes ≡ bytes_after_event bytes n)
    unfolding saved_event bytes_after_event single_event
    event_refused_lem r h e differs = (rw (h, e, ne_eqb r 0 differs), rw (h, e, ne_eqb r 0 differs, ne_eqb r 0 differs))

    pub event_made_lem : holds_device bytes ≡ true → event_refusal (device_from bytes) n ≡ 0
        → (event_done (outputs_of (apply_event (device_from bytes) n)) ≡ saved_event bytes n)
        × (saved (apply_event (device_from bytes) n) bytes ≡ bytes_after_event bytes n)
    unfolding saved_event bytes_after_event single_event saved
    event_made_lem h e = (rw (h, e), rw (h, e, eq-eqb (length bytes) state_size (holds_length bytes h)))

  -- ---- the results of the code
  -- bytes that hold no device are refused with 11 at place 0
  pub unheld : (f : Refused) → load_of (Err f) ≡ loaded bytes → holds_device bytes ≡ false → refusal_of f ≡ refusal number.bad_state 0
  unfolding loaded
  unheld f e h = ap {A = LoadResult} (λ l. l.refusal) (rw h at e)

  -- bytes that hold a device have room for one
  pub room_to_save : (f : Refused) → holds_device bytes ≡ true → refusal_of f ≡ save_refusal bytes → ⊥
  room_to_save f h e =
      refusal_number_above f.kind (ap {A = Refusal} (λ r. r.number) (rw (eq-eqb (length bytes) state_size (holds_length bytes h)) at e))

  module _ (x : Access) where
    pub access_unheld_reply : (f : Refused) → load_of (Err f) ≡ loaded bytes → holds_device bytes ≡ false
        → (access_reply (Err f) ≡ saved_access bytes x) × (bytes ≡ bytes_after_access bytes x)
    access_unheld_reply f e h =
        let p = access_unheld x h in (
          ap {A = Refusal} (λ r. record { refusal = r.number; place = r.place; status = 0; value = 0; outputs = no_outputs; owner = nobody }) (unheld f e h) ∙ p.0,
          p.1,
        )

    pub access_refused_reply :
        (d : Device) (f : Refused) → (holds_device bytes ≡ true) × (d ≡ device_from bytes) → refusal_of f ≡ refusal (access_refusal d x) 0
        → (access_reply (Err f) ≡ saved_access bytes x) × (bytes ≡ bytes_after_access bytes x)
    access_refused_reply d f h e =
        let n : access_refusal d x ≡ refusal_number f.kind = sym (ap {A = Refusal} (λ r. r.number) e) in
        let z : f.place ≡ 0 = ap {A = Refusal} (λ r. r.place) e in
        let p = access_refused_lem x (refusal_number f.kind) h.0 (rw h.1 at n) (refusal_number_above f.kind) in
        (rw z p.0, p.1)

    pub access_refused_bytes :
        (d : Device) (f : Refused) → (holds_device bytes ≡ true) × (d ≡ device_from bytes) → refusal_of f ≡ refusal (access_refusal d x) 0
        → bytes ≡ bytes_after_access bytes x
    access_refused_bytes d f h e = (access_refused_reply d f h e).1

    pub access_made_reply :
        (d : Device) (m : code.AccessResult) → (holds_device bytes ≡ true) × (d ≡ device_from bytes)
        → refusal 0 0 ≡ refusal (access_refusal d x) 0 → result_of m ≡ device_access d x
        → (access_reply (Ok (record { owner = m.owner; answer = m.answer; outputs = outputs_of m.device })) ≡ saved_access bytes x)
        × (saved m.device bytes ≡ bytes_after_access bytes x)
    access_made_reply d m h e r =
        let z : access_refusal d x ≡ 0 = sym (ap {A = Refusal} (λ r. r.number) e) in
        let p = access_made_lem x h.0 (rw h.1 at z) in
        let q : result_of m ≡ device_access (device_from bytes) x = r ∙ ap {A = Device} (λ v. device_access v x) h.1 in (
          ap {A = AccessResult} (λ v. access_done v.owner v.answer (outputs_of v.device)) q ∙ p.0,
          ap {A = AccessResult} (λ v. saved v.device bytes) q ∙ p.1,
        )

    -- the same from the result of `single_access`
    pub single_access_refused : (f : Refused) → holds_device bytes ≡ true
        → accessed (device_from bytes) (Err f) ≡ single_access (device_from bytes) x
        → ((accessed (device_from bytes) (Err f)).reply ≡ saved_access bytes x) × (bytes ≡ bytes_after_access bytes x)
    unfolding saved_access bytes_after_access
    single_access_refused f h e = (rw (h, ← e), rw (h, ← e, ne_eqb (refusal_number f.kind) 0 (refusal_number_above f.kind)))

    pub single_access_made : (m : code_access.SingleAccess) → holds_device bytes ≡ true
        → accessed (device_from bytes) (Ok m) ≡ single_access (device_from bytes) x
        → ((accessed (device_from bytes) (Ok m)).reply ≡ saved_access bytes x) × (saved m.device bytes ≡ bytes_after_access bytes x)
    unfolding saved_access bytes_after_access saved
    single_access_made m h e = (rw (h, ← e), rw (h, ← e, eq-eqb (length bytes) state_size (holds_length bytes h)))

  module _ (n : ℕ) where
    pub event_unheld_reply : (f : Refused) → load_of (Err f) ≡ loaded bytes → holds_device bytes ≡ false
        → (event_reply (Err f) ≡ saved_event bytes n) × (bytes ≡ bytes_after_event bytes n)
    event_unheld_reply f e h =
        let p = event_unheld n h in
        (ap {A = Refusal} (λ r. record { refusal = r.number; place = r.place; outputs = no_outputs }) (unheld f e h) ∙ p.0, p.1)

    pub event_refused_reply :
        (d : Device) (f : Refused) → (holds_device bytes ≡ true) × (d ≡ device_from bytes) → refusal_of f ≡ refusal (event_refusal d n) 0
        → (event_reply (Err f) ≡ saved_event bytes n) × (bytes ≡ bytes_after_event bytes n)
    event_refused_reply d f h e =
        let k : event_refusal d n ≡ refusal_number f.kind = sym (ap {A = Refusal} (λ r. r.number) e) in
        let z : f.place ≡ 0 = ap {A = Refusal} (λ r. r.place) e in
        let p = event_refused_lem n (refusal_number f.kind) h.0 (rw h.1 at k) (refusal_number_above f.kind) in
        (rw z p.0, p.1)

    pub event_refused_bytes :
        (d : Device) (f : Refused) → (holds_device bytes ≡ true) × (d ≡ device_from bytes) → refusal_of f ≡ refusal (event_refusal d n) 0
        → bytes ≡ bytes_after_event bytes n
    event_refused_bytes d f h e = (event_refused_reply d f h e).1

    pub event_made_reply :
        (d next : Device) → (holds_device bytes ≡ true) × (d ≡ device_from bytes)
        → refusal 0 0 ≡ refusal (event_refusal d n) 0 → next ≡ apply_event d n
        → (event_reply (Ok (outputs_of next)) ≡ saved_event bytes n) × (saved next bytes ≡ bytes_after_event bytes n)
    event_made_reply d next h e r =
        let z : event_refusal d n ≡ 0 = sym (ap {A = Refusal} (λ r. r.number) e) in
        let p = event_made_lem n h.0 (rw h.1 at z) in
        let q : next ≡ apply_event (device_from bytes) n = r ∙ ap {A = Device} (λ v. apply_event v n) h.1 in (
          ap {A = Device} (λ v. event_done (outputs_of v)) q ∙ p.0,
          ap {A = Device} (λ v. saved v bytes) q ∙ p.1,
        )

    -- the same from the result of `single_event`
    pub single_event_refused : (f : Refused) → holds_device bytes ≡ true
        → after_event (device_from bytes) (Err f) ≡ single_event (device_from bytes) n
        → ((after_event (device_from bytes) (Err f)).reply ≡ saved_event bytes n) × (bytes ≡ bytes_after_event bytes n)
    unfolding saved_event bytes_after_event
    single_event_refused f h e = (rw (h, ← e), rw (h, ← e, ne_eqb (refusal_number f.kind) 0 (refusal_number_above f.kind)))

    pub single_event_made : (m : code_event.SingleEvent) → holds_device bytes ≡ true
        → after_event (device_from bytes) (Ok m) ≡ single_event (device_from bytes) n
        → ((after_event (device_from bytes) (Ok m)).reply ≡ saved_event bytes n) × (saved m.device bytes ≡ bytes_after_event bytes n)
    unfolding saved_event bytes_after_event saved
    single_event_made m h e = (rw (h, ← e), rw (h, ← e, eq-eqb (length bytes) state_size (holds_length bytes h)))
