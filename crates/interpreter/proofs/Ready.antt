-- An accepted script, as the walk finds it: at each place of the nested form is its record, with its entry in the table of partners, no repeat is
-- inside 8 others, and a delay has at most 65,535 ticks. `script_ready` has it for a whole script.
use Prim.Native.Nat.{ℕ, suc, ◌+◌, ◌-◌, ◌*◌, ◌≤◌, ◌<◌}
use mathlib.Core.Path.{◌≡◌, subst, sym, ◌∙◌}
use mathlib.Core.List.{List, [], ◌∷◌}
use native.Mathlib.Decide.{dec_lt}
use native.Mathlib.Numerals.{add-one}
use native.Mathlib.Omega.{arith}
use lib.ListN.{get_or}
use Rattle.record.specs.Record.{record_at}
use Rattle.record.specs.declared.Record.{Record}
use Rattle.script.proofs.Flat.{accepts, reading_flat}
use Rattle.script.proofs.Loops.{fields_within, FieldsWithin, loops_within, LoopsWithin}
use Rattle.script.proofs.Records.{after_last_lem, few_records_lem, from_here}
use Rattle.script.specs.Nested.{Body, done, write, read, delay, repeat, if, if_else, else_record, end_record, flat, script_body, script_record}
use Rattle.script.specs.Records.{record_count, records_from, records_of}
use Rattle.script.specs.Refusals.{script_refusal}
use Rattle.interpreter.specs.Partners.{partners_from, script_partners}
use Rattle.interpreter.proofs.Tabled.{Tabled, all_tabled, records_end}

module _ (script table : List ℕ) where
  -- the script has this record at this place
  abbrev pub Is : ℕ → Record → Type 0
  Is at r = (at < record_count script) × (record_at script (12 * at) ≡ r)

  -- the entry of the table for this place
  abbrev pub Goes : ℕ → ℕ → Type 0
  Goes at to = get_or table at 0 ≡ to

  -- a body inside d repeats, whose first record is at a place
  abbrev pub Ready : (at d : ℕ) → Body → Type 0
  Ready at d done = Unit {0}
  Ready at d (write p w v rest) = Is at (script_record 1 w p v) × Ready (suc at) d rest
  Ready at d (read p w rest) = Is at (script_record 2 w p 0) × Ready (suc at) d rest
  Ready at d (delay n rest) = Is at (script_record 3 0 0 n) × (n ≤ 65535) × Ready (suc at) d rest
  Ready at d (repeat n b rest) =
      let e = records_end (suc at) b in
      Is at (script_record 4 0 0 n) × (d < 8) × Goes at (suc e) × Ready (suc at) (suc d) b × Is e end_record × Goes e (suc at)
      × Ready (suc e) d rest
  Ready at d (if p w m b rest) =
      let e = records_end (suc at) b in
      Is at (script_record 5 w p m) × Goes at (suc e) × Ready (suc at) d b × Is e end_record × Goes e 0 × Ready (suc e) d rest
  Ready at d (if_else p w m b c rest) =
      let e = records_end (suc at) b in
      let f = records_end (suc e) c in
      Is at (script_record 5 w p m) × Goes at (suc e) × Ready (suc at) d b × Is e else_record × Goes e (suc f) × Ready (suc e) d c
      × Is f end_record × Goes f 0 × Ready (suc f) d rest

-- ---- the records from a place on
abbrev Lies : List ℕ → ℕ → List Record → Type 0
Lies script at rs = records_from (record_count script - at) at script ≡ rs

record Head (script : List ℕ) (at : ℕ) (r : Record) (rs : List Record) : Type 0 where
  is : (at < record_count script) × (record_at script (12 * at) ≡ r)
  next : Lies script (suc at) rs

-- the first of them is the record at the place
head : (script : List ℕ) (at : ℕ) (r : Record) (rs : List Record) → Lies script at (r ∷ rs) → Head script at r rs
head script at r rs h = pick (dec_lt at (record_count script))
  where
    pick : Dec (at < record_count script) → Head script at r rs
    pick (yes l) =
        let e = sym (from_here script (record_count script) at l) ∙ h in
        let a : record_at script (12 * at) ≡ r = cc in
        let b : records_from (record_count script - (at + 1)) (at + 1) script ≡ rs = cc in
        record { is = (l, a); next = rw (add-one at) at b }
    pick (no l) =
        let e = sym (after_last_lem script (record_count script) at (omega (arith, l))) ∙ h in
        let z : ◌≡◌ {A = ℕ} 0 1 = cc in
        absurd (omega (arith, z))

-- and those after the records of a body are at the place after them
after : (script : List ℕ) (b : Body) (at : ℕ) (tl : List Record) → Lies script at (flat b tl) → Lies script (records_end at b) tl
after script done at tl h = h
after script (write p w v rest) at tl h = after script rest (suc at) tl (head script at _ _ h).next
after script (read p w rest) at tl h = after script rest (suc at) tl (head script at _ _ h).next
after script (delay n rest) at tl h = after script rest (suc at) tl (head script at _ _ h).next
after script (repeat n b rest) at tl h =
    let e = records_end (suc at) b in
    let i = after script b (suc at) (end_record ∷ flat rest tl) (head script at _ _ h).next in
    after script rest (suc e) tl (head script e _ _ i).next
after script (if p w m b rest) at tl h =
    let e = records_end (suc at) b in
    let i = after script b (suc at) (end_record ∷ flat rest tl) (head script at _ _ h).next in
    after script rest (suc e) tl (head script e _ _ i).next
after script (if_else p w m b c rest) at tl h =
    let e = records_end (suc at) b in
    let f = records_end (suc e) c in
    let i = after script b (suc at) (else_record ∷ flat c (end_record ∷ flat rest tl)) (head script at _ _ h).next in
    let j = after script c (suc e) (end_record ∷ flat rest tl) (head script e _ _ i).next in
    after script rest (suc f) tl (head script f _ _ j).next

-- ---- a body
module _ (script table : List ℕ) where
  pub ready : (b : Body) (at d : ℕ) (tl : List Record) → Lies script at (flat b tl) → Tabled table at b → LoopsWithin d b → FieldsWithin b
      → Ready script table at d b
  ready done at d tl h t l f = tt
  ready (write p w v rest) at d tl h t l f =
      let i = head script at _ _ h in (i.is, ready rest (suc at) d tl i.next t l f.2)
  ready (read p w rest) at d tl h t l f =
      let i = head script at _ _ h in (i.is, ready rest (suc at) d tl i.next t l f.1)
  ready (delay n rest) at d tl h t l f =
      let i = head script at _ _ h in (i.is, f.0, ready rest (suc at) d tl i.next t l f.1)
  ready (repeat n b rest) at d tl h t l f =
      let e = records_end (suc at) b in
      let i = head script at _ _ h in
      let k = head script e _ _ (after script b (suc at) (end_record ∷ flat rest tl) i.next) in (
        i.is,
        l.0,
        t.0,
        ready b (suc at) (suc d) (end_record ∷ flat rest tl) i.next t.2 l.1 f.1,
        k.is,
        t.1,
        ready rest (suc e) d tl k.next t.3 l.2 f.2,
      )
  ready (if p w m b rest) at d tl h t l f =
      let e = records_end (suc at) b in
      let i = head script at _ _ h in
      let k = head script e _ _ (after script b (suc at) (end_record ∷ flat rest tl) i.next) in (
        i.is,
        t.0,
        ready b (suc at) d (end_record ∷ flat rest tl) i.next t.2 l.0 f.2,
        k.is,
        t.1,
        ready rest (suc e) d tl k.next t.3 l.1 f.3,
      )
  ready (if_else p w m b c rest) at d tl h t l f =
      let e = records_end (suc at) b in
      let g = records_end (suc e) c in
      let i = head script at _ _ h in
      let j = head script e _ _ (after script b (suc at) (else_record ∷ flat c (end_record ∷ flat rest tl)) i.next) in
      let k = head script g _ _ (after script c (suc e) (end_record ∷ flat rest tl) j.next) in (
        i.is,
        t.0,
        ready b (suc at) d (else_record ∷ flat c (end_record ∷ flat rest tl)) i.next t.3 l.0 f.2,
        j.is,
        t.1,
        ready c (suc e) d (end_record ∷ flat rest tl) j.next t.4 l.1 f.3,
        k.is,
        t.2,
        ready rest (suc g) d tl k.next t.5 l.2 f.4,
      )

-- ---- a script
pub record ReadyScript (script : List ℕ) : Type 0 where
  pub body : Ready script (script_partners script) 0 0 (script_body script)
  pub whole : records_end 0 (script_body script) ≡ record_count script
  pub few : record_count script ≤ 1024

-- the place after the last record is the number of records
at_last : (script : List ℕ) (at : ℕ) → at ≤ record_count script → Lies script at [] → at ≡ record_count script
at_last script at l h = pick (dec_lt at (record_count script))
  where
    pick : Dec (at < record_count script) → at ≡ record_count script
    pick (yes m) =
        let e = sym (from_here script (record_count script) at m) ∙ h in
        let z : ◌≡◌ {A = ℕ} 0 1 = cc in
        absurd (omega (arith, z))
    pick (no m) = omega (arith, l, m)

-- the records of a body end within the script
end_within : (script : List ℕ) (b : Body) (at : ℕ) (tl : List Record) → at ≤ record_count script → Lies script at (flat b tl)
    → records_end at b ≤ record_count script
end_within script done at tl l h = l
end_within script (write p w v rest) at tl l h = let i = head script at _ _ h in end_within script rest (suc at) tl (omega (arith, i.is.0)) i.next
end_within script (read p w rest) at tl l h = let i = head script at _ _ h in end_within script rest (suc at) tl (omega (arith, i.is.0)) i.next
end_within script (delay n rest) at tl l h = let i = head script at _ _ h in end_within script rest (suc at) tl (omega (arith, i.is.0)) i.next
end_within script (repeat n b rest) at tl l h =
    let e = records_end (suc at) b in
    let i = head script e _ _ (after script b (suc at) (end_record ∷ flat rest tl) (head script at _ _ h).next) in
    end_within script rest (suc e) tl (omega (arith, i.is.0)) i.next
end_within script (if p w m b rest) at tl l h =
    let e = records_end (suc at) b in
    let i = head script e _ _ (after script b (suc at) (end_record ∷ flat rest tl) (head script at _ _ h).next) in
    end_within script rest (suc e) tl (omega (arith, i.is.0)) i.next
end_within script (if_else p w m b c rest) at tl l h =
    let e = records_end (suc at) b in
    let f = records_end (suc e) c in
    let i = head script e _ _ (after script b (suc at) (else_record ∷ flat c (end_record ∷ flat rest tl)) (head script at _ _ h).next) in
    let j = head script f _ _ (after script c (suc e) (end_record ∷ flat rest tl) i.next) in
    end_within script rest (suc f) tl (omega (arith, j.is.0)) j.next

pub script_ready : (script : List ℕ) → (script_refusal script).number ≡ 0 → ReadyScript script
unfolding script_body script_partners records_of
script_ready script h =
    let a = accepts script h in
    let b = script_body script in
    let flatly = reading_flat (records_of script) a.faultless in
    let z : record_count script - 0 ≡ record_count script = omega arith in
    let lies : Lies script 0 (flat b []) = rw z flatly in
    let few = few_records_lem script a.length_good in
    let within = end_within script b 0 [] (omega arith) lies in
    record {
      body =
          ready script (script_partners script) b 0 0 [] lies
          (subst (λ (rs : List Record). Tabled (partners_from rs 0).table 0 b) (sym flatly) (all_tabled b (omega (arith, within, few))))
          (loops_within (records_of script) a.faultless) (fields_within (records_of script) a.faultless);
      whole = at_last script (records_end 0 b) within (after script b 0 [] lies);
      few = few;
    }
