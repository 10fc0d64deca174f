-- The table of partners of a script has the right place for every record of its nested form: `all_tabled`. By induction on the body: the
-- records of a body change only entries of their own places, and leave no end waiting.
use Prim.Native.Nat.{ℕ, suc, ◌≤◌, ◌<◌}
use mathlib.Core.Path.{◌≡◌, refl, subst, sym, ◌∙◌}
use mathlib.Core.List.{List, [], ◌∷◌}
use native.Mathlib.Omega.{arith}
use lib.ListN.{get_or, length, length-replicate, length-set, set}
use lib.Seq.{get_or-set_other, get_or-set_same}
use Rattle.lists.proofs.Replicate.{replicate_at}
use Rattle.record.specs.declared.Record.{Record}
use Rattle.script.specs.Nested.{Body, done, write, read, delay, repeat, if, if_else, else_record, end_record, flat}
use Rattle.script.specs.Refusals.{innermost, outer}
use Rattle.interpreter.specs.Partners.{Partners, partners, partners_from}

-- the place after the records of a body whose first record is at a place
abbrev pub records_end : ℕ → Body → ℕ
records_end at done = at
records_end at (write p w v rest) = records_end (suc at) rest
records_end at (read p w rest) = records_end (suc at) rest
records_end at (delay n rest) = records_end (suc at) rest
records_end at (repeat n b rest) = records_end (suc (records_end (suc at) b)) rest
records_end at (if p w m b rest) = records_end (suc (records_end (suc at) b)) rest
records_end at (if_else p w m b c rest) = records_end (suc (records_end (suc (records_end (suc at) b)) c)) rest

pub end_from : (b : Body) (at : ℕ) → at ≤ records_end at b
end_from done at = omega arith
end_from (write p w v rest) at = let i = end_from rest (suc at) in omega arith
end_from (read p w rest) at = let i = end_from rest (suc at) in omega arith
end_from (delay n rest) at = let i = end_from rest (suc at) in omega arith
end_from (repeat n b rest) at =
    let i = end_from b (suc at) in let j = end_from rest (suc (records_end (suc at) b)) in omega arith
end_from (if p w m b rest) at =
    let i = end_from b (suc at) in let j = end_from rest (suc (records_end (suc at) b)) in omega arith
end_from (if_else p w m b c rest) at =
    let e = records_end (suc at) b in
    let i = end_from b (suc at) in
    let j = end_from c (suc e) in
    let k = end_from rest (suc (records_end (suc e) c)) in
    omega arith

-- the entries of a body whose first record is at a place
abbrev pub Tabled : List ℕ → ℕ → Body → Type 0
Tabled t at done = Unit {0}
Tabled t at (write p w v rest) = Tabled t (suc at) rest
Tabled t at (read p w rest) = Tabled t (suc at) rest
Tabled t at (delay n rest) = Tabled t (suc at) rest
Tabled t at (repeat n b rest) =
    let e = records_end (suc at) b in
    (get_or t at 0 ≡ suc e) × (get_or t e 0 ≡ suc at) × Tabled t (suc at) b × Tabled t (suc e) rest
Tabled t at (if p w m b rest) =
    let e = records_end (suc at) b in
    (get_or t at 0 ≡ suc e) × (get_or t e 0 ≡ 0) × Tabled t (suc at) b × Tabled t (suc e) rest
Tabled t at (if_else p w m b c rest) =
    let e = records_end (suc at) b in
    let f = records_end (suc e) c in
    (get_or t at 0 ≡ suc e) × (get_or t e 0 ≡ suc f) × (get_or t f 0 ≡ 0) × Tabled t (suc at) b × Tabled t (suc e) c × Tabled t (suc f) rest

-- t and u agree from place k up to place l
abbrev Agree : List ℕ → List ℕ → ℕ → ℕ → Type 0
Agree t u k l = (q : ℕ) → k ≤ q → q < l → get_or u q 0 ≡ get_or t q 0

-- only the entries of the body's own places count
tabled_by : (t u : List ℕ) (b : Body) (at : ℕ) → Agree t u at (records_end at b) → Tabled t at b → Tabled u at b
tabled_by t u done at a h = tt
tabled_by t u (write p w v rest) at a h = tabled_by t u rest (suc at) (λ q l m. a q (omega arith) m) h
tabled_by t u (read p w rest) at a h = tabled_by t u rest (suc at) (λ q l m. a q (omega arith) m) h
tabled_by t u (delay n rest) at a h = tabled_by t u rest (suc at) (λ q l m. a q (omega arith) m) h
tabled_by t u (repeat n b rest) at a h =
    let e = records_end (suc at) b in
    let i = end_from b (suc at) in
    let j = end_from rest (suc e) in (
      a at (omega arith) (omega arith) ∙ h.0,
      a e (omega arith) (omega arith) ∙ h.1,
      tabled_by t u b (suc at) (λ q l m. a q (omega arith) (omega arith)) h.2,
      tabled_by t u rest (suc e) (λ q l m. a q (omega arith) m) h.3,
    )
tabled_by t u (if p w v b rest) at a h =
    let e = records_end (suc at) b in
    let i = end_from b (suc at) in
    let j = end_from rest (suc e) in (
      a at (omega arith) (omega arith) ∙ h.0,
      a e (omega arith) (omega arith) ∙ h.1,
      tabled_by t u b (suc at) (λ q l m. a q (omega arith) (omega arith)) h.2,
      tabled_by t u rest (suc e) (λ q l m. a q (omega arith) m) h.3,
    )
tabled_by t u (if_else p w v b c rest) at a h =
    let e = records_end (suc at) b in
    let f = records_end (suc e) c in
    let i = end_from b (suc at) in
    let j = end_from c (suc e) in
    let k = end_from rest (suc f) in (
      a at (omega arith) (omega arith) ∙ h.0,
      a e (omega arith) (omega arith) ∙ h.1,
      a f (omega arith) (omega arith) ∙ h.2,
      tabled_by t u b (suc at) (λ q l m. a q (omega arith) (omega arith)) h.3,
      tabled_by t u c (suc e) (λ q l m. a q (omega arith) (omega arith)) h.4,
      tabled_by t u rest (suc f) (λ q l m. a q (omega arith) m) h.5,
    )

-- ---- adding the records of a body
-- the entries below place e are 0
record Clear (e : ℕ) (before : Partners) : Type 0 where
  sized : length before.table ≡ 1024
  zeros : (q : ℕ) → q < e → get_or before.table q 0 ≡ 0

-- the table before and after the records of a body were added: the entries of earlier places are still 0, those of later places have not
-- changed, the same ends and elses wait, and the body has its entries
record Filled (b : Body) (k : ℕ) (before after : Partners) : Type 0 where
  sized : length after.table ≡ 1024
  zeros : (q : ℕ) → q < k → get_or after.table q 0 ≡ 0
  kept : (q : ℕ) → records_end k b ≤ q → get_or after.table q 0 ≡ get_or before.table q 0
  closers : after.closers ≡ before.closers
  tabled : Tabled after.table k b

-- one store: the entry itself, and every other
stored : (t : List ℕ) (i v : ℕ) → length t ≡ 1024 → i < 1024 → get_or (set t i v) i 0 ≡ v
stored t i v s l = get_or-set_same t i v 0 (omega arith)

other : (t : List ℕ) (i v q : ℕ) → (q ≡ i → ⊥) → get_or (set t i v) q 0 ≡ get_or t q 0
other t i v q n = get_or-set_other t i q v 0 n

-- x0 is the table after the block and what follows it on its level, x1 with what follows, and so on up to the first record of the block
repeat_filled : (n : ℕ) (b rest : Body) (k : ℕ) (x0 x1 x2 : Partners)
    → let e = records_end (suc k) b in
    records_end (suc e) rest ≤ 1024 → Filled rest (suc e) x0 x1 → Filled b (suc k) (partners x1.table (e ∷ x1.closers)) x2
    → Filled (repeat n b rest) k x0 (partners (set (set x2.table k (suc e)) e (suc k)) x1.closers)
repeat_filled n b rest k x0 x1 x2 l j i =
    let e = records_end (suc k) b in
    let t = set x2.table k (suc e) in
    let u = set t e (suc k) in
    let a = end_from b (suc k) in
    let c = end_from rest (suc e) in
    let s : length t ≡ 1024 = length-set x2.table k (suc e) ∙ i.sized in
    let far : (q : ℕ) → (q ≡ k → ⊥) → (q ≡ e → ⊥) → get_or u q 0 ≡ get_or x2.table q 0 =
    λ q y z. other t e (suc k) q z ∙ other x2.table k (suc e) q y in
    record {
      sized = length-set t e (suc k) ∙ s;
      zeros = λ q m. far q (λ z. omega (arith, z)) (λ z. omega (arith, z)) ∙ i.zeros q (omega arith);
      kept = λ q m. far q (λ z. omega (arith, z)) (λ z. omega (arith, z)) ∙ i.kept q (omega arith) ∙ j.kept q m;
      closers = j.closers;
      tabled = (
        other t e (suc k) k (λ z. omega (arith, z)) ∙ stored x2.table k (suc e) i.sized (omega arith),
        stored t e (suc k) s (omega arith),
        tabled_by x2.table u b (suc k) (λ q y z. far q (λ w. omega (arith, w)) (λ w. omega (arith, w))) i.tabled,
        tabled_by x1.table u rest (suc e)
            (λ q y z. far q (λ w. omega (arith, w)) (λ w. omega (arith, w)) ∙ i.kept q (omega arith)) j.tabled,
      );
    }

if_filled : (p w m : ℕ) (b rest : Body) (k : ℕ) (x0 x1 x2 : Partners)
    → let e = records_end (suc k) b in
    records_end (suc e) rest ≤ 1024 → Filled rest (suc e) x0 x1 → Filled b (suc k) (partners x1.table (e ∷ x1.closers)) x2
    → Filled (if p w m b rest) k x0 (partners (set x2.table k (suc e)) x1.closers)
if_filled p w m b rest k x0 x1 x2 l j i =
    let e = records_end (suc k) b in
    let u = set x2.table k (suc e) in
    let a = end_from b (suc k) in
    let c = end_from rest (suc e) in
    let far : (q : ℕ) → (q ≡ k → ⊥) → get_or u q 0 ≡ get_or x2.table q 0 = λ q y. other x2.table k (suc e) q y in
    record {
      sized = length-set x2.table k (suc e) ∙ i.sized;
      zeros = λ q m. far q (λ z. omega (arith, z)) ∙ i.zeros q (omega arith);
      kept = λ q m. far q (λ z. omega (arith, z)) ∙ i.kept q (omega arith) ∙ j.kept q m;
      closers = j.closers;
      tabled = (
        stored x2.table k (suc e) i.sized (omega arith),
        far e (λ z. omega (arith, z)) ∙ i.kept e (omega arith) ∙ j.zeros e (omega arith),
        tabled_by x2.table u b (suc k) (λ q y z. far q (λ w. omega (arith, w))) i.tabled,
        tabled_by x1.table u rest (suc e) (λ q y z. far q (λ w. omega (arith, w)) ∙ i.kept q (omega arith)) j.tabled,
      );
    }

if_else_filled : (p w m : ℕ) (b c rest : Body) (k : ℕ) (x0 x1 x2 x3 : Partners)
    → let e = records_end (suc k) b in
    let f = records_end (suc e) c in
    records_end (suc f) rest ≤ 1024 → Filled rest (suc f) x0 x1 → Filled c (suc e) (partners x1.table (f ∷ x1.closers)) x2
    → Filled b (suc k) (partners (set x2.table e (suc f)) (e ∷ x1.closers)) x3
    → Filled (if_else p w m b c rest) k x0 (partners (set x3.table k (suc e)) x1.closers)
if_else_filled p w m b c rest k x0 x1 x2 x3 l j i h =
    let e = records_end (suc k) b in
    let f = records_end (suc e) c in
    let t = set x2.table e (suc f) in
    let u = set x3.table k (suc e) in
    let a = end_from b (suc k) in
    let d = end_from c (suc e) in
    let g = end_from rest (suc f) in
    let far : (q : ℕ) → (q ≡ k → ⊥) → get_or u q 0 ≡ get_or x3.table q 0 = λ q y. other x3.table k (suc e) q y in
    let past : (q : ℕ) → e < q → get_or u q 0 ≡ get_or x2.table q 0 =
    λ q y. far q (λ z. omega (arith, z)) ∙ h.kept q (omega arith) ∙ other x2.table e (suc f) q (λ z. omega (arith, z)) in
    record {
      sized = length-set x3.table k (suc e) ∙ h.sized;
      zeros = λ q m. far q (λ z. omega (arith, z)) ∙ h.zeros q (omega arith);
      kept = λ q m. past q (omega arith) ∙ i.kept q (omega arith) ∙ j.kept q m;
      closers = j.closers;
      tabled = (
        stored x3.table k (suc e) h.sized (omega arith),
        far e (λ z. omega (arith, z)) ∙ h.kept e (omega arith) ∙ stored x2.table e (suc f) i.sized (omega arith),
        past f (omega arith) ∙ i.kept f (omega arith) ∙ j.zeros f (omega arith),
        tabled_by x3.table u b (suc k) (λ q y z. far q (λ w. omega (arith, w))) h.tabled,
        tabled_by x2.table u c (suc e) (λ q y z. past q (omega arith)) i.tabled,
        tabled_by x1.table u rest (suc f) (λ q y z. past q (omega arith) ∙ i.kept q (omega arith)) j.tabled,
      );
    }

-- the records of a body that is followed by the records tl
fills : (b : Body) (k : ℕ) (tl : List Record) → records_end k b ≤ 1024 → Clear (records_end k b) (partners_from tl (records_end k b))
    → Filled b k (partners_from tl (records_end k b)) (partners_from (flat b tl) k)
fills done k tl l z = record { sized = z.sized; zeros = z.zeros; kept = λ q m. refl; closers = refl; tabled = tt }
fills (write p w v rest) k tl l z =
    let i = fills rest (suc k) tl l z in
    record { sized = i.sized; zeros = λ q m. i.zeros q (omega arith); kept = i.kept; closers = i.closers; tabled = i.tabled }
fills (read p w rest) k tl l z =
    let i = fills rest (suc k) tl l z in
    record { sized = i.sized; zeros = λ q m. i.zeros q (omega arith); kept = i.kept; closers = i.closers; tabled = i.tabled }
fills (delay n rest) k tl l z =
    let i = fills rest (suc k) tl l z in
    record { sized = i.sized; zeros = λ q m. i.zeros q (omega arith); kept = i.kept; closers = i.closers; tabled = i.tabled }
fills (repeat n b rest) k tl l z =
    let e = records_end (suc k) b in
    let x0 = partners_from tl (records_end (suc e) rest) in
    let x2 = partners_from (flat b (end_record ∷ flat rest tl)) (suc k) in
    let a = end_from rest (suc e) in
    let j = fills rest (suc e) tl l z in
    let i = fills b (suc k) (end_record ∷ flat rest tl) (omega arith) (record { sized = j.sized; zeros = λ q m. j.zeros q (omega arith) }) in
    subst
    (λ (cs : List ℕ).
    Filled (repeat n b rest) k x0 (partners (set (set x2.table k (suc (innermost cs))) (innermost cs) (suc k)) (outer cs)))
    (sym i.closers) (repeat_filled n b rest k x0 (partners_from (flat rest tl) (suc e)) x2 l j i)
fills (if p w m b rest) k tl l z =
    let e = records_end (suc k) b in
    let x0 = partners_from tl (records_end (suc e) rest) in
    let x2 = partners_from (flat b (end_record ∷ flat rest tl)) (suc k) in
    let a = end_from rest (suc e) in
    let j = fills rest (suc e) tl l z in
    let i = fills b (suc k) (end_record ∷ flat rest tl) (omega arith) (record { sized = j.sized; zeros = λ q m. j.zeros q (omega arith) }) in
    subst
    (λ (cs : List ℕ). Filled (if p w m b rest) k x0 (partners (set x2.table k (suc (innermost cs))) (outer cs)))
    (sym i.closers) (if_filled p w m b rest k x0 (partners_from (flat rest tl) (suc e)) x2 l j i)
fills (if_else p w m b c rest) k tl l z =
    let e = records_end (suc k) b in
    let f = records_end (suc e) c in
    let x0 = partners_from tl (records_end (suc f) rest) in
    let rs = flat c (end_record ∷ flat rest tl) in
    let x2 = partners_from rs (suc e) in
    let x3 = partners_from (flat b (else_record ∷ rs)) (suc k) in
    let a = end_from rest (suc f) in
    let d = end_from c (suc e) in
    let j = fills rest (suc f) tl l z in
    let i = fills c (suc e) (end_record ∷ flat rest tl) (omega arith) (record { sized = j.sized; zeros = λ q y. j.zeros q (omega arith) }) in
    let h = fills b (suc k) (else_record ∷ rs) (omega arith)
    (record {
      sized = length-set x2.table e (suc (innermost x2.closers)) ∙ i.sized;
      zeros = λ q y. other x2.table e (suc (innermost x2.closers)) q (λ w. omega (arith, w)) ∙ i.zeros q (omega arith);
    }) in
    let g : Filled b (suc k) (partners (set x2.table e (suc f)) (e ∷ (partners_from (flat rest tl) (suc f)).closers)) x3 =
    subst
    (λ (cs : List ℕ). Filled b (suc k) (partners (set x2.table e (suc (innermost cs))) (e ∷ outer cs)) x3) i.closers h in
    subst
    (λ (cs : List ℕ). Filled (if_else p w m b c rest) k x0 (partners (set x3.table k (suc (innermost cs))) (outer cs)))
    (sym g.closers) (if_else_filled p w m b c rest k x0 (partners_from (flat rest tl) (suc f)) x2 x3 l j i g)

-- the table of a list of records that is the records of a body
pub all_tabled : (b : Body) → records_end 0 b ≤ 1024 → Tabled (partners_from (flat b []) 0).table 0 b
all_tabled b l =
    (fills b 0 [] l (record { sized = length-replicate {A = ℕ} 1024 0; zeros = λ q m. replicate_at {A = ℕ} 0 1024 q })).tabled
