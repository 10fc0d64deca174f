-- An accepted list of records, read as nested blocks and written out again, is the same list. The reading loses nothing and adds
-- nothing. Also what the scan has checked, as a property of the list (`Accepted`) and of the nested blocks (`Good`).
use Prim.Native.Nat.{ℕ, zero, suc, ◌≤◌, ◌<◌}
use mathlib.Core.Path.{◌≡◌, refl, sym, ap, ◌∙◌}
use mathlib.Core.Bool.{Bool, true, false, cond, true≢false, ◌&&◌}
use mathlib.Core.List.{List, [], ◌∷◌}
use borrow.Author.Tests.{eqb-true, eqb-false, leb-true, leb-false, le-ltb, ltb-false, not-false}
use lib.Dec.{eqb, leb}
use lib.ListN.{length}
use native.Mathlib.Omega.{arith}
use Rattle.lists.proofs.Tests.{none_from}
use Rattle.mask.proofs.Every.{both, neither}
use Rattle.record.specs.declared.Record.{Record}
use Rattle.width.specs.Width.{fits_width, is_width}
use Rattle.script.specs.Nested.{Body, done, write, read, delay, repeat, if, if_else, Reading, top, closed_by_end, closed_by_else, broken, prepend, read_repeat, read_else, read_if, reading_of, body_in, script_record, else_record, end_record, flat}
use Rattle.script.specs.Fields.{kind_fields}
use Rattle.script.specs.Records.{record_count, records_of}
use Rattle.script.specs.Refusals.{bad_fields, bad_kind, bad_length, first_fault, good_fields, misplaced, open_after, record_fault, repeats_in, script_refusal, too_deep, too_many_words, words_in, wrong_mark}
use Rattle.outcome.specs.Refusal.{Refusal, refusal}

-- the records of a reading, as a list
abbrev pub unread : Reading → List Record
unread (top b) = flat b []
unread (closed_by_end b n) = flat b (end_record ∷ unread n)
unread (closed_by_else b n) = flat b (else_record ∷ unread n)
unread broken = []

-- ---- the open blocks: a repeat, an if that has no else yet, an if after its else
pub data Block : Type 0 where
  looped : Block
  unelsed : Block
  with_else : Block

abbrev pub number : Block → ℕ
number looped = 4
number unelsed = 5
number with_else = 6

abbrev pub numbers : List Block → List ℕ
numbers [] = []
numbers (b ∷ bs) = number b ∷ numbers bs

-- a list of records that has no fault if these blocks are open before it
pub data Accepted : List Block → List Record → Type 0 where
  over : Accepted [] []
  writes : {w p v : ℕ} {bs : List Block} {rs : List Record} → is_width w ≡ true → fits_width w v ≡ true → Accepted bs rs
      → Accepted bs (script_record 1 w p v ∷ rs)
  reads : {w p : ℕ} {bs : List Block} {rs : List Record} → is_width w ≡ true → Accepted bs rs
      → Accepted bs (script_record 2 w p 0 ∷ rs)
  delays : {v : ℕ} {bs : List Block} {rs : List Record} → v ≤ 65535 → Accepted bs rs
      → Accepted bs (script_record 3 0 0 v ∷ rs)
  repeats : {v : ℕ} {bs : List Block} {rs : List Record} → v ≤ 65535 → length (numbers bs) < 16
      → repeats_in (numbers bs) < 8 → Accepted (looped ∷ bs) rs
      → Accepted bs (script_record 4 0 0 v ∷ rs)
  tests : {w p v : ℕ} {bs : List Block} {rs : List Record} → is_width w ≡ true → fits_width w v ≡ true
      → length (numbers bs) < 16 → Accepted (unelsed ∷ bs) rs
      → Accepted bs (script_record 5 w p v ∷ rs)
  elses : {bs : List Block} {rs : List Record} → Accepted (with_else ∷ bs) rs → Accepted (unelsed ∷ bs) (else_record ∷ rs)
  ends : {b : Block} {bs : List Block} {rs : List Record} → Accepted bs rs → Accepted (b ∷ bs) (end_record ∷ rs)

-- ---- what holds of a record without a fault
pub record Passed (blocks : List ℕ) (r : Record) : Type 0 where
  pub marked : r.mark ≡ 0xA55A
  pub least : 1 ≤ r.kind
  pub most : r.kind ≤ 7
  pub untargeted : r.target ≡ 0
  pub fields : kind_fields 5 r ≡ true
  pub placed : misplaced blocks r.kind ≡ false
  pub shallow : too_deep blocks r.kind ≡ false

pub passed : (blocks : List ℕ) (r : Record) → record_fault blocks r ≡ 0 → Passed blocks r
unfolding record_fault
passed blocks r h =
    let none = none_from (wrong_mark r ∷ bad_kind r ∷ bad_fields r ∷ misplaced blocks r.kind ∷ too_deep blocks r.kind ∷ []) 2 (omega arith) h in
    let k = both (leb 1 r.kind) (leb r.kind 7) (not-false (leb 1 r.kind && leb r.kind 7) (none 1)) in
    let f = both (eqb r.target 0) (kind_fields 5 r) (not-false (good_fields r) (none 2)) in
    record {
      marked = eqb-true r.mark 0xA55A (not-false (eqb r.mark 0xA55A) (none 0));
      least = leb-true 1 r.kind k.0;
      most = leb-true r.kind 7 k.1;
      untargeted = eqb-true r.target 0 f.0;
      fields = f.1;
      placed = none 3;
      shallow = none 4;
    }

abbrev whole : (m k w p t v : ℕ) → Record
whole m k w p t v = record { mark = m; kind = k; width = w; port = p; target = t; value = v }

-- the fields of a record that uses only a count, and of a record that uses no field
pub count_fields_lem : (w p v : ℕ) → (eqb w 0 && (eqb p 0 && leb v 65535)) ≡ true → (w ≡ 0) × (p ≡ 0) × (v ≤ 65535)
count_fields_lem w p v h =
    let a = both (eqb w 0) (eqb p 0 && leb v 65535) h in
    let b = both (eqb p 0) (leb v 65535) a.1 in
    (eqb-true w 0 a.0, eqb-true p 0 b.0, leb-true v 65535 b.1)

no_fields_lem : (w p v : ℕ) → (eqb w 0 && (eqb p 0 && eqb v 0)) ≡ true → (w ≡ 0) × (p ≡ 0) × (v ≡ 0)
no_fields_lem w p v h =
    let a = both (eqb w 0) (eqb p 0 && eqb v 0) h in
    let b = both (eqb p 0) (eqb v 0) a.1 in
    (eqb-true w 0 a.0, eqb-true p 0 b.0, eqb-true v 0 b.1)

-- a record without a fault, followed by an accepted list, makes an accepted list
module _ (m w p t v : ℕ) (rs : List Record) where
  goes : (k : ℕ) (bs : List Block) → Passed (numbers bs) (whole m k w p t v)
      → ((cs : List Block) → open_after (numbers bs) k ≡ numbers cs → Accepted cs rs)
      → Accepted bs (whole m k w p t v ∷ rs)
  goes zero bs h next = absurd (omega arith)
  goes (suc zero) bs h next =
      let f = both (is_width w) (fits_width w v) h.fields in
      rw (h.marked, h.untargeted) (writes f.0 f.1 (next bs refl))
  goes (suc (suc zero)) bs h next =
      let f = both (is_width w) (eqb v 0) h.fields in
      rw (h.marked, h.untargeted, eqb-true v 0 f.1) (reads f.0 (next bs refl))
  goes (suc (suc (suc zero))) bs h next =
      let f = count_fields_lem w p v h.fields in
      rw (h.marked, h.untargeted, f.0, f.1) (delays f.2 (next bs refl))
  goes (suc (suc (suc (suc zero)))) bs h next =
      let f = count_fields_lem w p v h.fields in
      let d = neither (leb 16 (length (numbers bs))) (leb 8 (repeats_in (numbers bs))) h.shallow in
      rw (h.marked, h.untargeted, f.0, f.1)
      (repeats f.2 (leb-false 16 (length (numbers bs)) d.0) (leb-false 8 (repeats_in (numbers bs)) d.1)
      (next (looped ∷ bs) refl))
  goes (suc (suc (suc (suc (suc zero))))) bs h next =
      let f = both (is_width w) (fits_width w v) h.fields in
      let d = neither (leb 16 (length (numbers bs))) false h.shallow in
      rw (h.marked, h.untargeted)
      (tests f.0 f.1 (leb-false 16 (length (numbers bs)) d.0) (next (unelsed ∷ bs) refl))
  goes (suc (suc (suc (suc (suc (suc zero)))))) [] h next = absurd (true≢false h.placed)
  goes (suc (suc (suc (suc (suc (suc zero)))))) (looped ∷ bs) h next = absurd (true≢false h.placed)
  goes (suc (suc (suc (suc (suc (suc zero)))))) (with_else ∷ bs) h next = absurd (true≢false h.placed)
  goes (suc (suc (suc (suc (suc (suc zero)))))) (unelsed ∷ bs) h next =
      let f = no_fields_lem w p v h.fields in
      rw (h.marked, h.untargeted, f.0, f.1, f.2) (elses (next (with_else ∷ bs) refl))
  goes (suc (suc (suc (suc (suc (suc (suc zero))))))) [] h next = absurd (true≢false h.placed)
  goes (suc (suc (suc (suc (suc (suc (suc zero))))))) (b ∷ bs) h next =
      let f = no_fields_lem w p v h.fields in
      rw (h.marked, h.untargeted, f.0, f.1, f.2) (ends (next bs refl))
  goes (suc (suc (suc (suc (suc (suc (suc (suc k)))))))) bs h next = absurd (omega arith)

-- if the chosen refusal has number 0, it is the first one, because the number of the second is not 0
pub stops :
    (t : Bool) (a b : Refusal) → (t ≡ false → b.number ≡ 0 → ⊥) → (cond t a b).number ≡ 0
    → (t ≡ true) × (a.number ≡ 0)
stops true a b n h = (refl, h)
stops false a b n h = absurd (n refl h)

-- a list without a fault is accepted
pub accepted :
    (rs : List Record) (bs : List Block) (place : ℕ) → (first_fault (numbers bs) place rs).number ≡ 0 → Accepted bs rs
accepted [] [] place h = over
accepted [] (looped ∷ bs) place h = absurd (omega arith)
accepted [] (unelsed ∷ bs) place h = absurd (omega arith)
accepted [] (with_else ∷ bs) place h = absurd (omega arith)
accepted (r ∷ rs) bs place h =
    let blocks = numbers bs in
    let s = stops (eqb (record_fault blocks r) 0) (first_fault (open_after blocks r.kind) (suc place) rs)
    (refusal (record_fault blocks r) place) (λ e z. eqb-false (record_fault blocks r) 0 e z) h in
    goes r.mark r.width r.port r.target r.value rs r.kind bs
    (passed blocks r (eqb-true (record_fault blocks r) 0 s.0))
    (λ cs e. accepted rs cs (suc place) (rw e at s.1))

-- ---- what the scan has checked, as a property of a body inside k repeats
pub data Good : ℕ → Body → Type 0 where
  good_done : {k : ℕ} → Good k done
  good_write : {k p w v : ℕ} {rest : Body} → is_width w ≡ true → fits_width w v ≡ true → Good k rest
      → Good k (write p w v rest)
  good_read : {k p w : ℕ} {rest : Body} → is_width w ≡ true → Good k rest → Good k (read p w rest)
  good_delay : {k n : ℕ} {rest : Body} → n ≤ 65535 → Good k rest → Good k (delay n rest)
  good_repeat : {k n : ℕ} {b rest : Body} → n ≤ 65535 → k < 8 → Good (suc k) b → Good k rest → Good k (repeat n b rest)
  good_if : {k p w m : ℕ} {b rest : Body} → is_width w ≡ true → fits_width w m ≡ true → Good k b → Good k rest
      → Good k (if p w m b rest)
  good_if_else : {k p w m : ℕ} {b c rest : Body} → is_width w ≡ true → fits_width w m ≡ true → Good k b → Good k c
      → Good k rest → Good k (if_else p w m b c rest)

-- a reading that closes exactly these blocks
data Closes : List Block → Reading → Type 0 where
  by_top : {b : Body} → Good 0 b → Closes [] (top b)
  by_end : {b : Body} {o : Block} {bs : List Block} {n : Reading} → Good (repeats_in (numbers (o ∷ bs))) b → Closes bs n
      → Closes (o ∷ bs) (closed_by_end b n)
  by_else : {b : Body} {bs : List Block} {n : Reading} → Good (repeats_in (numbers bs)) b → Closes (with_else ∷ bs) n
      → Closes (unelsed ∷ bs) (closed_by_else b n)

-- a record in front of a reading is in front of its first body (`in_front`) and of its records (`laid`)
in_front : (f : Body → Body) {bs : List Block} {n : Reading}
    → ((b : Body) → Good (repeats_in (numbers bs)) b → Good (repeats_in (numbers bs)) (f b))
    → Closes bs n → Closes bs (prepend f n)
in_front f g (by_top h) = by_top (g _ h)
in_front f g (by_end h c) = by_end (g _ h) c
in_front f g (by_else h c) = by_else (g _ h) c

laid : (f : Body → Body) (g : List Record → List Record)
    → ((b : Body) (tl : List Record) → flat (f b) tl ≡ g (flat b tl))
    → {bs : List Block} {n : Reading} → Closes bs n → unread (prepend f n) ≡ g (unread n)
laid f g e (by_top h) = e _ _
laid f g e (by_end h c) = e _ _
laid f g e (by_else h c) = e _ _

record Reads (bs : List Block) (rs : List Record) (n : Reading) : Type 0 where
  closes : Closes bs n
  same : rs ≡ unread n

front : (f : Body → Body) (r : Record) {bs : List Block} {rs : List Record} {n : Reading}
    → ((b : Body) (tl : List Record) → flat (f b) tl ≡ r ∷ flat b tl)
    → ((b : Body) → Good (repeats_in (numbers bs)) b → Good (repeats_in (numbers bs)) (f b))
    → Reads bs rs n → Reads bs (r ∷ rs) (prepend f n)
front f r e g h = record {
  closes = in_front f g h.closes;
  same = ap (λ (l : List Record). r ∷ l) h.same ∙ sym (laid f (λ l. r ∷ l) e h.closes);
}

module _ (v : ℕ) {bs : List Block} {rs : List Record} (hv : v ≤ 65535) (few : repeats_in (numbers bs) < 8) where
  repeat_front : {n : Reading} → Closes (looped ∷ bs) n → rs ≡ unread n
      → Reads bs (script_record 4 0 0 v ∷ rs) (read_repeat v n)
  repeat_front (by_end {b = b} g c) e = record {
    closes = in_front (repeat v b) (λ rest k. good_repeat hv few g k) c;
    same = ap (λ (l : List Record). script_record 4 0 0 v ∷ l) e
        ∙ sym (laid (repeat v b) (λ l. script_record 4 0 0 v ∷ flat b (end_record ∷ l)) (λ rest tl. refl) c);
  }

module _ (p w v : ℕ) {bs : List Block} {rs : List Record} (hw : is_width w ≡ true) (hv : fits_width w v ≡ true) where
  else_front : {n : Reading} (b : Body) → Good (repeats_in (numbers bs)) b → Closes (with_else ∷ bs) n
      → rs ≡ flat b (else_record ∷ unread n) → Reads bs (script_record 5 w p v ∷ rs) (read_else p w v b n)
  else_front b g (by_end {b = c} g2 k) e = record {
    closes = in_front (if_else p w v b c) (λ rest h. good_if_else hw hv g g2 h) k;
    same = ap (λ (l : List Record). script_record 5 w p v ∷ l) e
        ∙ sym
        (laid (if_else p w v b c) (λ l. script_record 5 w p v ∷ flat b (else_record ∷ flat c (end_record ∷ l)))
        (λ rest tl. refl) k);
  }

  test_front : {n : Reading} → Closes (unelsed ∷ bs) n → rs ≡ unread n
      → Reads bs (script_record 5 w p v ∷ rs) (read_if p w v n)
  test_front (by_end {b = b} g c) e = record {
    closes = in_front (if p w v b) (λ rest k. good_if hw hv g k) c;
    same = ap (λ (l : List Record). script_record 5 w p v ∷ l) e
        ∙ sym (laid (if p w v b) (λ l. script_record 5 w p v ∷ flat b (end_record ∷ l)) (λ rest tl. refl) c);
  }
  test_front (by_else {b = b} g c) e = else_front b g c e

reads_all : {bs : List Block} {rs : List Record} → Accepted bs rs → Reads bs rs (reading_of rs)
reads_all over = record { closes = by_top good_done; same = refl }
reads_all (writes {w = w} {p = p} {v = v} hw hv a) =
    front (write p w v) (script_record 1 w p v) (λ b tl. refl) (λ b g. good_write hw hv g) (reads_all a)
reads_all (reads {w = w} {p = p} hw a) =
    front (read p w) (script_record 2 w p 0) (λ b tl. refl) (λ b g. good_read hw g) (reads_all a)
reads_all (delays {v = v} hv a) =
    front (delay v) (script_record 3 0 0 v) (λ b tl. refl) (λ b g. good_delay hv g) (reads_all a)
reads_all (repeats {v = v} hv deep few a) = let i = reads_all a in repeat_front v hv few i.closes i.same
reads_all (tests {w = w} {p = p} {v = v} hw hv deep a) =
    let i = reads_all a in test_front p w v hw hv i.closes i.same
reads_all (elses a) =
    let i = reads_all a in
    record { closes = by_else good_done i.closes; same = ap (λ (l : List Record). else_record ∷ l) i.same }
reads_all (ends a) =
    let i = reads_all a in
    record { closes = by_end good_done i.closes; same = ap (λ (l : List Record). end_record ∷ l) i.same }

-- ---- the laws
record Whole (rs : List Record) (n : Reading) : Type 0 where
  is_top : n ≡ top (body_in n)
  is_flat : rs ≡ flat (body_in n) []
  is_good : Good 0 (body_in n)

whole_top : {rs : List Record} {n : Reading} → Closes [] n → rs ≡ unread n → Whole rs n
whole_top (by_top g) e = record { is_top = refl; is_flat = e; is_good = g }

whole_of : (rs : List Record) → (first_fault [] 0 rs).number ≡ 0 → Whole rs (reading_of rs)
whole_of rs h = let i = reads_all (accepted rs [] 0 h) in whole_top i.closes i.same

-- the reading of an accepted list closes no block that it did not open
pub reading_top : (rs : List Record) → (first_fault [] 0 rs).number ≡ 0 → reading_of rs ≡ top (body_in (reading_of rs))
reading_top rs h = (whole_of rs h).is_top

-- an accepted list is the list of the records of its body
pub reading_flat : (rs : List Record) → (first_fault [] 0 rs).number ≡ 0 → rs ≡ flat (body_in (reading_of rs)) []
reading_flat rs h = (whole_of rs h).is_flat

-- the body has the widths, values and depths that the scan has checked
pub reading_good : (rs : List Record) → (first_fault [] 0 rs).number ≡ 0 → Good 0 (body_in (reading_of rs))
reading_good rs h = (whole_of rs h).is_good

-- ---- the same for the bytes of a script
settles :
    (a t b : Bool) (f : Refusal) (place : ℕ) → (t ≡ false → f.number ≡ 0 → ⊥) → (t ≡ true → f.number ≡ 0)
    → (cond a (refusal 1 0) (cond t (cond b (refusal 8 place) (refusal 0 0)) f)).number ≡ 0
    → (a ≡ false) × (f.number ≡ 0) × (b ≡ false)
settles true t b f place n y h = absurd (omega arith)
settles false false b f place n y h = absurd (n refl h)
settles false true true f place n y h = absurd (omega arith)
settles false true false f place n y h = (refl, y refl, refl)

pub record Accepts (bytes : List ℕ) : Type 0 where
  pub length_good : bad_length bytes ≡ false
  pub faultless : (first_fault [] 0 (records_of bytes)).number ≡ 0
  pub few_words_lem : words_in bytes ≤ 1024

-- a script that is not refused passes every check
pub accepts : (bytes : List ℕ) → (script_refusal bytes).number ≡ 0 → Accepts bytes
unfolding script_refusal
accepts bytes h =
    let f = first_fault [] 0 (records_of bytes) in
    let s = settles (bad_length bytes) (eqb f.number 0) (too_many_words bytes) f (record_count bytes)
    (eqb-false f.number 0) (eqb-true f.number 0) h in
    record { length_good = s.0; faultless = s.1; few_words_lem = ltb-false 1024 (words_in bytes) s.2 }

-- the converse: a script that passes every check is not refused
pub accepted_by :
    (bytes : List ℕ) → bad_length bytes ≡ false → (first_fault [] 0 (records_of bytes)).number ≡ 0 → words_in bytes ≤ 1024
    → (script_refusal bytes).number ≡ 0
unfolding script_refusal
accepted_by bytes l f w = rw (l, f, le-ltb 1024 (words_in bytes) w)
