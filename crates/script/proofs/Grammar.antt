-- The scripts without a refusal are exactly the legal ones: the records of a legal body have no fault, and a list without a fault is
-- the records of a legal body. Both by induction on the body.
use Prim.Native.Nat.{ℕ, zero, suc, ◌+◌, ◌^◌, ◌%◌, ◌≤◌, ◌<◌}
use mathlib.Core.Path.{◌≡◌, refl, sym, ap, ◌∙◌}
use mathlib.Core.Bool.{Bool, true, false, not, true≢false, ◌||◌}
use mathlib.Core.List.{List, [], ◌∷◌}
use mathlib.Core.Logic.{inl, inr}
use borrow.Author.Tests.{eqb-true, eqb-false, leb-true, leb-false, le-leb, le-ltb, lt-leb, not-false}
use lib.Dec.{eqb, leb}
use lib.ListN.{length}
use native.Mathlib.Omega.{arith}
use Rattle.mask.proofs.Every.{both, neither}
use Rattle.record.specs.declared.Record.{Record}
use Rattle.outcome.specs.Refusal.{Refusal, refusal}
use Rattle.width.specs.Width.{fits_width, is_width}
use Rattle.script.specs.Grammar.{Legal, LegalScript, Width, words_for}
use Rattle.script.specs.Nested.{Body, done, write, read, delay, repeat, if, if_else, script_record, else_record, end_record, flat, body_in, reading_of}
use Rattle.script.specs.Records.{record_count, records_from, records_of}
use Rattle.script.specs.Refusals.{bad_length, first_fault, open_after, record_fault, repeats_in, script_refusal, word_count, words_in}
use Rattle.script.proofs.Flat.{accepted_by, accepts, count_fields_lem, passed, reading_flat, stops}
use Rattle.script.proofs.Records.{few_records_lem}

-- ---- widths and values
width_of : (w : ℕ) → is_width w ≡ true → Width w
width_of w h = pick (eqb w 1) (eqb w 2) (eqb w 4) refl refl refl h
  where
    pick : (a b c : Bool) → eqb w 1 ≡ a → eqb w 2 ≡ b → eqb w 4 ≡ c → (a || (b || c)) ≡ true → Width w
    pick true b c p q r h = inl (eqb-true w 1 p)
    pick false true c p q r h = inr (inl (eqb-true w 2 q))
    pick false false true p q r h = inr (inr (eqb-true w 4 r))
    pick false false false p q r h = absurd (true≢false (sym h))

is_width_lem : (w : ℕ) → Width w → is_width w ≡ true
is_width_lem w (inl e) = rw e
is_width_lem w (inr (inl e)) = rw e
is_width_lem w (inr (inr e)) = rw e

fits_of : (w v : ℕ) → Width w → fits_width w v ≡ true → v < 256 ^ w
fits_of w v (inl e) h = rw e (let l = leb-true v 255 (rw e at h) in omega arith)
fits_of w v (inr (inl e)) h = rw e (let l = leb-true v 65535 (rw e at h) in omega arith)
fits_of w v (inr (inr e)) h = rw e (let l = leb-true v 4294967295 (rw e at h) in omega arith)

does_fit : (w v : ℕ) → Width w → v < 256 ^ w → fits_width w v ≡ true
does_fit w v (inl e) h = rw e (let l : v < 256 = rw e at h in le-leb v 255 (omega arith))
does_fit w v (inr (inl e)) h = rw e (let l : v < 65536 = rw e at h in le-leb v 65535 (omega arith))
does_fit w v (inr (inr e)) h = rw e (let l : v < 4294967296 = rw e at h in le-leb v 4294967295 (omega arith))

-- ---- a list without a fault: its first record has none, and the rest has none
step :
    (blocks : List ℕ) (place : ℕ) (r : Record) (rs : List Record) → (first_fault blocks place (r ∷ rs)).number ≡ 0
    → (record_fault blocks r ≡ 0) × ((first_fault (open_after blocks r.kind) (suc place) rs).number ≡ 0)
step blocks place r rs h =
    let s = stops (eqb (record_fault blocks r) 0) (first_fault (open_after blocks r.kind) (suc place) rs)
    (refusal (record_fault blocks r) place) (λ e z. eqb-false (record_fault blocks r) 0 e z) h in
    (eqb-true (record_fault blocks r) 0 s.0, s.1)

record Rest (blocks : List ℕ) (tl : List Record) : Type 0 where
  place : ℕ
  faultless : (first_fault blocks place tl).number ≡ 0

legal_of :
    (b : Body) (blocks : List ℕ) (place : ℕ) (tl : List Record) → (first_fault blocks place (flat b tl)).number ≡ 0
    → Legal (length blocks) (repeats_in blocks) b × Rest blocks tl
legal_of done blocks place tl h = (tt, record { place = place; faultless = h })
legal_of (write p w v rest) blocks place tl h =
    let s = step blocks place (script_record 1 w p v) (flat rest tl) h in
    let f = both (is_width w) (fits_width w v) (passed blocks (script_record 1 w p v) s.0).fields in
    let wide = width_of w f.0 in
    let i = legal_of rest blocks (suc place) tl s.1 in
    ((wide, fits_of w v wide f.1, i.0), i.1)
legal_of (read p w rest) blocks place tl h =
    let s = step blocks place (script_record 2 w p 0) (flat rest tl) h in
    let f = both (is_width w) true (passed blocks (script_record 2 w p 0) s.0).fields in
    let i = legal_of rest blocks (suc place) tl s.1 in
    ((width_of w f.0, i.0), i.1)
legal_of (delay n rest) blocks place tl h =
    let s = step blocks place (script_record 3 0 0 n) (flat rest tl) h in
    let f = count_fields_lem 0 0 n (passed blocks (script_record 3 0 0 n) s.0).fields in
    let i = legal_of rest blocks (suc place) tl s.1 in
    ((f.2, i.0), i.1)
legal_of (repeat n b rest) blocks place tl h =
    let s = step blocks place (script_record 4 0 0 n) (flat b (end_record ∷ flat rest tl)) h in
    let q = passed blocks (script_record 4 0 0 n) s.0 in
    let f = count_fields_lem 0 0 n q.fields in
    let d = neither (leb 16 (length blocks)) (leb 8 (repeats_in blocks)) q.shallow in
    let i = legal_of b (4 ∷ blocks) (suc place) (end_record ∷ flat rest tl) s.1 in
    let e = step (4 ∷ blocks) i.1.place end_record (flat rest tl) i.1.faultless in
    let j = legal_of rest blocks (suc i.1.place) tl e.1 in
    ((f.2, leb-false 16 (length blocks) d.0, leb-false 8 (repeats_in blocks) d.1, i.0, j.0), j.1)
legal_of (if p w m b rest) blocks place tl h =
    let s = step blocks place (script_record 5 w p m) (flat b (end_record ∷ flat rest tl)) h in
    let q = passed blocks (script_record 5 w p m) s.0 in
    let f = both (is_width w) (fits_width w m) q.fields in
    let wide = width_of w f.0 in
    let d = neither (leb 16 (length blocks)) false q.shallow in
    let i = legal_of b (5 ∷ blocks) (suc place) (end_record ∷ flat rest tl) s.1 in
    let e = step (5 ∷ blocks) i.1.place end_record (flat rest tl) i.1.faultless in
    let j = legal_of rest blocks (suc i.1.place) tl e.1 in
    ((wide, fits_of w m wide f.1, leb-false 16 (length blocks) d.0, i.0, j.0), j.1)
legal_of (if_else p w m b c rest) blocks place tl h =
    let s = step blocks place (script_record 5 w p m) (flat b (else_record ∷ flat c (end_record ∷ flat rest tl))) h in
    let q = passed blocks (script_record 5 w p m) s.0 in
    let f = both (is_width w) (fits_width w m) q.fields in
    let wide = width_of w f.0 in
    let d = neither (leb 16 (length blocks)) false q.shallow in
    let i = legal_of b (5 ∷ blocks) (suc place) (else_record ∷ flat c (end_record ∷ flat rest tl)) s.1 in
    let o = step (5 ∷ blocks) i.1.place else_record (flat c (end_record ∷ flat rest tl)) i.1.faultless in
    let j = legal_of c (6 ∷ blocks) (suc i.1.place) (end_record ∷ flat rest tl) o.1 in
    let e = step (6 ∷ blocks) j.1.place end_record (flat rest tl) j.1.faultless in
    let k = legal_of rest blocks (suc j.1.place) tl e.1 in
    ((wide, fits_of w m wide f.1, leb-false 16 (length blocks) d.0, i.0, j.0, k.0), k.1)

-- ---- the records of a legal body have no fault
module _ (blocks : List ℕ) where
  clean : (place : ℕ) (r : Record) (rs : List Record) → record_fault blocks r ≡ 0
      → first_fault blocks place (r ∷ rs) ≡ first_fault (open_after blocks r.kind) (suc place) rs
  clean place r rs h = rw h

  write_clean : (w p v : ℕ) → is_width w ≡ true → fits_width w v ≡ true → record_fault blocks (script_record 1 w p v) ≡ 0
  unfolding record_fault
  write_clean w p v hw hv = rw (hw, hv)

  read_clean : (w p : ℕ) → is_width w ≡ true → record_fault blocks (script_record 2 w p 0) ≡ 0
  unfolding record_fault
  read_clean w p hw = rw hw

  delay_clean : (n : ℕ) → leb n 65535 ≡ true → record_fault blocks (script_record 3 0 0 n) ≡ 0
  unfolding record_fault
  delay_clean n h = rw h

  repeat_clean : (n : ℕ) → leb n 65535 ≡ true → leb 16 (length blocks) ≡ false → leb 8 (repeats_in blocks) ≡ false
      → record_fault blocks (script_record 4 0 0 n) ≡ 0
  unfolding record_fault
  repeat_clean n h d e = rw (h, d, e)

  if_clean : (w p m : ℕ) → is_width w ≡ true → fits_width w m ≡ true → leb 16 (length blocks) ≡ false
      → record_fault blocks (script_record 5 w p m) ≡ 0
  unfolding record_fault
  if_clean w p m hw hm d = rw (hw, hm, d)

  end_clean : (o : ℕ) → eqb o 0 ≡ false → record_fault (o ∷ blocks) end_record ≡ 0
  unfolding record_fault
  end_clean o h = rw h

  else_clean : record_fault (5 ∷ blocks) else_record ≡ 0
  unfolding record_fault
  else_clean = refl

abbrev place_after : ℕ → Body → ℕ
place_after place done = place
place_after place (write p w v rest) = place_after (suc place) rest
place_after place (read p w rest) = place_after (suc place) rest
place_after place (delay n rest) = place_after (suc place) rest
place_after place (repeat n b rest) = place_after (suc (place_after (suc place) b)) rest
place_after place (if p w m b rest) = place_after (suc (place_after (suc place) b)) rest
place_after place (if_else p w m b c rest) = place_after (suc (place_after (suc (place_after (suc place) b)) c)) rest

pub faultless :
    (b : Body) (blocks : List ℕ) (place : ℕ) (tl : List Record) → Legal (length blocks) (repeats_in blocks) b
    → first_fault blocks place (flat b tl) ≡ first_fault blocks (place_after place b) tl
faultless done blocks place tl l = refl
faultless (write p w v rest) blocks place tl l =
    clean blocks place (script_record 1 w p v) (flat rest tl) (write_clean blocks w p v (is_width_lem w l.0) (does_fit w v l.0 l.1))
    ∙ faultless rest blocks (suc place) tl l.2
faultless (read p w rest) blocks place tl l =
    clean blocks place (script_record 2 w p 0) (flat rest tl) (read_clean blocks w p (is_width_lem w l.0))
    ∙ faultless rest blocks (suc place) tl l.1
faultless (delay n rest) blocks place tl l =
    clean blocks place (script_record 3 0 0 n) (flat rest tl) (delay_clean blocks n (le-leb n 65535 l.0))
    ∙ faultless rest blocks (suc place) tl l.1
faultless (repeat n b rest) blocks place tl l =
    clean blocks place (script_record 4 0 0 n) (flat b (end_record ∷ flat rest tl))
    (repeat_clean blocks n (le-leb n 65535 l.0) (lt-leb 16 (length blocks) l.1) (lt-leb 8 (repeats_in blocks) l.2))
    ∙ faultless b (4 ∷ blocks) (suc place) (end_record ∷ flat rest tl) l.3
    ∙ clean (4 ∷ blocks) (place_after (suc place) b) end_record (flat rest tl) (end_clean blocks 4 refl)
    ∙ faultless rest blocks (suc (place_after (suc place) b)) tl l.4
faultless (if p w m b rest) blocks place tl l =
    clean blocks place (script_record 5 w p m) (flat b (end_record ∷ flat rest tl))
    (if_clean blocks w p m (is_width_lem w l.0) (does_fit w m l.0 l.1) (lt-leb 16 (length blocks) l.2))
    ∙ faultless b (5 ∷ blocks) (suc place) (end_record ∷ flat rest tl) l.3
    ∙ clean (5 ∷ blocks) (place_after (suc place) b) end_record (flat rest tl) (end_clean blocks 5 refl)
    ∙ faultless rest blocks (suc (place_after (suc place) b)) tl l.4
faultless (if_else p w m b c rest) blocks place tl l =
    clean blocks place (script_record 5 w p m) (flat b (else_record ∷ flat c (end_record ∷ flat rest tl)))
    (if_clean blocks w p m (is_width_lem w l.0) (does_fit w m l.0 l.1) (lt-leb 16 (length blocks) l.2))
    ∙ faultless b (5 ∷ blocks) (suc place) (else_record ∷ flat c (end_record ∷ flat rest tl)) l.3
    ∙ clean (5 ∷ blocks) (place_after (suc place) b) else_record (flat c (end_record ∷ flat rest tl)) (else_clean blocks)
    ∙ faultless c (6 ∷ blocks) (suc (place_after (suc place) b)) (end_record ∷ flat rest tl) l.4
    ∙ clean (6 ∷ blocks) (place_after (suc (place_after (suc place) b)) c) end_record (flat rest tl) (end_clean blocks 6 refl)
    ∙ faultless rest blocks (suc (place_after (suc (place_after (suc place) b)) c)) tl l.5

-- ---- the words of a body
pub words_flat :
    (b : Body) (blocks : List ℕ) (tl : List Record) → word_count blocks (flat b tl) ≡ words_for b + word_count blocks tl
words_flat done blocks tl = omega arith
words_flat (write p w v rest) blocks tl = let i = words_flat rest blocks tl in omega arith
words_flat (read p w rest) blocks tl = let i = words_flat rest blocks tl in omega arith
words_flat (delay n rest) blocks tl = let i = words_flat rest blocks tl in omega arith
words_flat (repeat n b rest) blocks tl =
    let i = words_flat b (4 ∷ blocks) (end_record ∷ flat rest tl) in
    let j = words_flat rest blocks tl in
    omega arith
words_flat (if p w m b rest) blocks tl =
    let i = words_flat b (5 ∷ blocks) (end_record ∷ flat rest tl) in
    let j = words_flat rest blocks tl in
    omega arith
words_flat (if_else p w m b c rest) blocks tl =
    let i = words_flat b (5 ∷ blocks) (else_record ∷ flat c (end_record ∷ flat rest tl)) in
    let j = words_flat c (6 ∷ blocks) (end_record ∷ flat rest tl) in
    let k = words_flat rest blocks tl in
    omega arith

-- ---- scripts
from_length : (n place : ℕ) (bytes : List ℕ) → length (records_from n place bytes) ≡ n
from_length zero place bytes = refl
from_length (suc n) place bytes = ap (λ (k : ℕ). suc k) (from_length n (suc place) bytes)

pub records_length : (bytes : List ℕ) → length (records_of bytes) ≡ record_count bytes
unfolding records_of
records_length bytes = from_length (record_count bytes) 0 bytes

-- a script that none of refusals 1 to 8 applies to is legal
pub legal_script : (script : List ℕ) → (script_refusal script).number ≡ 0 → LegalScript script
legal_script script h =
    let a = accepts script h in
    let b = body_in (reading_of (records_of script)) in
    let e : records_of script ≡ flat b [] = reading_flat (records_of script) a.faultless in
    let clear : (first_fault [] 0 (flat b [])).number ≡ 0 = sym (ap (λ (rs : List Record). (first_fault [] 0 rs).number) e) ∙ a.faultless in
    let words : words_in script ≡ words_for b + 1 = ap (λ (rs : List Record). word_count [] rs) e ∙ words_flat b [] [] in
    let few = a.few_words_lem in
    let size : length (flat b []) ≡ record_count script = sym (ap (λ (rs : List Record). length rs) e) ∙ records_length script in
    let most = few_records_lem script a.length_good in
    let whole = eqb-true (length script % 12) 0 (not-false (eqb (length script % 12) 0) (neither (not (eqb (length script % 12) 0)) _ a.length_good).0) in
    record {
      body = b;
      records = e;
      whole_records = omega arith;
      few_records = omega arith;
      legal = (legal_of b [] 0 [] clear).0;
      few_words = omega arith;
    }

-- and none of them applies to a legal script
pub record LegalIsAccepted (script : List ℕ) (g : LegalScript script) : Type 0 where
  pub accepted : (script_refusal script).number ≡ 0
  pub words : words_in script ≡ 1 + words_for g.body

pub legal_accepted : (script : List ℕ) (g : LegalScript script) → LegalIsAccepted script g
legal_accepted script g =
    let b = g.body in
    let size : record_count script ≡ length (flat b []) = sym (records_length script) ∙ ap (λ (rs : List Record). length rs) g.records in
    let whole = g.whole_records in
    let most = g.few_records in
    let clear : (first_fault [] 0 (records_of script)).number ≡ 0 =
    ap (λ (rs : List Record). (first_fault [] 0 rs).number) g.records ∙ ap (λ (f : Refusal). f.number) (faultless b [] 0 [] g.legal) in
    let words : words_in script ≡ words_for b + 1 = ap (λ (rs : List Record). word_count [] rs) g.records ∙ words_flat b [] [] in
    let few = g.few_words in
    let z : length script % 12 ≡ 0 = omega arith in
    let n : record_count script ≤ 1024 = omega arith in
    let l : bad_length script ≡ false = rw (z, le-ltb 1024 (record_count script) n) in
    record { accepted = accepted_by script l clear (omega arith); words = omega arith }
