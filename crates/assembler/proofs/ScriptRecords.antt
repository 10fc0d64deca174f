-- The records of a text whose numbers fit are script records. Each has the mark of a script and one of the seven kinds, and a number that fits is small
-- enough for the bytes of its field. So the bytes of the records are read back as the same records.
use Prim.Native.Nat.{ℕ, suc, ◌*◌, ◌/◌, ◌≤◌, ◌<◌}
use mathlib.Core.Path.{◌≡◌, refl, sym, ap, ◌∙◌}
use mathlib.Core.Bool.{Bool, true, false, false≢true, ◌||◌}
use mathlib.Core.List.{List, [], ◌∷◌, ◌++◌, append_assoc, append-nil}
use borrow.Author.Tests.{eqb-true, le-leb}
use lib.Dec.{eqb}
use lib.ListN.{length, length-append}
use native.Mathlib.Omega.{arith}
use Rattle.compiler.proofs.Image.{image_length}
use Rattle.lists.specs.All.{All}
use Rattle.mask.proofs.Every.{both}
use Rattle.record.proofs.ReadBack.{Fits, read_back_lem, twelve_bytes}
use Rattle.record.specs.Record.{bytes_of, record_at}
use Rattle.record.specs.declared.Record.{Record}
use Rattle.script.specs.Nested.{script_record}
use Rattle.script.specs.Records.{records_from, records_of}
use Rattle.script.specs.Scan.{shape_fault}
use Rattle.statement.proofs.Fields.{fits_small, good_needed}
use Rattle.statement.specs.Grammar.{Line, Statement}
use Rattle.statement.specs.Line.{fits_fields}
use Rattle.width.specs.Width.{is_width}
use Rattle.assembler.specs.Assemble.{record_bytes}
use Rattle.assembler.specs.Grammar.{Text}
use Rattle.assembler.specs.TextCorrect.{AreScript, Fit}

-- ---- one record
record IsScript (r : Record) : Type 0 where
  fits : Fits r
  faultless : shape_fault r ≡ 0

width_small : (w : ℕ) → is_width w ≡ true → w < 256
width_small w h = pick (eqb w 1) (eqb w 2) (eqb w 4) refl refl refl h
  where
    pick : (a b c : Bool) → eqb w 1 ≡ a → eqb w 2 ≡ b → eqb w 4 ≡ c → (a || (b || c)) ≡ true → w < 256
    pick true b c p q r h = omega (arith, eqb-true w 1 p)
    pick false true c p q r h = omega (arith, eqb-true w 2 q)
    pick false false true p q r h = omega (arith, eqb-true w 4 r)
    pick false false false p q r h = absurd (false≢true h)

is_script : (k w p v : ℕ) → 1 ≤ k → k ≤ 7 → w < 256 → fits_fields (script_record k w p v) ≡ true → IsScript (script_record k w p v)
unfolding shape_fault
is_script k w p v l m s f =
    let r = script_record k w p v in
    let n = fits_small k w p v f in
    record {
      fits = record { mark = omega arith; kind = omega arith; width = s; port = omega (arith, n.port); target = omega arith; value = n.value };
      faultless = rw (le-leb 1 k l, le-leb k 7 m, good_needed r f);
    }

of_statement : {s : List ℕ} {r : Record} → Statement s r → fits_fields r ≡ true → IsScript r
of_statement (Statement.write {width = w} {port = p} {value = v} _ _ _ _ _ _) f =
    is_script 1 w p v (omega arith) (omega arith) (width_small w (both (is_width w) _ (good_needed (script_record 1 w p v) f)).0) f
of_statement (Statement.read {width = w} {port = p} _ _ _ _) f =
    is_script 2 w p 0 (omega arith) (omega arith) (width_small w (both (is_width w) _ (good_needed (script_record 2 w p 0) f)).0) f
of_statement (Statement.delay {count = n} _ _) f = is_script 3 0 0 n (omega arith) (omega arith) (omega arith) f
of_statement (Statement.repeat {count = n} _ _) f = is_script 4 0 0 n (omega arith) (omega arith) (omega arith) f
of_statement (Statement.if {width = w} {port = p} {value = v} _ _ _ _ _ _) f =
    is_script 5 w p v (omega arith) (omega arith) (width_small w (both (is_width w) _ (good_needed (script_record 5 w p v) f)).0) f
of_statement Statement.else f = is_script 6 0 0 0 (omega arith) (omega arith) (omega arith) f
of_statement Statement.end f = is_script 7 0 0 0 (omega arith) (omega arith) (omega arith) f

-- ---- the records of a line, in front of others, and of a text
of_line : {l : List ℕ} {rs : List Record} → Line l rs → (ss : List Record) → Fit (rs ++ ss) → (Fit ss → All IsScript ss)
    → All IsScript (rs ++ ss)
of_line (Line.empty _ _ _) ss f next = next f
of_line (Line.statement _ s _ _ _) ss f next = (of_statement s f.0, next f.1)

of_text : {t : List ℕ} {rs : List Record} → Text t rs → Fit rs → All IsScript rs
of_text Text.end f = tt
of_text (Text.last h n) f = rw append-nil at (of_line h [] (rw append-nil f) (λ g. g))
of_text (Text.line {ss = ss} h n t) f = of_line h ss f (λ g. of_text t g)

-- ---- their bytes
read_from : (front : List ℕ) (place : ℕ) (rs : List Record) → length front ≡ 12 * place → All IsScript rs
    → records_from (length rs) place (front ++ record_bytes rs) ≡ rs
read_from front place [] e h = refl
read_from front place (r ∷ rs) e h =
    let more = front ++ bytes_of r in
    let l : length more ≡ 12 * suc place = omega (arith, length-append front (bytes_of r), twelve_bytes r) in
    let first : record_at (front ++ (bytes_of r ++ record_bytes rs)) (12 * place) ≡ r =
    ap (record_at (front ++ (bytes_of r ++ record_bytes rs))) (sym e) ∙ read_back_lem front (record_bytes rs) r h.0.fits in
    let others = read_from more (suc place) rs l h.1 in
    rw (first, rw append_assoc at others)

all_faultless : (rs : List Record) → All IsScript rs → All (λ r. shape_fault r ≡ 0) rs
all_faultless [] h = tt
all_faultless (r ∷ rs) h = (h.0.faultless, all_faultless rs h.1)

-- ---- the law
pub are_script_lem : {t : List ℕ} {rs : List Record} → Text t rs → Fit rs → AreScript rs
unfolding records_of
are_script_lem {rs = rs} t f =
    let h = of_text t f in
    let n : length (record_bytes rs) / 12 ≡ length rs = omega (arith, image_length rs) in
    record { same = rw n (read_from [] 0 rs refl h); faultless = all_faultless rs h }
