-- Why a text is refused: the first line that is too long, not in the grammar or has a number that does not fit, with the least of these numbers, or
-- too little room. The first bad line is looked for from the first line on, so all lines before it are good.
use Prim.Native.Nat.{ℕ, suc, ◌+◌, ◌/◌}
use mathlib.Core.Path.{◌≡◌, refl, sym, ◌∙◌}
use mathlib.Core.Bool.{Bool, true, false, cond, false≢true, not}
use mathlib.Core.List.{List, [], ◌∷◌}
use native.Mathlib.Omega.{arith}
use borrow.Author.Tests.{eqb-true, ltb-false, ltb-true}
use lib.Dec.{eqb, ltb}
use lib.ListN.{length}
use Rattle.lists.specs.Tests.{first_from}
use Rattle.mask.proofs.Every.{both}
use Rattle.outcome.specs.Refusal.{Refusal, refusal}
use Rattle.record.specs.declared.Record.{Record}
use Rattle.statement.proofs.Complete.{complete}
use Rattle.statement.proofs.Sound.{sound}
use Rattle.statement.specs.Line.{all_fit, fits_fields, is_line, line_fault, line_records}
use Rattle.assembler.specs.Assemble.{answer, assemble_result, bad_line, first_bad_line, lines_of, no_room, text_records, text_refusal}
use Rattle.assembler.specs.TextCorrect.{BadLine, FirstBad, Fit, GoodLine, Refused}
use Rattle.assembler.proofs.NoBadLine.{good_line, good_text}
use Rattle.assembler.proofs.TextLines.{text_of}

-- ---- one line
all_fit_lem : (rs : List Record) → all_fit rs ≡ true → Fit rs
all_fit_lem [] e = tt
all_fit_lem (r ∷ rs) e = let b = both (fits_fields r) (all_fit rs) e in (b.0, all_fit_lem rs b.1)

fit_all : (rs : List Record) → Fit rs → all_fit rs ≡ true
fit_all [] f = refl
fit_all (r ∷ rs) f = rw f.0 (fit_all rs f.1)

is_good : (l : List ℕ) → line_fault l ≡ 0 → GoodLine l
is_good l e =
    let g = good_line l e in
    GoodLine.good g.short (sound l g.is_line_lem) (all_fit_lem (line_records l) g.fit)

is_bad : (l : List ℕ) → (line_fault l ≡ 0 → ⊥) → BadLine l (line_fault l)
unfolding line_fault
is_bad l n = pick (ltb 120 (length l)) (is_line l) (all_fit (line_records l)) refl refl refl n
  where
    pick : (a b c : Bool) → ltb 120 (length l) ≡ a → is_line l ≡ b → all_fit (line_records l) ≡ c
        → (first_from 30 (a ∷ not b ∷ not c ∷ []) ≡ 0 → ⊥) → BadLine l (first_from 30 (a ∷ not b ∷ not c ∷ []))
    pick true b c p q r n = BadLine.too_long (ltb-true 120 (length l) p)
    pick false false c p q r n =
        BadLine.not_in_grammar (ltb-false 120 (length l) p) (λ rs h. false≢true (sym q ∙ (complete h).0))
    pick false true false p q r n =
        BadLine.too_big (ltb-false 120 (length l) p) (sound l q) (λ f. false≢true (sym r ∙ fit_all (line_records l) f))
    pick false true true p q r n = absurd (n refl)

-- ---- the first bad line
record Found (ls : List (List ℕ)) (place : ℕ) (f : Refusal) : Type 0 where
  after : ℕ
  first : FirstBad ls f.number after
  placed : f.place ≡ place + after

found : (ls : List (List ℕ)) (place : ℕ) → ((first_bad_line place ls).number ≡ 0 → ⊥) → Found ls place (first_bad_line place ls)
found [] place n = absurd (n refl)
found (l ∷ ls) place n = pick (eqb (line_fault l) 0) refl (found ls (suc place)) n
  where
    pick : (t : Bool) → eqb (line_fault l) 0 ≡ t
        → (((first_bad_line (suc place) ls).number ≡ 0 → ⊥) → Found ls (suc place) (first_bad_line (suc place) ls))
        → ((cond t (first_bad_line (suc place) ls) (refusal (line_fault l) place)).number ≡ 0 → ⊥)
        → Found (l ∷ ls) place (cond t (first_bad_line (suc place) ls) (refusal (line_fault l) place))
    pick true q next m =
        let i = next m in
        let p = i.placed in
        record { after = suc i.after; first = FirstBad.later (is_good l (eqb-true (line_fault l) 0 q)) i.first; placed = omega (arith, p) }
    pick false q next m = record { after = 0; first = FirstBad.here (is_bad l m); placed = omega arith }

-- ---- the law
pub why_refused : (text buffer : List ℕ) → ((assemble_result text buffer).refusal ≡ 0 → ⊥) → Refused text buffer (assemble_result text buffer)
unfolding assemble_result bad_line text_records text_refusal
why_refused text buffer n = pick (eqb (bad_line text).number 0) refl (no_room text buffer) refl n
  where
    first_bad : ((bad_line text).number ≡ 0 → ⊥) → Found (lines_of text) 0 (bad_line text)
    first_bad m = found (lines_of text) 0 m

    pick : (a : Bool) → eqb (bad_line text).number 0 ≡ a → (b : Bool) → no_room text buffer ≡ b
        → ((cond a (cond b (refusal 33 0) (refusal 0 0)) (bad_line text)).number ≡ 0 → ⊥)
        → Refused text buffer (answer (cond a (cond b (refusal 33 0) (refusal 0 0)) (bad_line text)) (length (text_records text)))
    pick true p true q m =
        let g = good_text text (eqb-true (bad_line text).number 0 p) in
        let l = ltb-true (length buffer / 12) (length (text_records text)) q in
        Refused.no_room (text_of text g.are_lines) g.short g.fit (omega (arith, l))
    pick true p false q m = absurd (m refl)
    pick false p b q m =
        let f = first_bad m in
        let e = f.placed in
        let z : (bad_line text).place ≡ f.after = omega (arith, e) in
        rw (p, z) (Refused.bad_line f.first)
