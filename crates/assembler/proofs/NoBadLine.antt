-- No line is bad exactly if each is short and in the grammar, and the numbers of its records fit. The first bad line is looked for from the
-- first line on, and the fault of a line is the first of its three tests that fails.
use Prim.Native.Nat.{ℕ, suc, ◌≤◌}
use mathlib.Core.Path.{◌≡◌, refl}
use mathlib.Core.Bool.{true, not}
use mathlib.Core.List.{List, [], ◌∷◌, ◌++◌}
use borrow.Author.Tests.{eqb-false, eqb-true, le-ltb, ltb-false, not-false}
use lib.Dec.{eqb, ltb}
use lib.ListN.{length}
use native.Mathlib.Omega.{arith}
use Rattle.lists.specs.All.{All}
use Rattle.lists.proofs.Tests.{none_from}
use Rattle.outcome.specs.Refusal.{refusal}
use Rattle.record.specs.declared.Record.{Record}
use Rattle.script.proofs.Flat.{stops}
use Rattle.statement.specs.Line.{all_fit, fits_fields, is_line, line_fault, line_records}
use Rattle.mask.proofs.Every.{both}
use Rattle.assembler.specs.Assemble.{bad_line, first_bad_line, lines_of, records_in, text_records}
use Rattle.assembler.specs.TextCorrect.{Fit}
use Rattle.assembler.proofs.TextLines.{AreLines}

abbrev pub AreShort : List (List ℕ) → Type 0
AreShort = All (λ l. length l ≤ 120)

-- ---- one line
pub record Passes (l : List ℕ) : Type 0 where
  pub short : length l ≤ 120
  pub is_line_lem : is_line l ≡ true
  pub fit : all_fit (line_records l) ≡ true

pub good_line : (l : List ℕ) → line_fault l ≡ 0 → Passes l
unfolding line_fault
good_line l h =
    let none = none_from (ltb 120 (length l) ∷ not (is_line l) ∷ not (all_fit (line_records l)) ∷ []) 30 (omega arith) h in
    record {
      short = ltb-false 120 (length l) (none 0);
      is_line_lem = not-false (is_line l) (none 1);
      fit = not-false (all_fit (line_records l)) (none 2);
    }

faultless : (l : List ℕ) → length l ≤ 120 → is_line l ≡ true → all_fit (line_records l) ≡ true → line_fault l ≡ 0
unfolding line_fault
faultless l s i f = rw (le-ltb 120 (length l) s, i, f)

-- ---- all records of a list fit
pub fit_append : (rs ss : List Record) → all_fit rs ≡ true → Fit ss → Fit (rs ++ ss)
fit_append [] ss h t = t
fit_append (r ∷ rs) ss h t = let b = both (fits_fields r) (all_fit rs) h in (b.0, fit_append rs ss b.1 t)

pub fit_parts : (rs ss : List Record) → Fit (rs ++ ss) → (all_fit rs ≡ true) × Fit ss
fit_parts [] ss t = (refl, t)
fit_parts (r ∷ rs) ss t =
    let i = fit_parts rs ss t.1 in
    (rw t.0 i.0, i.1)

-- ---- all lines
pub record GoodLines (ls : List (List ℕ)) : Type 0 where
  pub short : AreShort ls
  pub are_lines : AreLines ls
  pub fit : Fit (records_in ls)

good_lines : (ls : List (List ℕ)) (place : ℕ) → (first_bad_line place ls).number ≡ 0 → GoodLines ls
good_lines [] place h = record { short = tt; are_lines = tt; fit = tt }
good_lines (l ∷ ls) place h =
    let n = line_fault l in
    let s = stops (eqb n 0) (first_bad_line (suc place) ls) (refusal n place) (eqb-false n 0) h in
    let g = good_line l (eqb-true n 0 s.0) in
    let i = good_lines ls (suc place) s.1 in
    record {
      short = (g.short, i.short);
      are_lines = (g.is_line_lem, i.are_lines);
      fit = fit_append (line_records l) (records_in ls) g.fit i.fit;
    }

none_bad : (ls : List (List ℕ)) (place : ℕ) → AreShort ls → AreLines ls → Fit (records_in ls) → first_bad_line place ls ≡ refusal 0 0
none_bad [] place s i f = refl
none_bad (l ∷ ls) place s i f =
    let p = fit_parts (line_records l) (records_in ls) f in
    rw (faultless l s.0 i.0 p.0) (none_bad ls (suc place) s.1 i.1 p.1)

-- ---- the laws
module _ (text : List ℕ) where
  pub good_text : (bad_line text).number ≡ 0 → GoodLines (lines_of text)
  unfolding bad_line
  good_text h = good_lines (lines_of text) 0 h

  pub no_bad_line : AreShort (lines_of text) → AreLines (lines_of text) → Fit (text_records text) → bad_line text ≡ refusal 0 0
  unfolding bad_line text_records
  no_bad_line s i f = none_bad (lines_of text) 0 s i f
