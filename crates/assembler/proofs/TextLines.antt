-- A text is in the grammar exactly if each of its lines is, and its records are those of its lines. The grammar divides a text into the lines of
-- `lines_of`, because a line has no line feed in it.
use Prim.Native.Nat.{ℕ}
use mathlib.Core.Path.{◌≡◌, refl, sym, ◌∙◌}
use mathlib.Core.Bool.{Bool, true, false, cond, not}
use mathlib.Core.List.{List, [], ◌∷◌, ◌++◌, append-nil}
use borrow.Author.Tests.{eqb-false, eqb-true, ne_eqb}
use lib.Dec.{eqb}
use Rattle.lists.specs.All.{All}
use Rattle.record.specs.declared.Record.{Record}
use Rattle.statement.specs.Line.{is_line}
use Rattle.statement.proofs.Complete.{complete}
use Rattle.statement.proofs.Sound.{sound}
use Rattle.assembler.specs.Assemble.{in_first, lines_of, records_in, text_records}
use Rattle.assembler.specs.Grammar.{Lines, NoLineFeed, Text}

-- each of the lines is in the grammar
abbrev pub AreLines : List (List ℕ) → Type 0
AreLines = All (λ l. is_line l ≡ true)

-- ---- the lines of a text
one_more : {b : ℕ} {t : List ℕ} {ls : List (List ℕ)} → (b ≡ 0x0A → ⊥) → Lines t ls → Lines (b ∷ t) (in_first b ls)
one_more {b} n Lines.end = Lines.last (n, tt)
one_more {b} n (Lines.last f) = Lines.last (n, f)
one_more {b} n (Lines.line {l} f s) = Lines.line {l = b ∷ l} (n, f) s

-- `lines_of` divides every text
pub divided : (t : List ℕ) → Lines t (lines_of t)
divided [] = Lines.end
divided (b ∷ t) = pick (eqb b 0x0A) refl (divided t)
  where
    pick : (p : Bool) → eqb b 0x0A ≡ p → Lines t (lines_of t) → Lines (b ∷ t) (cond (not p) (in_first b (lines_of t)) ([] ∷ lines_of t))
    pick true e s = rw (eqb-true b 0x0A e) (Lines.line {l = []} tt s)
    pick false e s = one_more (eqb-false b 0x0A e) s

-- and every division into lines is that of `lines_of`
pub line_of : (l t : List ℕ) → NoLineFeed l → lines_of (l ++ (0x0A ∷ t)) ≡ l ∷ lines_of t
line_of [] t f = refl
line_of (b ∷ l) t f = rw (ne_eqb b 0x0A f.0, line_of l t f.1)

last_of : (b : ℕ) (bs : List ℕ) → NoLineFeed (b ∷ bs) → lines_of (b ∷ bs) ≡ (b ∷ bs) ∷ []
last_of b [] f = rw (ne_eqb b 0x0A f.0)
last_of b (c ∷ bs) f = rw (ne_eqb b 0x0A f.0, last_of c bs f.1)

pub one_division_lem : {t : List ℕ} {ls : List (List ℕ)} → Lines t ls → ls ≡ lines_of t
one_division_lem Lines.end = refl
one_division_lem (Lines.last {b} {bs} f) = sym (last_of b bs f)
one_division_lem (Lines.line {l} {t} f s) = rw (line_of l t f, ← one_division_lem s)

-- ---- the laws
pub text_read : {t : List ℕ} {rs : List Record} → Text t rs → AreLines (lines_of t) × (text_records t ≡ rs)
unfolding text_records
text_read Text.end = (tt, refl)
text_read (Text.last {b} {bs} h f) =
    let c = complete h in
    rw (last_of b bs f) ((c.0, tt), append-nil _ ∙ c.1)
text_read (Text.line {l} {t} h f s) =
    let c = complete h in
    let i = text_read s in
    rw (line_of l t f) ((c.0, i.0), rw (c.1, i.1))

of_lines : {t : List ℕ} {ls : List (List ℕ)} → Lines t ls → AreLines ls → Text t (records_in ls)
of_lines Lines.end h = Text.end
of_lines (Lines.last {b} {bs} f) h = rw append-nil (Text.last (sound (b ∷ bs) h.0) f)
of_lines (Lines.line {l} f s) h = Text.line (sound l h.0) f (of_lines s h.1)

pub text_of : (t : List ℕ) → AreLines (lines_of t) → Text t (text_records t)
unfolding text_records
text_of t h = of_lines (divided t) h

-- a text has one reading
pub one_reading_lem : {t : List ℕ} {rs ss : List Record} → Text t rs → Text t ss → rs ≡ ss
one_reading_lem a b = sym (text_read a).1 ∙ (text_read b).1
