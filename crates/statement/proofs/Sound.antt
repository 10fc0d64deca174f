-- A line that is read is a line of the grammar, with the records that are read from it: its content is blanks alone or a statement, and a comment
-- and a carriage return may follow.
use Prim.Native.Nat.{ℕ}
use mathlib.Core.Path.{◌≡◌, refl, ◌∙◌}
use mathlib.Core.Bool.{Bool, true, false, cond, ◌||◌}
use mathlib.Core.List.{List, [], ◌∷◌, ◌++◌, append_assoc}
use Rattle.record.specs.declared.Record.{Record}
use Rattle.statement.specs.Grammar.{Blanks, Line}
use Rattle.statement.specs.Line.{content, is_empty, is_line, is_statement, line_records, statement_record, word}
use Rattle.statement.proofs.Contents.{Ending, ending}
use Rattle.statement.proofs.Statements.{Said, statement_said}
use Rattle.statement.proofs.Words.{blanks_alone, indent_blanks, split}

module _ (l : List ℕ) (end : Ending l) where
  blank_line : is_empty (word (content l)) ≡ true → Line l []
  blank_line h = rw end.whole at (Line.empty (blanks_alone (content l) h) end.is_comment end.is_return)

  statement_line : {a t : List ℕ} {r : Record} → Blanks a → Said t r → a ++ t ≡ content l → Line l (r ∷ [])
  statement_line {a} blanks (Said.said {s} {b} h k) e =
      let rest = end.comment ++ end.return in
      let shifted : a ++ (s ++ (b ++ rest)) ≡ a ++ (s ++ b) ++ rest = simp append_assoc in
      let whole : a ++ (s ++ b) ++ rest ≡ l = rw e end.whole in
      rw (shifted ∙ whole) at (Line.statement blanks h k end.is_comment end.is_return)

pub sound : (l : List ℕ) → is_line l ≡ true → Line l (line_records l)
unfolding is_line line_records
sound l h = pick (is_empty (word (content l))) refl h
  where
    pick : (p : Bool) → is_empty (word (content l)) ≡ p → (p || is_statement (content l)) ≡ true
        → Line l (cond p [] (statement_record (content l) ∷ []))
    pick true e f = blank_line l (ending l) e
    pick false e f =
        statement_line l (ending l) (indent_blanks (content l)) (statement_said (content l) f) (split (content l))
