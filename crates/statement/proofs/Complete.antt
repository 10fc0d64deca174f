-- Every line of the grammar is read, with the records that the grammar gives it: its content is what stands before the comment and the carriage
-- return, and that is blanks alone or a statement.
use Prim.Native.Nat.{ℕ}
use mathlib.Core.Path.{◌≡◌, ap, ◌∙◌}
use mathlib.Core.Bool.{true}
use mathlib.Core.List.{List, ◌++◌, append_assoc}
use Rattle.record.specs.declared.Record.{Record}
use Rattle.statement.specs.Grammar.{Line}
use Rattle.statement.specs.Line.{content, is_line, line_records}
use Rattle.statement.proofs.Contents.{content_at}
use Rattle.statement.proofs.Statements.{statement_read}
use Rattle.statement.proofs.Words.{blanks_plain, no_word}

pub complete : {l : List ℕ} {rs : List Record} → Line l rs → (is_line l ≡ true) × (line_records l ≡ rs)
unfolding is_line line_records
complete (Line.empty {a} b c e) = let at = content_at a (blanks_plain b) c e in (rw (at, no_word b), rw (at, no_word b))
complete (Line.statement {a} {s} {b} {c} {e} x t y u v) =
    let r = statement_read x t y in
    let whole : a ++ (s ++ (b ++ (c ++ e))) ≡ a ++ (s ++ b) ++ (c ++ e) = simp append_assoc in
    let at = ap content whole ∙ content_at (a ++ (s ++ b)) r.plain u v in
    (rw (at, r.some, r.is_statement_lem), rw (at, r.some, r.means))
