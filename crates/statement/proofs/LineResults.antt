-- The result of a line is that of its content, unless the line is too long.
use Prim.Native.Nat.{ℕ, ◌≤◌, ◌<◌}
use mathlib.Core.Path.{◌≡◌, refl}
use mathlib.Core.Bool.{Bool, true, false, cond, not, ◌&&◌, ◌||◌}
use mathlib.Core.List.{List, [], ◌∷◌}
use borrow.Author.Tests.{le-ltb, lt-ltb}
use lib.Dec.{eqb}
use lib.ListN.{length}
use Rattle.lists.specs.Tests.{first_from}
use Rattle.outcome.specs.Number as number
use Rattle.record.specs.declared.Record.{Record}
use Rattle.statement.specs.Line.{LineResult, all_fit, content, fits_fields, found_in, is_empty, is_line, is_statement, line_fault, line_records, line_result, most_bytes, refused, result_of, statement_record, statement_result, word}

pub long_line : (line : List ℕ) → most_bytes < length line → refused number.line_too_long ≡ line_result line
unfolding line_result line_fault
long_line line h = rw (lt-ltb most_bytes (length line) h)

-- the result of a line that is not too long, by its three tests
abbrev result : (in_grammar : Bool) (records : List Record) → LineResult
result g rs =
    cond (eqb (first_from number.line_too_long (false ∷ not g ∷ not (all_fit rs) ∷ [])) 0) (found_in rs)
    (refused (first_from number.line_too_long (false ∷ not g ∷ not (all_fit rs) ∷ [])))

pub short_line : (line : List ℕ) → length line ≤ most_bytes → statement_result (content line) ≡ line_result line
unfolding line_result line_fault is_line line_records statement_result result_of
short_line line h =
    rw (le-ltb most_bytes (length line) h)
    (pick (is_empty (word (content line))) (is_statement (content line)) (statement_record (content line)))
  where
    fitting : (f : Bool) (r : Record)
        → cond f (found_in (r ∷ [])) (refused number.number_too_big)
        ≡ cond (eqb (first_from number.line_too_long (false ∷ false ∷ not (f && true) ∷ [])) 0) (found_in (r ∷ []))
        (refused (first_from number.line_too_long (false ∷ false ∷ not (f && true) ∷ [])))
    fitting true r = refl
    fitting false r = refl

    pick : (e s : Bool) (r : Record)
        → cond e (refused 0) (cond s (cond (fits_fields r) (found_in (r ∷ [])) (refused number.number_too_big)) (refused number.not_in_grammar))
        ≡ result (e || s) (cond e [] (r ∷ []))
    pick true s r = refl
    pick false true r = fitting (fits_fields r) r
    pick false false r = refl
