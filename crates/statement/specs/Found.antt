-- What the code returns, in the words of Line.antt: an `Option` or a `Result` where Line.antt has a record of numbers.
use Rattle.std.specs.Prelude.{ℕ, cond, map, Option, Some, None, Result, Ok, Err, List, [], ◌∷◌}
use Rattle.std.proofs.Common.{get_or}
use Rattle.outcome.specs.Refused.{refusal_number}
use Rattle.outcome.specs.declared.RefusalKind.{RefusalKind}
use Rattle.record.specs.declared.Record.{Record}
use Rattle.script.specs.Kinds.{kind_number}
use Rattle.script.specs.declared.kind.RecordKind.{RecordKind}
use Rattle.statement.specs.Line.{LineResult, Number, are_operands, capped, found_in, operands, refused}

-- the kind of a keyword, or 0
abbrev pub kind_found : Option RecordKind → ℕ
kind_found None = 0
kind_found (Some k) = kind_number k

abbrev pub number_found : Number → Option ℕ
number_found n = cond n.ok (Some n.value) None

-- three numbers: those of the text, and 0 for each that is not wanted
abbrev pub three : List ℕ → List ℕ
three vs = get_or vs 0 0 ∷ get_or vs 1 0 ∷ get_or vs 2 0 ∷ []

abbrev pub operands_found : ℕ → List ℕ → Option (List ℕ)
operands_found n s = cond (are_operands n s) (Some (three (map capped (operands n s)))) None

abbrev pub record_read : Result Record RefusalKind → LineResult
record_read (Ok r) = found_in (r ∷ [])
record_read (Err k) = refused (refusal_number k)

abbrev pub line_read : Result (Option Record) RefusalKind → LineResult
line_read (Ok None) = refused 0
line_read (Ok (Some r)) = found_in (r ∷ [])
line_read (Err k) = refused (refusal_number k)
