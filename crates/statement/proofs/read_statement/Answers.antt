-- `read_statement` reads the keyword, then its numbers. Where it stops early, the text is not a statement, or a number does not fit.
use mathlib.Core.Path.{◌≡◌, ap, sym, ◌∙◌}
use Rattle.std.proofs.lemmas.Result.{err_from_is_err_and}
use Rattle.script.specs.Kinds.{kind_number}
use Rattle.statement.specs.Found.{kind_found, operands_found, three}
use Rattle.statement.specs.Line.{is_empty, kind_of, record_with, result_of, statement_result}
use Rattle.statement.proofs.Operands.{few, kind_some, no_operands, no_statement, not_in_grammar, statement, unknown, with_count, without_count}
use Rattle.statement.proofs.Reading.{empty_is}
use Rattle.statement.proofs.read_statement.Goals as goal
use Rattle.statement.proofs.read_statement.Goals.{In_ok-operands}

pub returns-then-is_empty : goal.returns-then-is_empty
returns-then-is_empty c =
    let w = c.split_word.result.0.now in
    no_statement c.args.s.now (sym (ap is_empty c.split_word.ensures.word) ∙ sym (empty_is w) ∙ sym c.is_empty.ensures ∙ c.if-is_empty.true)

pub returns-in_err-kind : goal.returns-in_err-kind
returns-in_err-kind c =
    let s = c.args.s.now in
    let w = c.split_word.result.0.now in
    let some = sym (ap is_empty c.split_word.ensures.word) ∙ sym (empty_is w) ∙ sym c.is_empty.ensures ∙ c.if-is_empty.false in
    let p = err_from_is_err_and c.from_residual.result c.from_residual.ensures.1 in
    let e = c.in_err-kind.ensures in
    let named = sym (ap kind_found e.ok_part) ∙ c.keyword.ensures ∙ ap kind_of c.split_word.ensures.word in
    rw (p.1, p.2) (not_in_grammar _ _ e.ok_part e.value ∙ unknown s some named)

pub read_operands-requires : goal.read_operands-requires
read_operands-requires c = few _ _ c.operand_count.ensures

pub returns-in_err-operands : goal.returns-in_err-operands
returns-in_err-operands c =
    let s = c.args.s.now in
    let w = c.split_word.result.0.now in
    let some = sym (ap is_empty c.split_word.ensures.word) ∙ sym (empty_is w) ∙ sym c.is_empty.ensures ∙ c.if-is_empty.false in
    let kind = c.in_ok-kind.kind in
    let named = sym (ap kind_found c.in_ok-kind.ensures.ok_part) ∙ c.keyword.ensures ∙ ap kind_of c.split_word.ensures.word in
    let p = err_from_is_err_and c.from_residual-in_err-operands.result c.from_residual-in_err-operands.ensures.1 in
    let e = c.in_err-operands.ensures in
    let none = sym e.ok_part ∙ c.read_operands.ensures ∙ ap (operands_found c.operand_count.result) c.split_word.ensures.rest in
    rw (p.1, p.2) (not_in_grammar _ _ e.ok_part e.value ∙ no_operands s some (kind_number kind) named (kind_some kind) _ c.operand_count.ensures none)

-- what the statement means, once its numbers are read
means : (c : In_ok-operands) → result_of (record_with (kind_number c.in_ok-kind.kind) (three c.in_ok-operands.operands)) ≡ statement_result c.args.s.now
means c =
    let s = c.args.s.now in
    let w = c.split_word.result.0.now in
    let some = sym (ap is_empty c.split_word.ensures.word) ∙ sym (empty_is w) ∙ sym c.is_empty.ensures ∙ c.if-is_empty.false in
    let kind = c.in_ok-kind.kind in
    let named = sym (ap kind_found c.in_ok-kind.ensures.ok_part) ∙ c.keyword.ensures ∙ ap kind_of c.split_word.ensures.word in
    let read = sym c.in_ok-operands.ensures.ok_part ∙ c.read_operands.ensures ∙ ap (operands_found c.operand_count.result) c.split_word.ensures.rest in
    statement s some (kind_number kind) named (kind_some kind) _ c.operand_count.ensures c.in_ok-operands.operands read

pub returns-in_err-make_record : goal.returns-in_err-make_record
returns-in_err-make_record c =
    let p = err_from_is_err_and c.from_residual-in_err-make_record.result c.from_residual-in_err-make_record.ensures.1 in
    rw (p.1, p.2)
    (c.in_err-make_record.ensures ∙ with_count _ _ _ _ (sym c.has_count.ensures ∙ c.if-has_count.true) ∙ means (goal.at.returns-in_err-make_record c).In_ok-operands)

pub returns-then-has_count : goal.returns-then-has_count
returns-then-has_count c =
    c.in_ok-make_record.ensures ∙ with_count _ _ _ _ (sym c.has_count.ensures ∙ c.if-has_count.true) ∙ means (goal.at.returns-then-has_count c).In_ok-operands

pub returns-in_err-make_record-2 : goal.returns-in_err-make_record-2
returns-in_err-make_record-2 c =
    let p = err_from_is_err_and c.from_residual-in_err-make_record-2.result c.from_residual-in_err-make_record-2.ensures.1 in
    rw (p.1, p.2)
    (c.in_err-make_record-2.ensures ∙ without_count _ _ _ _ (sym c.has_count.ensures ∙ c.if-has_count.false) ∙ means (goal.at.returns-in_err-make_record-2 c).In_ok-operands)

pub returns : goal.returns
returns c =
    c.in_ok-make_record-2.ensures ∙ without_count _ _ _ _ (sym c.has_count.ensures ∙ c.if-has_count.false) ∙ means (goal.at.returns c).In_ok-operands
