-- `read_operands` reads the numbers one after the other. At each turn, those that were read and those that are left are all numbers of the text.
use Rattle.std.proofs.Common.{◌∙◌, ap}
use Rattle.std.specs.Prelude.{is_some}
use Rattle.statement.proofs.Operands.{all_read, at_start, no_more, more_left, one_more}
use Rattle.statement.proofs.Reading.{no_number, no_word_left, number_is, word_left}
use Rattle.statement.proofs.read_operands.Goals as goal

pub loop-k-init : goal.loop-k-init
loop-k-init c = at_start c.args.count c.args.s.now

pub returns-in_err-values : goal.returns-in_err-values
returns-in_err-values c =
    let l = c.loop-k in
    let none = no_number _ (rw c.split_word.ensures.word at c.in_err-values.ensures) in
    c.from_residual.ensures ∙ no_more c.args.count c.args.s.now l.k l.values l.rest.now l.invariant c.loop-k-test.true none

pub loop-k-preserved : goal.loop-k-preserved
loop-k-preserved c =
    let l = c.loop-k in
    let n = number_is _ _ (rw c.split_word.ensures.word at c.in_ok-values.ensures) in
    rw c.split_word.ensures.rest
    (one_more c.args.count c.args.s.now l.k l.values l.rest.now l.invariant c.loop-k-test.true c.in_ok-values.field-0 c.requires n.0 n.1)

pub returns-then-is_some : goal.returns-then-is_some
returns-then-is_some c =
    let l = c.loop-k in
    more_left c.args.count c.args.s.now l.k l.values l.rest.now l.invariant c.loop-k-test.false
    (word_left l.rest.now c.is_some.result (c.is_some.ensures ∙ ap is_some c.first_not_blank.ensures) c.if-is_some.true)

pub returns : goal.returns
returns c =
    let l = c.loop-k in
    all_read c.args.count c.args.s.now l.k l.values l.rest.now l.invariant c.loop-k-test.false
    (no_word_left l.rest.now c.is_some.result (c.is_some.ensures ∙ ap is_some c.first_not_blank.ensures) c.if-is_some.false)
