-- `read` returns the result of the line: 30 if it is too long, otherwise that of its content.
use mathlib.Core.Path.{ap, sym, ◌∙◌}
use native.Mathlib.Omega.{arith}
use lib.Seq.{length-take-le}
use Rattle.statement.specs.Line.{statement_result}
use Rattle.statement.proofs.LineResults.{long_line, short_line}
use Rattle.statement.proofs.Reading.{content_inside, content_is}
use Rattle.statement.proofs.read.Goals as goal

pub returns-then-line-gt-MOST_BYTES : goal.returns-then-line-gt-MOST_BYTES
returns-then-line-gt-MOST_BYTES c = long_line c.args.line.now c.if-line-gt-MOST_BYTES.true

pub slice_bounds-read_statement-end : goal.slice_bounds-read_statement-end
slice_bounds-read_statement-end c =
    let line = c.args.line.now in
    let inside = content_inside line in
    sym (length-take-le _ line (omega (arith, inside, c.content_length-end.ensures)))

pub returns : goal.returns
returns c =
    let line = c.args.line.now in
    c.read_statement.ensures
    ∙ ap statement_result (content_is line _ c.content_length-end.ensures)
    ∙ short_line line c.if-line-gt-MOST_BYTES.false
