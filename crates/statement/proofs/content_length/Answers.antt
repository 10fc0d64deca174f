-- `content_length` returns the start of the comment, which a carriage return at the end of the line follows, or the end of the line.
use mathlib.Core.Path.{◌∙◌}
use Rattle.statement.proofs.Reading.{comment_inside, no_comment}
use Rattle.statement.proofs.content_length.Goals as goal

pub returns-then-comment-line : goal.returns-then-comment-line
returns-then-comment-line c = comment_inside c.args.line.now c.args.comment c.requires c.if-comment-line.true

pub returns : goal.returns
returns c = c.before_return.ensures ∙ no_comment c.args.line.now c.args.comment c.requires c.if-comment-line.false
