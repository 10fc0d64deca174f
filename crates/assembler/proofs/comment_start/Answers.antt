-- The first byte that is looked for, from `at` on.
use Rattle.std.proofs.Common.{◌-◌, drop, length, take}
use Rattle.statement.proofs.Reading.{whole_part}
use Rattle.assembler.proofs.Ends.{comment_run}
use Rattle.assembler.proofs.comment_start.Goals as goal

pub returns : goal.returns
returns c =
    let text = c.args.text.now in
    let at = c.args.at in
    rw (c.unwrap_or.ensures, c.first_comment.ensures, comment_run (take (length text - at) (drop at text)), whole_part text at)
