-- The first byte that is looked for, from `at` on.
use Rattle.std.proofs.Common.{◌-◌, drop, length, take}
use Rattle.statement.proofs.Reading.{whole_part}
use Rattle.assembler.proofs.Ends.{feed_run}
use Rattle.assembler.proofs.line_end.Goals as goal

pub returns : goal.returns
returns c =
    let text = c.args.text.now in
    let at = c.args.at in
    rw (c.unwrap_or.ensures, c.first_line_feed.ensures, feed_run (take (length text - at) (drop at text)), whole_part text at)
