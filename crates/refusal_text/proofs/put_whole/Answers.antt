-- `put_whole` puts the whole line into the front of the buffer: `put_refusal` puts it, and the buffer has room for it (`whole` in Line.antt).
use Rattle.std.proofs.Common.{ap, ◌∙◌, arith}
use Rattle.digits.specs.Text.{puts}
use Rattle.digits.specs.Written.{written}
use Rattle.digits.proofs.Writes.{writes_written}
use Rattle.refusal_text.specs.Refused.{refused_text}
use Rattle.refusal_text.proofs.Line.{whole}
use Rattle.refusal_text.proofs.put_whole.Goals as goal

pub returns : goal.returns
returns c =
    let a = c.args in
    let text = refused_text a.number a.place in
    whole a.line.now _ _ a.number a.place (omega arith)
    (rw c.len.ensures (ap written c.put_refusal.ensures ∙ writes_written _ text ∙ ap (puts text) c.new-writer.ensures.empty))
