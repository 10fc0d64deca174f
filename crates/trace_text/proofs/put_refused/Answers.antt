-- `put_refused` puts the line of a refusal, for which the buffer has room (`refusal_length` in Lines.antt).
use Rattle.std.proofs.Common.{ap, ◌∙◌, arith}
use Rattle.digits.specs.Text.{Line, puts}
use Rattle.digits.specs.Written.{written}
use Rattle.digits.proofs.Writes.{writes_written}
use Rattle.outcome.specs.Refused.{refusal_number}
use Rattle.refusal_text.specs.Refused.{refused_text}
use Rattle.trace_text.proofs.Lines.{fits_counted, fits_front, refusal_length}
use Rattle.trace_text.proofs.put_refused.Goals as goal

pub returns-clause-line : goal.returns-clause-line
returns-clause-line c =
    let xs = refused_text (refusal_number c.args.refused.kind) c.args.refused.place in
    rw c.len.ensures
    (ap written (rw c.number.ensures at c.put_refusal.ensures) ∙ writes_written _ xs ∙ ap (puts xs) c.new-writer.ensures.empty)

pub returns-clause-counted : goal.returns-clause-counted
returns-clause-counted c =
    let n = refusal_number c.args.refused.kind in
    let place = c.args.refused.place in
    ap (λ (x : Line). x.at) (returns-clause-line c)
    ∙ fits_counted (refused_text n place) c.args.text.now (refusal_length n place) (omega (arith, c.told-text))

pub returns-clause-whole : goal.returns-clause-whole
returns-clause-whole c =
    let n = refusal_number c.args.refused.kind in
    let place = c.args.refused.place in
    fits_front (refused_text n place) c.args.text.now _ _ (refusal_length n place) (omega (arith, c.told-text)) (returns-clause-line c)
