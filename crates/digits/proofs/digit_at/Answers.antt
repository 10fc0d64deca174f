-- After the end of the line there is no digit.
use Rattle.std.proofs.Common.{◌∙◌}
use Rattle.std.proofs.Math.ListN.{get_or-eq_default}
use Rattle.digits.specs.Read.{digit_of}
use Rattle.digits.proofs.digit_at.Goals as goal

pub returns-in_err-get-clause-value : goal.returns-in_err-get-clause-value
unfolding digit_of
returns-in_err-get-clause-value c =
    c.from_residual.ensures ∙ rw (get_or-eq_default c.args.line.now 0 c.in_err-get.ensures.lookup.3)
