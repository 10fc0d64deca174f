-- `interpret` answers a refusal, or walks through the script (Refusing.antt).
use Rattle.std.proofs.lemmas.Result.{err_from_is_err_and}
use Rattle.interpreter.proofs.Refusing.{refused_by_code}
use Rattle.interpreter.proofs.interpret.Goals as goal

pub returns-in_err-check-clause-value : goal.returns-in_err-check-clause-value
returns-in_err-check-clause-value c =
    let e = c.args in
    let p = err_from_is_err_and c.from_residual.result c.from_residual.ensures.1 in
    rw (p.1, p.2) (refused_by_code e.script.now e.device e.events.now e.budget e.log.now c.in_err-check.field-0.0 c.in_err-check.ensures)
