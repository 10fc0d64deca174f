-- `compile` returns `compile_result` and leaves `image_after` in the buffer. The three cases are a refusal by the scan, a
-- buffer that is too short, and success (Compiling.antt).
use Rattle.std.proofs.Common.{[], arith, refl, sym}
use Rattle.std.proofs.lemmas.Result.{err_from_is_err_and}
use Rattle.outcome.proofs.Numbers.{refusal_number_above}
use Rattle.script.proofs.Records.{counts}
use Rattle.compiler.proofs.Compiling.{accepted_by, done, fit, refused, unfit}
use Rattle.compiler.proofs.compile.Goals as goal

pub returns-in_err-words : goal.returns-in_err-words
returns-in_err-words c =
    let p = err_from_is_err_and c.from_residual.result c.from_residual.ensures.1 in
    rw (p.1, p.2) (refused _ _ _ c.in_err-words.ensures (refusal_number_above _))

pub overflow_cast-result : goal.overflow_cast-result
overflow_cast-result c = let n = (counts c.args.script.now _ refl (accepted_by _ [] _ c.in_ok-words.ensures refl)).few in omega arith

pub returns-then-too_short : goal.returns-then-too_short
returns-then-too_short c = unfit _ _ _ c.in_ok-words.ensures refl (sym c.if-too_short.ensures)

pub emit-requires-clause-accepted : goal.emit-requires-clause-accepted
emit-requires-clause-accepted c = accepted_by _ [] _ c.in_ok-words.ensures refl

pub emit-requires-clause-room : goal.emit-requires-clause-room
emit-requires-clause-room c = fit _ c.args.image.now _ c.in_ok-words.ensures refl (sym c.if-too_short.ensures)

pub returns : goal.returns
returns c = done _ _ _ c.in_ok-words.ensures _ refl (sym c.if-too_short.ensures) c.emit.ensures
