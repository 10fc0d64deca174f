-- `put_records` puts the output into the front of the buffer: `assembler::assemble` writes the records there, 12 bytes each (Output.antt).
use Rattle.std.proofs.Common.{ap, arith}
use Rattle.std.proofs.lemmas.Result.{err_from_is_err_and}
use Rattle.assembler.specs.Assemble.{AssembleResult}
use Rattle.assemble.proofs.Output.{answered, fits}
use Rattle.assemble.proofs.put_records.Goals as goal

pub returns-in_err-assemble : goal.returns-in_err-assemble
returns-in_err-assemble c =
    let p = err_from_is_err_and c.from_residual.result c.from_residual.ensures.1 in
    let e = c.in_err-assemble.ensures in
    rw (p.1, p.2) (answered c.args.text.now c.args.records.now _ _ e.1 c.assemble.auto.records e.0)

pub overflow_mul-result : goal.overflow_mul-result
overflow_mul-result c =
    let n = ap (λ (r : AssembleResult). r.records) c.in_ok-assemble.ensures.0 in
    let f = fits c.args.text.now c.args.records.now in
    omega (arith, n, f)

pub returns : goal.returns
returns c =
    let e = c.in_ok-assemble.ensures in
    answered c.args.text.now c.args.records.now _ _ e.1 c.assemble.auto.records e.0
