-- `run_script` answers what `trace_summary` and `trace_log` say (Running.antt).
use Rattle.std.proofs.Common.{sym, length-take-le, Ok, Err}
use Rattle.std.proofs.lemmas.Result.{err_from_is_err_and}
use Rattle.correct.proofs.WholeRun.{counted_words_fit}
use Rattle.trace.proofs.Printing.{printed_lem}
use Rattle.trace.proofs.Running.{ran, refused}
use Rattle.trace_text.specs.declared.RunSummary.{RunSummary}
use Rattle.trace.proofs.run_script.Goals as goal

pub returns-in-Err-clause-summary : goal.returns-in-Err-clause-summary
returns-in-Err-clause-summary c = (refused c.args.script.now c.args.image.now c.args.log.now c.in-Err.refused c.in-Err.ensures.0).0

pub returns-in-Err-clause-log : goal.returns-in-Err-clause-log
returns-in-Err-clause-log c = (refused c.args.script.now c.args.image.now c.args.log.now c.in-Err.refused c.in-Err.ensures.0).1

pub returns-in-Err-clause-printed : goal.returns-in-Err-clause-printed
returns-in-Err-clause-printed c =
    printed_lem c.args.script.now c.args.image.now c.args.log.now _ (Err c.in-Err.refused) (returns-in-Err-clause-summary c)

pub slice_bounds-run-end : goal.slice_bounds-run-end
slice_bounds-run-end c =
    counted_words_fit c.args.script.now c.args.image.now _ c.in-Ok.words c.in-Ok.ensures.0 c.compile.auto.image

pub slice_bounds-run-end-2 : goal.slice_bounds-run-end-2
slice_bounds-run-end-2 c =
    sym (length-take-le _ _ (counted_words_fit c.args.script.now c.args.image.now _ c.in-Ok.words c.in-Ok.ensures.0 c.compile.auto.image))

pub returns-in_err-run-clause-summary : goal.returns-in_err-run-clause-summary
returns-in_err-run-clause-summary c =
    let p = err_from_is_err_and c.from_residual.result c.from_residual.ensures.1 in
    rw (p.1, p.2)
    (ran c.args.script.now c.args.image.now c.args.log.now c.in-Ok.words c.in-Ok.ensures.0 _ _ _ _ _ c.compile.ensures.1 c.fresh.ensures c.fresh-2.ensures c.in_err-run.ensures.value.0 c.run.ensures.value.1).0

pub returns-in_err-run-clause-log : goal.returns-in_err-run-clause-log
returns-in_err-run-clause-log c =
    (ran c.args.script.now c.args.image.now c.args.log.now c.in-Ok.words c.in-Ok.ensures.0 _ _ _ _ _ c.compile.ensures.1 c.fresh.ensures c.fresh-2.ensures c.run.ensures.value.0 c.run.ensures.value.1).1

pub returns-in_err-run-clause-printed : goal.returns-in_err-run-clause-printed
returns-in_err-run-clause-printed c =
    printed_lem c.args.script.now c.args.image.now c.args.log.now _ c.from_residual.result (returns-in_err-run-clause-summary c)

pub returns-clause-summary : goal.returns-clause-summary
returns-clause-summary c =
    (ran c.args.script.now c.args.image.now c.args.log.now c.in-Ok.words c.in-Ok.ensures.0 _ _ _ _ _ c.compile.ensures.1 c.fresh.ensures c.fresh-2.ensures c.in_ok-run.ensures.value.0 c.run.ensures.value.1).0

pub returns-clause-log : goal.returns-clause-log
returns-clause-log c =
    (ran c.args.script.now c.args.image.now c.args.log.now c.in-Ok.words c.in-Ok.ensures.0 _ _ _ _ _ c.compile.ensures.1 c.fresh.ensures c.fresh-2.ensures c.run.ensures.value.0 c.run.ensures.value.1).1

pub returns-clause-printed : goal.returns-clause-printed
returns-clause-printed c =
    let r = c.in_ok-run.run' in
    let summary : RunSummary = record { ending = r.ending; steps = r.steps; logged = r.logged } in
    printed_lem c.args.script.now c.args.image.now c.args.log.now _ (Ok summary) (returns-clause-summary c)
