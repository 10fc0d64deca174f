-- `run` returns `run_answer` and leaves `log_after` in the log: one case for a refusal and one for the run (Answers.antt).
use Rattle.std.proofs.Common.{ap, sym}
use Rattle.std.proofs.lemmas.Result.{err_from_is_err_and}
use Rattle.outcome.specs.Refusal.{Refusal}
use Rattle.sequencer.proofs.Answers.{allowed, done, few_words_lem, refused_by_code}
use Rattle.sequencer.proofs.run.Goals as goal

pub returns-in_err-run_refusal-clause-value : goal.returns-in_err-run_refusal-clause-value
returns-in_err-run_refusal-clause-value c =
    let e = c.args in
    let p = err_from_is_err_and c.from_residual.result c.from_residual.ensures.1 in
    rw (p.1, p.2)
    (refused_by_code e.image.now e.device e.sequencer e.events.now e.budget e.log.now c.in_err-run_refusal.field-0.0 c.in_err-run_refusal.ensures)

pub run_words-requires : goal.run_words-requires
run_words-requires c =
    let e = c.args in
    let a = allowed e.image.now e.device e.sequencer e.events.now (ap (λ (x : Refusal). x.number) (sym c.in_ok-run_refusal.ensures)) in
    (few_words_lem e.image.now a.image_good, a.sequencer_good)

pub returns-clause-value : goal.returns-clause-value
returns-clause-value c =
    let e = c.args in
    done e.image.now e.device e.sequencer e.events.now e.budget e.log.now _ _ (ap (λ (x : Refusal). x.number) (sym c.in_ok-run_refusal.ensures)) c.run_words.ensures
