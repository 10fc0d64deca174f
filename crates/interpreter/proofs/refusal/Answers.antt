-- `refusal` is `interpret_refusal`: the script is checked first, then the device, then the events (Refusing.antt).
use Rattle.std.proofs.Common.{refl, sym, ◌∙◌}
use Rattle.std.proofs.lemmas.Result.{err_from_is_err_and}
use Rattle.outcome.proofs.Numbers.{refusal_number_above}
use Rattle.interpreter.proofs.Refusing.{by_device, by_events, by_script}
use Rattle.interpreter.proofs.refusal.Goals as goal

pub returns-in_err-scan : goal.returns-in_err-scan
returns-in_err-scan c =
    let p = err_from_is_err_and c.from_residual.result c.from_residual.ensures.1 in
    rw (p.1, p.2) (by_script _ _ _ _ c.in_err-scan.ensures (refusal_number_above c.in_err-scan.field-0.0.kind))

pub returns-then-not-in_range : goal.returns-then-not-in_range
returns-then-not-in_range c =
    by_device _ _ _ _ c.in_ok-scan.ensures refl (sym c.in_range.ensures ∙ c.if-not-in_range.true)

pub returns : goal.returns
returns c =
    c.events_refusal.ensures ∙ by_events _ _ _ _ c.in_ok-scan.ensures refl (sym c.in_range.ensures ∙ c.if-not-in_range.false)
