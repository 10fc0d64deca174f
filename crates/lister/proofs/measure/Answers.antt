-- `measure` returns `measured`. Each turn of the loop adds the length of a line (`Measuring`), and stops at the first wrong record.
use Rattle.std.proofs.Common.{◌≡◌, arith, rules, sym, ◌∙◌}
use Rattle.std.proofs.lemmas.Result.{err_from_is_err_and}
use Rattle.outcome.proofs.MapErr.{mapped_err, mapped_ok}
use Rattle.outcome.proofs.Numbers.{refusal_number_above}
use Rattle.lister.proofs.Lines.{measured_all, measured_more, measuring, room, wrong_length_lem, wrong_record_lem}
use Rattle.lister.proofs.measure.Goals as goal

pub returns-then-bad_length : goal.returns-then-bad_length
returns-then-bad_length c = wrong_length_lem _ (sym c.if-bad_length.ensures)

pub loop-k-init : goal.loop-k-init
loop-k-init c = measuring _ (sym c.if-bad_length.ensures)

pub overflow_add-length : goal.overflow_add-length
overflow_add-length c = let most = room c.loop-k.invariant _ _ c.line_length-length.ensures in omega (arith, most)

pub returns-in_err-s : goal.returns-in_err-s
returns-in_err-s c =
    let p = err_from_is_err_and c.from_residual.result c.from_residual.ensures.1 in
    let m = mapped_err c.new.result _ c.in_err-s.field-0.0 _ c.map_err.ensures.cases c.in_err-s.was in
    let made : c.in_err-s.field-0.0 ≡ record { kind = m.0; place = c.loop-k.k } = search rules in
    let fault = rw m.1 at c.new.ensures.fault in
    rw (p.1, p.2, made) (wrong_record_lem c.loop-k.invariant _ _ c.loop-k-test.true c.read-r.ensures fault (refusal_number_above _))

pub loop-k-preserved : goal.loop-k-preserved
loop-k-preserved c =
    let s = c.in_ok-s.s in
    let m = mapped_ok c.new.result _ s _ c.map_err.ensures.cases c.in_ok-s.was in
    let fields = rw m at c.new.ensures.fields in
    measured_more c.loop-k.invariant _ _ _ c.loop-k-test.true (fields ∙ c.read-r.ensures) s.faultless
    c.line_length-length.ensures (rw s.kind_of at c.depth_after-depth.ensures)

pub returns : goal.returns
returns c = measured_all c.loop-k.invariant c.loop-k-test.false
