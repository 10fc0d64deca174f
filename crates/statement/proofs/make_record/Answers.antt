-- `make_record` makes the record if its numbers fit their fields, and the test of the fields passes.
use mathlib.Core.Path.{sym, ◌∙◌}
use mathlib.Core.Bool.{false≢true}
use mathlib.Core.Logic.{⊎_elim}
use native.Mathlib.Omega.{arith}
use Rattle.script.specs.Kinds.{kind_number}
use Rattle.script.specs.Nested.{script_record}
use Rattle.statement.proofs.Fields.{does_fit, does_not_fit, fits_good, fits_small, good_needed}
use Rattle.statement.proofs.make_record.Goals as goal

pub returns-then-width-ge-TOO_BIG : goal.returns-then-width-ge-TOO_BIG
returns-then-width-ge-TOO_BIG c =
    let a = c.args in
    let k = kind_number a.kind in
    does_not_fit (script_record k a.width a.port a.value) (λ h.
    let s = fits_small k a.width a.port a.value h in
    ⊎_elim (λ w. omega (arith, s.width, w))
    (λ o. ⊎_elim (λ w. omega (arith, s.port, w.1)) (λ w. omega (arith, s.value, w.2)) o)
    c.then-width-ge-TOO_BIG.either)

pub returns-then-not-good_fields : goal.returns-then-not-good_fields
returns-then-not-good_fields c =
    let a = c.args in
    let r = script_record (kind_number a.kind) a.width a.port a.value in
    let good = rw c.number.ensures at c.good_fields.ensures in
    does_not_fit r (λ h. false≢true (sym c.if-not-good_fields.true ∙ good ∙ good_needed r h))

pub returns : goal.returns
returns c =
    let a = c.args in
    let r = script_record (kind_number a.kind) a.width a.port a.value in
    let good = rw c.number.ensures at c.good_fields.ensures in
    rw c.number.ensures (does_fit r (sym (fits_good r (omega arith)) ∙ sym good ∙ c.if-not-good_fields.false))
