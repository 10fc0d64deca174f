-- `fill` makes the table of the script: each record keeps the loop invariant `Filling`.
use Prim.Native.Nat.{◌-◌}
use mathlib.Core.Path.{refl, ◌∙◌}
use native.Mathlib.Omega.{arith}
use Rattle.script.proofs.Records.{few_records_lem}
use Rattle.script.proofs.Flat.{accepts}
use Rattle.interpreter.proofs.Filling.{adds, ends, room}
use Rattle.interpreter.proofs.Waiting.{kind_known}
use Rattle.interpreter.proofs.partners.fill.Goals as goal

pub overflow_cast-count : goal.overflow_cast-count
overflow_cast-count c = let few = few_records_lem c.args.script.now (accepts c.args.script.now c.requires.0).length_good in omega (arith, few)

pub kind_of-kind-requires : goal.kind_of-kind-requires
kind_of-kind-requires c =
    let l = c.loop-place.invariant.within in
    rw c.kind_at.ensures (kind_known c.args.script.now c.requires.0 (c.loop-place.place - 1) (omega (arith, l, c.loop-place-test.true)))

pub add_record-requires : goal.add_record-requires
add_record-requires c =
    let few = few_records_lem c.args.script.now (accepts c.args.script.now c.requires.0).length_good in (
      omega (arith, few, c.loop-place.invariant.within, c.loop-place-test.true),
      room _ c.loop-place.invariant c.requires.0 refl c.loop-place-test.true (c.kind_of-kind.ensures ∙ c.kind_at.ensures),
    )

pub loop-place-preserved : goal.loop-place-preserved
loop-place-preserved c =
    adds _ _ _ c.loop-place.invariant c.loop-place-test.true (c.kind_of-kind.ensures ∙ c.kind_at.ensures) c.add_record.ensures.added c.add_record.ensures.places

pub returns : goal.returns
returns c = ends c.loop-place.invariant refl c.loop-place-test.false
