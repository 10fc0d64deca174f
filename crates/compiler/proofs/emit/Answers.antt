-- `emit` writes the words of the script to the front of the image.
use Rattle.std.proofs.Common.{arith, refl, sym}
use Rattle.compiler.proofs.Emitting.{begins, completes, goes_on, has_room, passes}
use Rattle.compiler.proofs.Targets.{kind_known}
use Rattle.compiler.proofs.emit.Goals as goal
use Rattle.compiler.proofs.emit.Goals.{else-emits_word, then-emits_word}

pub loop-k-init : goal.loop-k-init
loop-k-init c = begins _ _ _ _ refl c.requires.accepted c.requires.room c.fill_targets.ensures

pub bounds-targets-k : goal.bounds-targets-k
bounds-targets-k c = let few = c.loop-k.invariant.counted.few in omega arith

pub kind_of-kind-requires : goal.kind_of-kind-requires
kind_of-kind-requires c = rw c.read-r.ensures (kind_known _ _ c.requires.accepted c.loop-k-test.true)

pub put-requires : goal.put-requires
put-requires c = has_room c.loop-k.invariant

pub overflow_add-place : goal.overflow_add-place
overflow_add-place c = let room = has_room c.loop-k.invariant in omega arith

pub loop-k-preserved : goal.loop-k-preserved
loop-k-preserved c =
    let g = c.loop-k.invariant in
    let t = c.loop-k-test.true in
    elim c.if-emits_word.branch [
      | then-emits_word w ↦
          rw (w.image-is, w.place-is)
          (goes_on g t c.read-r.ensures c.kind_of-kind.ensures (sym w.if-emits_word.ensures) (rw w.word_kind.ensures at w.word.ensures)
          w.put.ensures w.put.auto.image)
      | else-emits_word w ↦
          rw (w.image-is, w.place-is) (passes g t c.read-r.ensures c.kind_of-kind.ensures (sym w.if-emits_word.ensures))
    ]

pub put-requires-2 : goal.put-requires-2
put-requires-2 c = has_room c.loop-k.invariant

pub returns : goal.returns
returns c = completes c.loop-k.invariant c.loop-k-test.false (rw c.word-2.ensures at c.put-2.ensures)
