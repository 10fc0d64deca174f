-- `compile_and_run` is safe and ends: the words that the compiler counts lie within the image buffer.
use Rattle.std.proofs.Common.{sym, length-take-le}
use Rattle.correct.proofs.WholeRun.{counted_words_fit}
use Rattle.replay.proofs.session.Session.compile_and_run.Goals as goal

pub slice_bounds-image-end : goal.slice_bounds-image-end
slice_bounds-image-end c = counted_words_fit c.args.run.bytes.now _ _ c.in-Ok.words c.in-Ok.ensures.0 c.compile.auto.image

pub slice_bounds-run_image-end : goal.slice_bounds-run_image-end
slice_bounds-run_image-end c =
    sym (length-take-le _ _ (counted_words_fit c.args.run.bytes.now _ _ c.in-Ok.words c.in-Ok.ensures.0 c.compile.auto.image))
