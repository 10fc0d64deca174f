-- `run` leaves what `saved_run` says: bytes that hold no device or no sequencer are refused, and so is a run from those that they hold, or it ends.
use Rattle.runnelopal.proofs.SavedCalls.{no_device, no_sequencer, run_ended, run_refused}
use Rattle.runnelopal.proofs.runs.run.Goals as goal

pub returns-in_default : goal.returns-in_default
returns-in_default c =
    let e = c.args in
    rw c.from.ensures
    (no_device e.image.now e.device.now e.sequencer.now e.events.now e.budget e.log.now _ c.unheld_refusal.ensures c.in_default.ensures.err)

pub returns-in_default-load : goal.returns-in_default-load
returns-in_default-load c =
    let e = c.args in
    rw c.from-in_default-load.ensures
    (no_sequencer e.image.now e.device.now e.sequencer.now e.events.now e.budget e.log.now _ c.unheld_refusal-in_default-load.ensures c.in-Ok.ensures.ok.0 c.in_default-load.ensures.err)

pub returns-in-Ok-run : goal.returns-in-Ok-run
returns-in-Ok-run c =
    let e = c.args in
    let d = c.in-Ok.ensures.ok in
    let s = c.in-Ok-load.ensures.ok in
    rw (c.ended.ensures, c.save.ensures.bytes, c.save-in-Ok-run.ensures.bytes)
    (run_ended e.image.now e.device.now e.sequencer.now e.events.now e.budget e.log.now _ _ d.0 s.0 d.1 s.1 c.in-Ok-run.r c.in-Ok-run.ensures.value)

pub returns-in-Err : goal.returns-in-Err
returns-in-Err c =
    let e = c.args in
    let d = c.in-Ok.ensures.ok in
    let s = c.in-Ok-load.ensures.ok in
    rw c.from-in-Err.ensures
    (run_refused e.image.now e.device.now e.sequencer.now e.events.now e.budget e.log.now _ _ d.0 s.0 d.1 s.1 c.in-Err.refused c.in-Err.ensures.value c.in-Err.ensures.refused)
