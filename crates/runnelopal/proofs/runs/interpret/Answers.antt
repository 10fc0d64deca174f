-- `interpret` leaves what `saved_interpret` says: bytes that hold no device are refused, and so is a script on the device that they hold, or it ends.
use Rattle.runnelopal.proofs.SavedCalls.{interpret_ended, interpret_refused, no_device_for_script}
use Rattle.runnelopal.proofs.runs.interpret.Goals as goal

pub returns-in_default : goal.returns-in_default
returns-in_default c =
    let e = c.args in
    rw c.from.ensures
    (no_device_for_script e.script.now e.device.now e.events.now e.budget e.log.now _ c.unheld_script_refusal.ensures c.in_default.ensures.err)

pub returns-in-Ok-interpret : goal.returns-in-Ok-interpret
returns-in-Ok-interpret c =
    let e = c.args in
    let d = c.in-Ok.ensures.ok in
    rw (c.ended.ensures, c.save.ensures.bytes)
    (interpret_ended e.script.now e.device.now e.events.now e.budget e.log.now _ d.0 d.1 c.in-Ok-interpret.r c.in-Ok-interpret.ensures.value)

pub returns-in-Err : goal.returns-in-Err
returns-in-Err c =
    let e = c.args in
    let d = c.in-Ok.ensures.ok in
    rw c.from-in-Err.ensures
    (interpret_refused e.script.now e.device.now e.events.now e.budget e.log.now _ d.0 d.1 c.in-Err.refused c.in-Err.ensures.value c.in-Err.ensures.refused)
