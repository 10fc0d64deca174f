-- `unheld_script_refusal` refuses with the refusal of the script, or with 11.
use Rattle.runnelopal.proofs.SavedCalls.{script_first, then_device}
use Rattle.runnelopal.proofs.runs.unheld_script_refusal.Goals as goal

pub returns-in-Ok : goal.returns-in-Ok
returns-in-Ok c = then_device _ _ c.in-Ok.ensures

pub returns-in-Err : goal.returns-in-Err
returns-in-Err c = script_first _ _ c.in-Err.ensures
