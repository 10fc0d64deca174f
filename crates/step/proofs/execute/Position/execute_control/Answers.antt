-- `execute_control` does what an enter, a loop end or a jump does (EachKind.antt).
use mathlib.Core.Path.{sym, ap, ◌∙◌}
use Rattle.record.specs.WordKinds.{word_kind_number}
use Rattle.step.specs.Represents.{run_state}
use Rattle.step.proofs.EachKind.{entered, jump_left, jumped, loop_ended}
use Rattle.step.proofs.execute.Position.execute_control.Goals as goal

pub returns-in-Enter : goal.returns-in-Enter
returns-in-Enter c =
    let r = c.requires in
    rw (c.enter.ensures.0, c.enter.ensures.1)
    (entered c.args.word c.args.self c.args.counters.now (sym r.kind_is ∙ ap word_kind_number c.in-Enter.is) (r.enters c.in-Enter.is))

pub returns-in-LoopEnd : goal.returns-in-LoopEnd
returns-in-LoopEnd c =
    let r = c.requires in
    rw (c.loop_end.ensures.0, c.loop_end.ensures.1)
    (loop_ended c.args.word c.args.self c.args.counters.now (sym r.kind_is ∙ ap word_kind_number c.in-LoopEnd.is) (r.loops c.in-LoopEnd.is))

pub returns-in_default : goal.returns-in_default
returns-in_default c = λ d.
    let r = c.requires in
    let k = jump_left c.args.kind r.control c.in_default.not-Enter c.in_default.not-LoopEnd in
    rw c.jump.ensures
    (jumped c.args.word (run_state d c.args.self c.args.counters.now) (sym r.kind_is ∙ ap word_kind_number k))
