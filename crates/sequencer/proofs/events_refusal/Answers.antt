-- `events_refusal` is `events_refusal`: the chain finds the first bad event (FirstBad.antt).
use Rattle.std.proofs.Common.{rules, not}
use Rattle.std.proofs.lemmas.Iterator.{YieldsList-from_slice}
use Rattle.std.proofs.lemmas.Iterator.Search.{position_from_yields_List}
use borrow.Author.Tests.{tests, le-ltb}
use Rattle.device.specs.Event.{is_event}
use Rattle.sequencer.proofs.FirstBad.{first_bad_found}
use Rattle.sequencer.specs.Run.{events_refusal}
use Rattle.sequencer.proofs.events_refusal.Goals as goal

pub returns-in-Some : goal.returns-in-Some
unfolding events_refusal
returns-in-Some c =
    let p = position_from_yields_List (λ e. not (is_event e)) _ _ c.position.result c.position.ensures.ran (YieldsList-from_slice c.args.events.now cc) (λ x b q k. search (rules, tests)) in
    rw (le-ltb _ _ c.if-events-gt-MOST_EVENTS.false, first_bad_found c.args.events.now, ← p, c.in-Some.is)

pub returns-in-None : goal.returns-in-None
unfolding events_refusal
returns-in-None c =
    let p = position_from_yields_List (λ e. not (is_event e)) _ _ c.position.result c.position.ensures.ran (YieldsList-from_slice c.args.events.now cc) (λ x b q k. search (rules, tests)) in
    rw (le-ltb _ _ c.if-events-gt-MOST_EVENTS.false, first_bad_found c.args.events.now, ← p, c.in-None.is)
