-- `in_range` is `sequencer_in_range`: the chain tests each counter with its index.
use Rattle.std.proofs.Common.{◌≡◌, ◌∙◌, length, rules}
use Rattle.std.proofs.lemmas.Iterator.{YieldsList-from_slice}
use Rattle.std.proofs.lemmas.Iterator.Consumers.{YieldsList-from_enumerate}
use Rattle.std.proofs.lemmas.Iterator.Search.{all_from_yields_List}
use borrow.Author.Tests.{tests, le-leb}
use Rattle.step.specs.Sequencer.{counter_in_range, sequencer_in_range}
use Rattle.step.proofs.Enumerated.{all_enumerated}
use Rattle.step.proofs.Sequencer.in_range.Goals as goal

pub returns-then-self-le-COUNTERS : goal.returns-then-self-le-COUNTERS
unfolding sequencer_in_range
returns-then-self-le-COUNTERS c =
    let s = c.args.self in
    let l : length s.counters ≡ 8 = search rules in
    let all = all_from_yields_List (λ p. counter_in_range s.used p.0 p.1) _ _ c.all.result c.all.ensures.ran (YieldsList-from_enumerate (YieldsList-from_slice s.counters cc) cc) (λ x b q k. search (rules, tests)) in
    rw (le-leb _ _ c.if-self-le-COUNTERS.true) (all ∙ all_enumerated (counter_in_range s.used) s.counters 8 l)
