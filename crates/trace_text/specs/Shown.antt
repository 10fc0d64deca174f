-- The text that is put for a run or for why it is refused, and the numbers of both. It is what Printed.antt says of these numbers (`shown_is_printed_lem`
-- in proofs/Lines.antt), unless a text is refused, for which no run is made.
use Rattle.std.specs.Prelude.{ℕ, List, ◌++◌, take, Result, Ok, Err}
use Rattle.outcome.specs.Refused.{ending_number, refusal_number}
use Rattle.outcome.specs.declared.Refused.{Refused}
use Rattle.refusal_text.specs.Refused.{refused_text}
use Rattle.trace_text.specs.Printed.{end_text, reads_text}
use Rattle.trace_text.specs.declared.RunSummary.{RunSummary}
use Rattle.trace_text.specs.declared.Summary.{Summary}

abbrev pub summary_of : Result RunSummary Refused → Summary
summary_of (Ok r) = record { outcome = ending_number r.ending; place = 0; steps = r.steps; logged = r.logged }
summary_of (Err f) = record { outcome = refusal_number f.kind; place = f.place; steps = 0; logged = 0 }

abbrev pub shown : Result RunSummary Refused → List ℕ → List ℕ
shown (Ok r) log = reads_text (take r.logged log) ++ end_text (ending_number r.ending) r.steps
shown (Err f) log = refused_text (refusal_number f.kind) f.place
