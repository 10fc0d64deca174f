-- The proof of the top theorem. The run comes from `whole_run`, the nested form of the records from `reading_flat` and `one_body`, and
-- the refusals from `refuses_not` and `accepts_all`.
use mathlib.Core.Path.{ap}
use lib.ListN.{length}
use Rattle.compiler.proofs.Compiling.{accepts_all, refuses_not}
use Rattle.compiler.proofs.Refused.{refused_exactly_lem}
use Rattle.script.proofs.Flat.{accepts, reading_flat}
use Rattle.script.proofs.Grammar.{legal_accepted, legal_script}
use Rattle.script.proofs.OneBody.{one_body}
use Rattle.script.specs.Nested.{script_body}
use Rattle.script.specs.Records.{records_of}
use Rattle.semantics.proofs.Events.{one_event_each}
use Rattle.semantics.specs.OwnRun.{script_run}
use Rattle.sequencer.specs.Run.{RunEnd, log_after, run_answer}
use Rattle.correct.specs.CompilerCorrect.{CompilerCorrect}
use Rattle.correct.proofs.Fills.{events_left_lem, front, rest}
use Rattle.correct.proofs.WholeRun.{none_refused, whole_run, words_counted, written_are}

pub compiler_correct : CompilerCorrect
unfolding run_answer log_after script_body
compiler_correct = record {
  same_run = λ script buffer d events budget log bytes accepted in_range good room steps.
      let image = written_are script buffer accepted in
      let e = rw (← image) at (whole_run script d events budget (length log) bytes (refuses_not script buffer accepted).0 room steps) in
      let n = none_refused script buffer d events accepted in_range good in
      let own = script_run script d events in
      record {
        halted = rw (n, e);
        on_last_word = rw (n, e, words_counted script buffer accepted);
        no_counter_in_use = rw (n, e);
        same_accesses = ap (λ (x : RunEnd). x.machine.world.accesses) e;
        same_entries = rw (n, e) (front own.world.logged log);
        rest_as_lent = rw (n, e) (rest own.world.logged log);
        same_logged = rw (n, e);
        same_device = rw (n, e);
        same_events_left = rw (n, e) (events_left_lem events own.world.events (length own.world.accesses) (one_event_each script d events));
        same_taken = rw (n, e);
        same_steps = rw (n, e);
      };
  same_records = λ script h. reading_flat (records_of script) (accepts script h).faultless;
  one_reading = one_body;
  accepted_exactly = λ script buffer. (
    λ h.
        let r = refuses_not script buffer h in
        let g = legal_script script r.0 in
        record { legal = g; room = rw (legal_accepted script g).words at r.1 },
    λ a.
        let l = legal_accepted script a.legal in
        accepts_all script buffer l.accepted (rw l.words a.room),
  );
  refused_exactly = λ script buffer place. refused_exactly_lem script buffer place;
}
