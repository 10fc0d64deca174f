-- `run_script` answers a refusal by the compiler, or what a run of the words written answers.
use Rattle.std.proofs.Common.{◌≡◌, ℕ, ◌*◌, List, [], take, sym, ap, ◌∙◌, eq-eqb, ne_eqb, Ok, Err}
use Rattle.compiler.specs.Compile.{CompileResult, compile_result, compiled, image_after}
use Rattle.device.specs.Device.{fresh_device}
use Rattle.device.specs.declared.Device.{Device}
use Rattle.outcome.proofs.Numbers.{refusal_number_above}
use Rattle.outcome.specs.declared.Refused.{Refused}
use Rattle.sequencer.specs.Run.{RunResult, log_after, run_answer}
use Rattle.step.specs.Sequencer.{fresh_sequencer}
use Rattle.step.specs.declared.Sequencer.{Sequencer}
use Rattle.trace.specs.Trace.{budget, ran_summary, trace_log, trace_summary}
use Rattle.trace_text.specs.Shown.{summary_of}

module _ (script buffer log : List ℕ) where
  pub refused : (f : Refused) → compiled (Err f) ≡ compile_result script buffer
      → (summary_of (Err f) ≡ trace_summary script buffer log) × (log ≡ trace_log script buffer log)
  unfolding trace_summary trace_log
  refused f e =
      let n = ne_eqb _ _ (λ z. refusal_number_above f.kind (ap (λ (r : CompileResult). r.refusal) e ∙ z)) in
      (rw (n, ← e), rw n)

  module _ (words : ℕ) (e : compiled (Ok words) ≡ compile_result script buffer) where
    pub ran :
        (image after : List ℕ) (d : Device) (s : Sequencer) (r : RunResult) → image ≡ image_after script buffer → d ≡ fresh_device
        → s ≡ fresh_sequencer → r ≡ run_answer (take (12 * words) image) d s [] budget log
        → after ≡ log_after (take (12 * words) image) d s [] budget log
        → (ran_summary r ≡ trace_summary script buffer log) × (after ≡ trace_log script buffer log)
    unfolding trace_summary trace_log
    ran image after d s r i fd fs a l =
        let z = eq-eqb _ _ (sym (ap (λ (x : CompileResult). x.refusal) e)) in
        let w = ap (λ (x : CompileResult). x.words) e in
        (rw (z, ← w, ← i, ← fd, ← fs, a), rw (z, ← w, ← i, ← fd, ← fs, l))
