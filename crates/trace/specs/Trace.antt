-- What `trace` does with a script: it compiles it, and runs the words written. "The tracing program reads a script on standard input and runs it on the
-- fresh device, no events, budget 100,000, log 1,024." The run starts from the fresh sequencer. See docs/CHIP.md, "Runs".
use Rattle.std.specs.Prelude.{ℕ, cond, List, [], eqb}
use Rattle.compiler.specs.Compile.{CompileResult, compile_result}
use Rattle.correct.specs.CompilerCorrect.{words_written}
use Rattle.device.specs.Device.{fresh_device}
use Rattle.sequencer.specs.Run.{RunResult, log_after, run_answer}
use Rattle.step.specs.Sequencer.{fresh_sequencer}
use Rattle.trace_text.specs.declared.Summary.{Summary}

abbrev pub budget : ℕ
budget = 100000

-- the run of an image from the fresh device and the fresh sequencer, without events
abbrev pub fresh_run : (image log : List ℕ) → RunResult
fresh_run image log = run_answer image fresh_device fresh_sequencer [] budget log

abbrev pub fresh_log : (image log : List ℕ) → List ℕ
fresh_log image log = log_after image fresh_device fresh_sequencer [] budget log

-- the numbers that are printed, after a run and after a refusal by the compiler
abbrev pub ran_summary : RunResult → Summary
ran_summary r = record { outcome = r.outcome; place = r.place; steps = r.steps; logged = r.logged }

abbrev pub refused_summary : CompileResult → Summary
refused_summary c = record { outcome = c.refusal; place = c.place; steps = 0; logged = 0 }

-- `buffer` is the image buffer before the call
unfoldable pub trace_summary : (script buffer log : List ℕ) → Summary
trace_summary script buffer log =
    cond (eqb (compile_result script buffer).refusal 0) (ran_summary (fresh_run (words_written script buffer) log))
    (refused_summary (compile_result script buffer))

unfoldable pub trace_log : (script buffer log : List ℕ) → List ℕ
trace_log script buffer log = cond (eqb (compile_result script buffer).refusal 0) (fresh_log (words_written script buffer) log) log
