-- The answers of the exported functions: structs with the numbers of a result. See bindings/c/runnelopal.h.
use Rattle.std.specs.Prelude.{ℕ, ◌%◌, cond, replicate}
use Rattle.assembler.specs.Assemble.{AssembleResult}
use Rattle.compiler.specs.Compile.{CompileResult}
use Rattle.device.specs.Device.{outputs_of}
use Rattle.device.specs.Single.{AccessReply, EventReply, no_outputs}
use Rattle.device.specs.declared.Device.{Device}
use Rattle.device.specs.declared.Outputs.{Outputs}
use Rattle.interpreter.specs.Interpret.{InterpretResult}
use Rattle.lister.specs.Listing.{ListResult}
use Rattle.outcome.specs.Refusal.{Refusal}
use Rattle.outcome.specs.Refused.{ending_number}
use Rattle.outcome.specs.declared.Ending.{Ending}
use Rattle.sequencer.specs.Run.{RunResult, is_refusal}
use Rattle.step.specs.Sequencer.{counter_count}
use Rattle.step.specs.declared.Sequencer.{Sequencer}
use Rattle.runnelopal.specs.declared.answer.AccessAnswer.{AccessAnswer}
use Rattle.runnelopal.specs.declared.answer.AssembleAnswer.{AssembleAnswer}
use Rattle.runnelopal.specs.declared.answer.CompileAnswer.{CompileAnswer}
use Rattle.runnelopal.specs.declared.answer.ListAnswer.{ListAnswer}
use Rattle.runnelopal.specs.declared.answer.OutputLevels.{OutputLevels}
use Rattle.runnelopal.specs.declared.answer.OutputsAnswer.{OutputsAnswer}
use Rattle.runnelopal.specs.declared.answer.RunAnswer.{RunAnswer}
use Rattle.runnelopal.specs.declared.answer.SequencerAnswer.{SequencerAnswer}

abbrev pub levels : Outputs → OutputLevels
levels o = record { sci = o.sci; smi = o.smi; monitor = o.monitor }

-- the outputs of the device after a run. "A refusal's other numbers are 0"
abbrev pub levels_unless_refused : (outcome : ℕ) → Device → OutputLevels
levels_unless_refused outcome d = cond (is_refusal outcome) (levels no_outputs) (levels (outputs_of d))

abbrev pub exported_compile : CompileResult → CompileAnswer
exported_compile r = record { refusal = r.refusal; place = r.place; words = r.words }

-- a text script that is read, and a script that is listed
abbrev pub exported_assemble : AssembleResult → AssembleAnswer
exported_assemble r = record { refusal = r.refusal; place = r.place; records = r.records }

abbrev pub exported_list : ListResult → ListAnswer
exported_list r = record { refusal = r.refusal; place = r.place; length = r.length }

-- a run, and a script that is interpreted
abbrev pub exported_run : RunResult → RunAnswer
exported_run r = record {
  outcome = r.outcome;
  place = r.place;
  steps = r.steps;
  taken = r.taken;
  logged = r.logged;
  outputs = levels_unless_refused r.outcome r.device;
}

abbrev pub exported_interpret : InterpretResult → RunAnswer
exported_interpret r = record {
  outcome = r.outcome;
  place = r.place;
  steps = r.steps;
  taken = r.taken;
  logged = r.logged;
  outputs = levels_unless_refused r.outcome r.device;
}

-- the answer of a run that ended
abbrev pub ended : Ending → (steps taken logged : ℕ) → Device → RunAnswer
ended e steps taken logged d = record {
  outcome = ending_number e;
  place = 0;
  steps = steps;
  taken = taken;
  logged = logged;
  outputs = levels (outputs_of d);
}

-- "A refusal's other numbers are 0, events taken too"
abbrev pub refused_answer : Refusal → RunAnswer
refused_answer f = record {
  outcome = f.number;
  place = f.place;
  steps = 0;
  taken = 0;
  logged = 0;
  outputs = levels no_outputs;
}

abbrev pub exported_access : AccessReply → AccessAnswer
exported_access r = record {
  refusal = r.refusal;
  place = r.place;
  status = r.status;
  value = r.value;
  owner = r.owner;
  outputs = levels r.outputs;
}

abbrev pub exported_event : EventReply → OutputsAnswer
exported_event r = record { refusal = r.refusal; place = r.place; outputs = levels r.outputs }

abbrev pub exported_outputs : Device → OutputsAnswer
exported_outputs d = record { refusal = 0; place = 0; outputs = levels (outputs_of d) }

abbrev pub outputs_refused : ℕ → OutputsAnswer
outputs_refused n = record { refusal = n; place = 0; outputs = levels no_outputs }

-- the place of the next word and the counters; at most 8 are in use, so the remainder changes nothing
abbrev pub exported_sequencer : Sequencer → SequencerAnswer
exported_sequencer s = record { refusal = 0; place = s.place; used = s.used % 0x1_0000_0000; counters = s.counters }

abbrev pub sequencer_refused : ℕ → SequencerAnswer
sequencer_refused n = record { refusal = n; place = 0; used = 0; counters = replicate counter_count 0 }
