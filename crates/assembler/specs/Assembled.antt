-- What the code returns, in the words of Assemble.antt.
use Rattle.std.specs.Prelude.{ℕ, Result, Ok, Err}
use Rattle.outcome.specs.Refused.{refusal_number}
use Rattle.assembler.specs.Assemble.{AssembleResult}
use Rattle.assembler.specs.declared.LineRefused.{LineRefused}

abbrev pub assembled : Result ℕ LineRefused → AssembleResult
assembled (Ok n) = record { refusal = 0; place = 0; records = n }
assembled (Err r) = record { refusal = refusal_number r.kind; place = r.line; records = 0 }
