-- A line has one reading: if the grammar gives it records in two ways, they are the same records. Both are those that `line_records` reads, because
-- every line of the grammar is read with the records that the grammar gives it.
use Prim.Native.Nat.{ℕ}
use mathlib.Core.Path.{◌≡◌, ◌∙◌, sym}
use mathlib.Core.List.{List}
use Rattle.record.specs.declared.Record.{Record}
use Rattle.statement.specs.Grammar.{Line}
use Rattle.statement.proofs.Complete.{complete}

pub one_reading_lem : {l : List ℕ} {rs ss : List Record} → Line l rs → Line l ss → rs ≡ ss
one_reading_lem a b = sym (complete a).1 ∙ (complete b).1
