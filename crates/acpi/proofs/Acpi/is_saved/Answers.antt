-- `Acpi::is_saved`: if the two flags before the levels are 0 or 1, the levels decide.
use Rattle.std.proofs.Common.{◌≡◌, Bool, true, ◌&&◌, arith, sym, ◌∙◌}
use borrow.Author.Tests.{lt-ltb}
use Rattle.acpi.proofs.Flags.{levels_tested}
use Rattle.acpi.proofs.Acpi.is_saved.Goals as goal
use Rattle.acpi.proofs.Acpi.is_saved.Goals.{then-bytes-lt2, else-bytes-lt2}

then_last : (a b l r : Bool) → a ≡ true → b ≡ true → r ≡ l → r ≡ (a && b && l)
then_last a b l r p q e = rw (p, q, e)

pub returns-then-bytes-lt2-2 : goal.returns-then-bytes-lt2-2
returns-then-bytes-lt2-2 c =
    elim c.if-bytes-lt2.branch [
      | then-bytes-lt2 w ↦
          then_last _ _ _ _ (lt-ltb _ _ w.if-bytes-lt2.true) (sym w.value-is ∙ c.if-bytes-lt2-2.true)
          (c.are_flags.ensures ∙ levels_tested c.args.bytes.now c.requires)
      | else-bytes-lt2 w ↦ absurd (grind arith)
    ]
