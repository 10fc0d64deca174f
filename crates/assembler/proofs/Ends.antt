-- Where a line or what is before its comment ends: the first byte that the code looks for.
use Rattle.std.proofs.Common.{◌≡◌, ℕ, Bool, true, false, not, ◌&&◌, ◌||◌, eqb, List, length, refl}
use Rattle.std.specs.Prelude.{position, unwrap_or}
use Rattle.statement.proofs.Runs.{position_run}
use Rattle.statement.specs.Line.{run}
use Rattle.assembler.specs.Assemble.{before_comment, not_line_feed}

neither : (p q : Bool) → not (p || q) ≡ (not p && not q)
neither true q = refl
neither false q = refl

pub comment_run : (s : List ℕ) → unwrap_or (position (λ b. eqb b 0x0A || eqb b 0x3B) s) (length s) ≡ run before_comment s
comment_run = position_run before_comment (λ b. eqb b 0x0A || eqb b 0x3B) (λ b. neither (eqb b 0x0A) (eqb b 0x3B))

pub feed_run : (s : List ℕ) → unwrap_or (position (λ b. eqb b 0x0A) s) (length s) ≡ run not_line_feed s
feed_run = position_run not_line_feed (λ b. eqb b 0x0A) (λ b. refl)
