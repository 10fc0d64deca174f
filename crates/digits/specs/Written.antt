-- The line of a `Writer`, and a `Writer` after a text.
use Rattle.std.specs.Prelude.{ℕ, List}
use Rattle.digits.specs.declared.Writer.{Writer}
use Rattle.digits.specs.Text.{Line, line_at, puts}

abbrev pub written : Writer → Line
written w = line_at w.line.now w.at

-- the same writer, with this text put into its line
unfoldable pub writes : List ℕ → Writer → Writer
writes xs w =
    let l = puts xs (written w) in
    record { line = record w.line { now = l.text }; at = l.at }
