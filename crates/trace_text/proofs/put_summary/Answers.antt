-- `put_summary` puts the whole text of any numbers: `put_result` puts it, and the buffer has room for it (`whole` in Lines.antt).
use Rattle.std.proofs.Common.{◌≡◌, ◌≤◌, length, sym, ap, ◌∙◌, arith}
use Rattle.digits.specs.Text.{Line, line_at, puts}
use Rattle.digits.specs.Written.{written}
use Rattle.digits.proofs.Writes.{writes_written}
use Rattle.trace_text.proofs.Lines.{shown_is_printed_lem, whole, whole_printed}
use Rattle.trace_text.specs.Printed.{printed, text_size, log_size}
use Rattle.trace_text.specs.declared.Summary.{Summary}
use Rattle.trace_text.proofs.put_summary.Goals as goal

pub returns : goal.returns
returns c =
    let s = c.args.summary in
    let log = c.args.log.now in
    let xs = printed s log in
    let line : line_at c.put_result.new.text.line.now c.len.result ≡ puts xs (line_at c.args.text.now 0) =
    rw c.len.ensures (ap written c.put_result.ensures ∙ writes_written _ xs ∙ ap (puts xs) c.new-writer.ensures.empty) in
    let t : length c.args.text.now ≡ text_size = omega (arith, c.told-text) in
    let l : length log ≤ log_size = omega (arith, c.told-log) in
    record {
      whole = whole_printed c.args.text.now _ _ s log t l line;
      counted = ap (λ (x : Line). x.at) line ∙ whole c.args.text.now s log t l;
      line = line;
      shown = λ r e h. shown_is_printed_lem r log (rw (sym e) h) ∙ ap (λ (x : Summary). printed x log) (sym e);
    }
