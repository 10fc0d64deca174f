-- `put_read` puts `read_text`, piece by piece.
use Rattle.trace_text.proofs.Lines.{pieces_put}
use Rattle.trace_text.proofs.put_read.Goals as goal

pub returns : goal.returns
returns c =
    rw (c.put-2.ensures, c.put_decimal.ensures, c.put.ensures, c.put_hex.ensures, c.put_text.ensures)
    (pieces_put c.args.entry _ _ c.args.text.now c.value.ensures c.owner.ensures)
