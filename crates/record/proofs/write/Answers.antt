-- `record::write` puts the 12 bytes of `bytes_of` in front of the rest: those that `to_le_bytes` gives of each field.
use mathlib.Core.Path.{◌∙◌}
use Rattle.little_endian.proofs.Std.{four_bytes_of}
use Rattle.record.specs.Record.{bytes_of}
use Rattle.record.proofs.write.Goals as goal

pub returns : goal.returns
unfolding bytes_of
returns c =
    rw (
      c.copy_from_slice.ensures.after,
      c.to_le_bytes.ensures ∙ four_bytes_of c.args.word.mark,
      c.to_le_bytes-2.ensures ∙ four_bytes_of c.args.word.kind,
      c.to_le_bytes-3.ensures ∙ four_bytes_of c.args.word.width,
      c.to_le_bytes-4.ensures ∙ four_bytes_of c.args.word.port,
      c.to_le_bytes-5.ensures ∙ four_bytes_of c.args.word.target,
      c.to_le_bytes-6.ensures ∙ four_bytes_of c.args.word.value,
    )
