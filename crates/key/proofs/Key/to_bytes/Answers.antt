-- `key::Key::to_bytes` returns what `key_bytes` defines: the slice of all 32 bytes is the array itself.
use Rattle.std.proofs.Common.{sym, arith}
use Rattle.lists.proofs.Slice.{slice_whole}
use Rattle.key.specs.Saved.{key_size}
use Rattle.key.proofs.Key.to_bytes.Goals as goal

pub returns : goal.returns
returns c = sym (slice_whole 0 key_size c.args.self.bytes (omega arith))
