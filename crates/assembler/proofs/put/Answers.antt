-- `put` writes the record if there is room for it, and otherwise nothing. `record::write` gets only the part of the buffer that starts at it.
use Prim.Native.Nat.{◌-◌, ◌*◌}
use mathlib.Core.Path.{refl, sym, ◌∙◌}
use lib.ListN.{length}
use Rattle.compiler.proofs.Image.{put_part}
use Rattle.record.specs.Record.{bytes_of, record_size}
use Rattle.assembler.proofs.Writing.{no_room_lem, put_room}
use Rattle.assembler.proofs.put.Goals as goal

pub returns-then-place-records : goal.returns-then-place-records
returns-then-place-records c =
    let a = c.args in
    put_part a.records.now c.write.new.part (bytes_of a.r) (record_size * a.place)
    (length a.records.now - record_size * a.place) refl c.write.ensures
    ∙ sym (put_room a.place a.r a.records.now c.if-place-records.true)

pub returns-else-place-records : goal.returns-else-place-records
returns-else-place-records c = sym (no_room_lem c.args.place c.args.r c.args.records.now c.if-place-records.false)
