-- `Acpi::to_bytes`: each part is written at its place.
use Rattle.std.proofs.Common.{◌∙◌, arith}
use Rattle.little_endian.proofs.Std.{flag_byte_of, four_bytes_of, two_bytes_of}
use Rattle.acpi.proofs.Acpi.to_bytes.Goals as goal

pub slice_bounds-bytes-end-9 : goal.slice_bounds-bytes-end-9
slice_bounds-bytes-end-9 c =
    rw (
      c.copy_from_slice-8.ensures.after,
      c.copy_from_slice-7.ensures.after,
      c.copy_from_slice-6.ensures.after,
      c.copy_from_slice-5.ensures.after,
      c.copy_from_slice-4.ensures.after,
      c.copy_from_slice-3.ensures.after,
      c.copy_from_slice-2.ensures.after,
      c.copy_from_slice.ensures.after,
      c.to_le_bytes.ensures ∙ two_bytes_of _,
      c.to_le_bytes-2.ensures ∙ two_bytes_of _,
      c.to_le_bytes-3.ensures ∙ two_bytes_of _,
      c.to_le_bytes-4.ensures ∙ two_bytes_of _,
      c.to_le_bytes-5.ensures ∙ two_bytes_of _,
      c.to_le_bytes-6.ensures ∙ two_bytes_of _,
      c.to_le_bytes-7.ensures ∙ four_bytes_of _,
      c.map_bytes.ensures,
    )
    (omega arith)

pub returns : goal.returns
returns c =
    rw (
      c.copy_from_slice-9.ensures.after,
      c.copy_from_slice-8.ensures.after,
      c.copy_from_slice-7.ensures.after,
      c.copy_from_slice-6.ensures.after,
      c.copy_from_slice-5.ensures.after,
      c.copy_from_slice-4.ensures.after,
      c.copy_from_slice-3.ensures.after,
      c.copy_from_slice-2.ensures.after,
      c.copy_from_slice.ensures.after,
      c.to_le_bytes.ensures ∙ two_bytes_of _,
      c.to_le_bytes-2.ensures ∙ two_bytes_of _,
      c.to_le_bytes-3.ensures ∙ two_bytes_of _,
      c.to_le_bytes-4.ensures ∙ two_bytes_of _,
      c.to_le_bytes-5.ensures ∙ two_bytes_of _,
      c.to_le_bytes-6.ensures ∙ two_bytes_of _,
      c.to_le_bytes-7.ensures ∙ four_bytes_of _,
      c.map_bytes.ensures,
      c.level_bytes.ensures,
      c.from.ensures ∙ flag_byte_of _,
      c.from-2.ensures ∙ flag_byte_of _,
    )
