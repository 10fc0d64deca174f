-- The number of a refusal is never 0, which stands for no refusal.
use Rattle.std.proofs.Common.{◌≡◌, arith}
use Rattle.outcome.specs.Refused.{refusal_number}
use Rattle.outcome.specs.declared.RefusalKind.{RefusalKind}
use Rattle.outcome.specs.declared.RefusalKind.TheVariants.{
  BadLength,
  WrongMark,
  BadKind,
  BadField,
  Misplaced,
  TooDeep,
  StillOpen,
  TooManyWords,
  BufferTooShort,
  BadImage,
  BadState,
  BadEvent,
  LineTooLong,
  NotInGrammar,
  NumberTooBig,
  RecordsTooShort,
  TextTooShort,
}

pub refusal_number_above : (k : RefusalKind) → refusal_number k ≡ 0 → ⊥
refusal_number_above BadLength h = omega arith
refusal_number_above WrongMark h = omega arith
refusal_number_above BadKind h = omega arith
refusal_number_above BadField h = omega arith
refusal_number_above Misplaced h = omega arith
refusal_number_above TooDeep h = omega arith
refusal_number_above StillOpen h = omega arith
refusal_number_above TooManyWords h = omega arith
refusal_number_above BufferTooShort h = omega arith
refusal_number_above BadImage h = omega arith
refusal_number_above BadState h = omega arith
refusal_number_above BadEvent h = omega arith
refusal_number_above LineTooLong h = omega arith
refusal_number_above NotInGrammar h = omega arith
refusal_number_above NumberTooBig h = omega arith
refusal_number_above RecordsTooShort h = omega arith
refusal_number_above TextTooShort h = omega arith
