-- The numbers that document 01 gives to refusals and endings, and what the results of the calls mean in these numbers.
use Rattle.std.specs.Prelude.{ℕ, Option, None, Some, Result, Ok, Err}
use Rattle.outcome.specs.Ending as ending
use Rattle.outcome.specs.Number as number
use Rattle.outcome.specs.Refusal.{Refusal, refusal}
use Rattle.outcome.specs.declared.Ending.{Ending}
use Rattle.outcome.specs.declared.Ending.TheVariants.{Halted, BudgetSpent, BadWord, BeyondLastWord, NinthCounter, NoCounter, LogFull}
use Rattle.outcome.specs.declared.RefusalKind.{RefusalKind}
use Rattle.outcome.specs.declared.RefusalKind.TheVariants.{
  BadLength,
  WrongMark,
  BadKind,
  BadField,
  Misplaced,
  TooDeep,
  StillOpen,
  TooManyWords,
  BufferTooShort,
  BadImage,
  BadState,
  BadEvent,
  LineTooLong,
  NotInGrammar,
  NumberTooBig,
  RecordsTooShort,
  TextTooShort,
}
use Rattle.outcome.specs.declared.Refused.{Refused}

abbrev pub refusal_number : RefusalKind → ℕ
refusal_number BadLength = number.bad_length
refusal_number WrongMark = number.wrong_mark
refusal_number BadKind = number.bad_kind
refusal_number BadField = number.bad_field
refusal_number Misplaced = number.misplaced
refusal_number TooDeep = number.too_deep
refusal_number StillOpen = number.still_open
refusal_number TooManyWords = number.too_many_words
refusal_number BufferTooShort = number.buffer_too_short
refusal_number BadImage = number.bad_image
refusal_number BadState = number.bad_state
refusal_number BadEvent = number.bad_event
refusal_number LineTooLong = number.line_too_long
refusal_number NotInGrammar = number.not_in_grammar
refusal_number NumberTooBig = number.number_too_big
refusal_number RecordsTooShort = number.records_too_short
refusal_number TextTooShort = number.text_too_short

abbrev pub ending_number : Ending → ℕ
ending_number Halted = ending.halted
ending_number BudgetSpent = ending.budget_spent
ending_number BadWord = ending.bad_word
ending_number BeyondLastWord = ending.beyond_last_word
ending_number NinthCounter = ending.ninth_counter
ending_number NoCounter = ending.no_counter
ending_number LogFull = ending.log_full

-- a refusal as its number and its place
abbrev pub refusal_of : Refused → Refusal
refusal_of r = refusal (refusal_number r.kind) r.place

-- the refusal of a call; number 0 if the call is not refused
abbrev pub refusal_in : {A : Type 0} → Result A Refused → Refusal
refusal_in (Ok a) = refusal 0 0
refusal_in (Err r) = refusal_of r

-- the number of a check that finds a fault or none; 0 if it finds none
abbrev pub fault_number : Option RefusalKind → ℕ
fault_number None = 0
fault_number (Some k) = refusal_number k

-- the same of a check that returns its fault as an error
abbrev pub error_number : {A : Type 0} → Result A RefusalKind → ℕ
error_number (Ok a) = 0
error_number (Err k) = refusal_number k

-- the number of a check that finds the ending of a run or none; 0 if it finds none
abbrev pub ending_in : Option Ending → ℕ
ending_in None = 0
ending_in (Some e) = ending_number e
