-- "the five states" of a bay, as BAY_ST and BAY_STREQ number them. See docs/CHIP.md, "Bays". Other files refer to them as
-- `state.inserted`.
use Rattle.std.specs.Prelude.{ℕ}

abbrev pub empty : ℕ
empty = 0

abbrev pub inserted : ℕ
inserted = 1

abbrev pub enabled : ℕ
enabled = 2

abbrev pub removal_requested : ℕ
removal_requested = 3

abbrev pub removal_allowed : ℕ
removal_allowed = 4
