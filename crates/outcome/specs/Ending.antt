-- The numbers of the endings of a run. See docs/CHIP.md, "Runs". Other files refer to them as `ending.halted`.
-- "A run ends with 0 halted, 19 budget spent, or a fault"
use Rattle.std.specs.Prelude.{ℕ}

-- "0 halted"
abbrev pub halted : ℕ
halted = 0

-- "19 budget spent"
abbrev pub budget_spent : ℕ
budget_spent = 19

-- "20 bad word"
abbrev pub bad_word : ℕ
bad_word = 20

-- "21 target or place beyond the last word"
abbrev pub beyond_last_word : ℕ
beyond_last_word = 21

-- "22 ninth counter"
abbrev pub ninth_counter : ℕ
ninth_counter = 22

-- "23 loop end without one"
abbrev pub no_counter : ℕ
no_counter = 23

-- "24 log full"
abbrev pub log_full : ℕ
log_full = 24
