-- The kinds of records in a script, each named once. See docs/CHIP.md, "Scripts". Other files refer to them as `kind.repeat`.
-- The grammar (Grammar.antt, and `flat` in Nested.antt) writes the numbers out: it is stated by itself.
use Rattle.std.specs.Prelude.{ℕ}

abbrev pub write : ℕ
write = 1

abbrev pub read : ℕ
read = 2

abbrev pub delay : ℕ
delay = 3

abbrev pub repeat : ℕ
repeat = 4

abbrev pub if : ℕ
if = 5

abbrev pub else : ℕ
else = 6

abbrev pub end : ℕ
end = 7
