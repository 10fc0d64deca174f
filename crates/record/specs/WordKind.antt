-- The kinds of words in an image, each named once. See docs/CHIP.md, "Words". Other files refer to them as `wordKind.enter`.
-- "Word kinds: 1, 2, 3 as above; 4 enter [..]; 5 loop end [..]; 6 test [..]; 7 jump; 8 halt."
use Rattle.std.specs.Prelude.{ℕ}

abbrev pub write : ℕ
write = 1

abbrev pub read : ℕ
read = 2

abbrev pub delay : ℕ
delay = 3

abbrev pub enter : ℕ
enter = 4

abbrev pub loop_end : ℕ
loop_end = 5

abbrev pub test : ℕ
test = 6

abbrev pub jump : ℕ
jump = 7

abbrev pub halt : ℕ
halt = 8
