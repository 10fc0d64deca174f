-- The numbers of the refusals, each named once. See docs/CHIP.md, "Refusals". Other files refer to them as `number.bad_length`.
use Rattle.std.specs.Prelude.{ℕ}

-- "script length no multiple of 12, or over 1,024 records (0)"
abbrev pub bad_length : ℕ
bad_length = 1

-- "wrong mark (record)"
abbrev pub wrong_mark : ℕ
wrong_mark = 2

-- "kind not 1 to 7"
abbrev pub bad_kind : ℕ
bad_kind = 3

-- "bad width, value or unused field"; for a single access: "width, port, or a write value too wide"
abbrev pub bad_field : ℕ
bad_field = 4

-- "else not in an if still without one; end with no open block"
abbrev pub misplaced : ℕ
misplaced = 5

-- "a block opened inside 16, or a repeat inside 8 repeats"
abbrev pub too_deep : ℕ
too_deep = 6

-- "a block still open (record count)"
abbrev pub still_open : ℕ
still_open = 7

-- "over 1,024 words (record count)"
abbrev pub too_many_words : ℕ
too_many_words = 8

-- "image buffer too short (record count)"
abbrev pub buffer_too_short : ℕ
buffer_too_short = 9

-- "image empty, no multiple of 12, or over 1,024 words (0)"
abbrev pub bad_image : ℕ
bad_image = 10

-- "device or sequencer state out of range (0)"
abbrev pub bad_state : ℕ
bad_state = 11

-- "bad event (the first's place; always 4,096 if over 4,096 events)"
abbrev pub bad_event : ℕ
bad_event = 12

-- "30 line too long"
abbrev pub line_too_long : ℕ
line_too_long = 30

-- "31 not in the grammar"
abbrev pub not_in_grammar : ℕ
not_in_grammar = 31

-- "32 number too big for its field or against 4"
abbrev pub number_too_big : ℕ
number_too_big = 32

-- "33 record buffer too short"
abbrev pub records_too_short : ℕ
records_too_short = 33

-- "34 text buffer too short"
abbrev pub text_too_short : ℕ
text_too_short = 34
