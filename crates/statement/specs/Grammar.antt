-- The grammar of one line of a text script, and the record that a statement means. See docs/TEXT.md, "The grammar". The productions are those of
-- that page, from blanks up to lines. They say which lines there are; how a line is read is in Line.antt.
-- "one statement per line, keywords for the seven kinds, numbers in hex or decimal, comments, blank lines"
use Rattle.std.specs.Prelude.{ℕ, ◌+◌, ◌*◌, ◌<◌, List, [], ◌∷◌, ◌++◌}
use Rattle.record.specs.declared.Record.{Record}
use Rattle.script.specs.Nested.{script_record}

-- ---- the keywords, in ASCII
abbrev pub write_word : List ℕ
write_word = 0x77 ∷ 0x72 ∷ 0x69 ∷ 0x74 ∷ 0x65 ∷ []

abbrev pub read_word : List ℕ
read_word = 0x72 ∷ 0x65 ∷ 0x61 ∷ 0x64 ∷ []

abbrev pub delay_word : List ℕ
delay_word = 0x64 ∷ 0x65 ∷ 0x6C ∷ 0x61 ∷ 0x79 ∷ []

abbrev pub repeat_word : List ℕ
repeat_word = 0x72 ∷ 0x65 ∷ 0x70 ∷ 0x65 ∷ 0x61 ∷ 0x74 ∷ []

abbrev pub if_word : List ℕ
if_word = 0x69 ∷ 0x66 ∷ []

abbrev pub else_word : List ℕ
else_word = 0x65 ∷ 0x6C ∷ 0x73 ∷ 0x65 ∷ []

abbrev pub end_word : List ℕ
end_word = 0x65 ∷ 0x6E ∷ 0x64 ∷ []

-- ---- blanks: "blank = space (20h) | tab (09h)", "blanks = { blank }", "gap = blank blanks"
pub data Blank : ℕ → Type 0 where
  space : Blank 0x20
  tab : Blank 0x09

pub data Blanks : List ℕ → Type 0 where
  none : Blanks []
  more : {b : ℕ} {bs : List ℕ} → Blank b → Blanks bs → Blanks (b ∷ bs)

pub data Gap : List ℕ → Type 0 where
  gap : {b : ℕ} {bs : List ℕ} → Blank b → Blanks bs → Gap (b ∷ bs)

-- ---- numbers, each with its value
-- "digit = "0" to "9"": `0` is 30h
pub data Digit : (char value : ℕ) → Type 0 where
  digit : (n : ℕ) → n < 10 → Digit (0x30 + n) n

-- "hexdigit = digit | "A" to "F" | "a" to "f"": `A` is 41h, `a` is 61h
pub data HexDigit : (char value : ℕ) → Type 0 where
  decimal : {char n : ℕ} → Digit char n → HexDigit char n
  upper : (n : ℕ) → n < 6 → HexDigit (0x41 + n) (10 + n)
  lower : (n : ℕ) → n < 6 → HexDigit (0x61 + n) (10 + n)

-- "digit { digit }": a further digit counts ones, and those before it count ten times as much
pub data Decimal : (chars : List ℕ) (value : ℕ) → Type 0 where
  first : {char n : ℕ} → Digit char n → Decimal (char ∷ []) n
  next : {chars : List ℕ} {char m n : ℕ} → Decimal chars m → Digit char n → Decimal (chars ++ (char ∷ [])) (m * 10 + n)

-- "hexdigit { hexdigit }"
pub data Hex : (chars : List ℕ) (value : ℕ) → Type 0 where
  first : {char n : ℕ} → HexDigit char n → Hex (char ∷ []) n
  next : {chars : List ℕ} {char m n : ℕ} → Hex chars m → HexDigit char n → Hex (chars ++ (char ∷ [])) (m * 16 + n)

-- "number = digit { digit } | hexdigit { hexdigit } ( "h" | "H" )"
pub data Number : (chars : List ℕ) (value : ℕ) → Type 0 where
  decimal : {chars : List ℕ} {n : ℕ} → Decimal chars n → Number chars n
  hex : {chars : List ℕ} {n : ℕ} → Hex chars n → Number (chars ++ (0x68 ∷ [])) n
  upper_hex : {chars : List ℕ} {n : ℕ} → Hex chars n → Number (chars ++ (0x48 ∷ [])) n

-- ---- statements, each with the record that it means: kind, width, port and value. A field that a statement does not have is 0
pub data Statement : List ℕ → Record → Type 0 where
  write : {a w b p c v : List ℕ} {width port value : ℕ}
      → Gap a → Number w width → Gap b → Number p port → Gap c → Number v value
      → Statement (write_word ++ (a ++ (w ++ (b ++ (p ++ (c ++ v)))))) (script_record 1 width port value)
  read : {a w b p : List ℕ} {width port : ℕ}
      → Gap a → Number w width → Gap b → Number p port
      → Statement (read_word ++ (a ++ (w ++ (b ++ p)))) (script_record 2 width port 0)
  delay : {a n : List ℕ} {count : ℕ} → Gap a → Number n count → Statement (delay_word ++ (a ++ n)) (script_record 3 0 0 count)
  repeat : {a n : List ℕ} {count : ℕ} → Gap a → Number n count → Statement (repeat_word ++ (a ++ n)) (script_record 4 0 0 count)
  if : {a w b p c v : List ℕ} {width port value : ℕ}
      → Gap a → Number w width → Gap b → Number p port → Gap c → Number v value
      → Statement (if_word ++ (a ++ (w ++ (b ++ (p ++ (c ++ v)))))) (script_record 5 width port value)
  else : Statement else_word (script_record 6 0 0 0)
  end : Statement end_word (script_record 7 0 0 0)

-- ---- lines, each with its records: one, or none
-- "[ comment ]", "comment = ";" { any byte but LF }". The grammar of texts says that a line has no LF in it
pub data Comment : List ℕ → Type 0 where
  none : Comment []
  comment : (bytes : List ℕ) → Comment (0x3B ∷ bytes)

-- "[ CR ]"
pub data Return : List ℕ → Type 0 where
  none : Return []
  return : Return (0x0D ∷ [])

-- "line = blanks [ statement blanks ] [ comment ] [ CR ]"
pub data Line : List ℕ → List Record → Type 0 where
  empty : {a c e : List ℕ} → Blanks a → Comment c → Return e → Line (a ++ (c ++ e)) []
  statement : {a s b c e : List ℕ} {r : Record}
      → Blanks a → Statement s r → Blanks b → Comment c → Return e → Line (a ++ (s ++ (b ++ (c ++ e)))) (r ∷ [])
