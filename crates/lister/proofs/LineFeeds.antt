-- No byte of a statement is a line feed: its bytes are blanks, digits and the letters of keywords. So a line without a comment has none in it,
-- whatever its numbers are.
use Prim.Native.Nat.{ℕ, ◌+◌}
use mathlib.Core.Path.{◌≡◌}
use mathlib.Core.Bool.{false}
use mathlib.Core.List.{List, [], ◌∷◌, ◌++◌}
use borrow.Author.Tests.{eqb-false, ne_eqb}
use lib.Dec.{eqb}
use native.Mathlib.Omega.{arith}
use Rattle.assembler.specs.Grammar.{NoLineFeed}
use Rattle.lists.specs.All.{All}
use Rattle.record.specs.declared.Record.{Record}
use Rattle.statement.specs.Grammar.{Blank, Blanks, Decimal, Digit, Gap, Hex, HexDigit, Number, Statement, delay_word, if_word, read_word, repeat_word, write_word}
use Rattle.statement.proofs.Words.{all_append, all_map}

abbrev Other : ℕ → Type 0
Other b = eqb b 0x0A ≡ false

-- a text without a line feed
record Clear (s : List ℕ) : Type 0 where
  each : All Other s

before : {a b : List ℕ} → Clear a → Clear b → Clear (a ++ b)
before {a} {b} s t = record { each = all_append Other a b s.each t.each }

one : (b : ℕ) → (b ≡ 0x0A → ⊥) → Clear (b ∷ [])
one b n = record { each = (ne_eqb b 0x0A n, tt) }

-- ---- blanks and digits
blank_clear : {b : ℕ} → Blank b → Clear (b ∷ [])
blank_clear Blank.space = search
blank_clear Blank.tab = search

blanks_clear : {a : List ℕ} → Blanks a → Clear a
blanks_clear Blanks.none = search
blanks_clear (Blanks.more b s) = before (blank_clear b) (blanks_clear s)

gap_clear : {a : List ℕ} → Gap a → Clear a
gap_clear (Gap.gap b s) = before (blank_clear b) (blanks_clear s)

digit_clear : {c n : ℕ} → Digit c n → Clear (c ∷ [])
digit_clear (Digit.digit n h) = one (0x30 + n) (λ e. omega arith)

hex_digit_clear : {c n : ℕ} → HexDigit c n → Clear (c ∷ [])
hex_digit_clear (HexDigit.decimal d) = digit_clear d
hex_digit_clear (HexDigit.upper n h) = one (0x41 + n) (λ e. omega arith)
hex_digit_clear (HexDigit.lower n h) = one (0x61 + n) (λ e. omega arith)

decimal_clear : {cs : List ℕ} {n : ℕ} → Decimal cs n → Clear cs
decimal_clear (Decimal.first d) = digit_clear d
decimal_clear (Decimal.next ds d) = before (decimal_clear ds) (digit_clear d)

hex_clear : {cs : List ℕ} {n : ℕ} → Hex cs n → Clear cs
hex_clear (Hex.first d) = hex_digit_clear d
hex_clear (Hex.next ds d) = before (hex_clear ds) (hex_digit_clear d)

number_clear : {w : List ℕ} {n : ℕ} → Number w n → Clear w
number_clear (Number.decimal d) = decimal_clear d
number_clear (Number.hex d) = before (hex_clear d) search
number_clear (Number.upper_hex d) = before (hex_clear d) search

-- ---- statements
operand_clear : {g w : List ℕ} {n : ℕ} → Gap g → Number w n → {s : List ℕ} → Clear s → Clear (g ++ (w ++ s))
operand_clear g w s = before (gap_clear g) (before (number_clear w) s)

last_clear : {g w : List ℕ} {n : ℕ} → Gap g → Number w n → Clear (g ++ w)
last_clear g w = before (gap_clear g) (number_clear w)

-- the letters of a keyword are compared by computation
clear : {s : List ℕ} {r : Record} → Statement s r → Clear s
clear (Statement.write a w b p c v) = before {a = write_word} (search) (operand_clear a w (operand_clear b p (last_clear c v)))
clear (Statement.read a w b p) = before {a = read_word} (search) (operand_clear a w (last_clear b p))
clear (Statement.delay a n) = before {a = delay_word} (search) (last_clear a n)
clear (Statement.repeat a n) = before {a = repeat_word} (search) (last_clear a n)
clear (Statement.if a w b p c v) = before {a = if_word} (search) (operand_clear a w (operand_clear b p (last_clear c v)))
clear Statement.else = search
clear Statement.end = search

-- ---- the law, also with blanks in front
pub no_line_feed : {a s : List ℕ} {r : Record} → Blanks a → Statement s r → NoLineFeed (a ++ s)
no_line_feed {a} {s} b h =
    all_map Other (λ b. b ≡ 0x0A → ⊥) (λ b. eqb-false b 0x0A) (a ++ s) (before (blanks_clear b) (clear h)).each
