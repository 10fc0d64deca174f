-- Laws of `writes`: two texts written one after the other are one text, and the texts that a loop writes are one text.
use Rattle.std.proofs.Common.{◌≡◌, ℕ, ◌+◌, ◌/◌, ◌%◌, ◌<◌, ◌≤◌, List, [], ◌∷◌, ◌++◌, length, take, get_or, set, refl, append_assoc, append-nil, arith, le-leb}
use borrow.Author.Tests.{lt-leb}
use Rattle.std.proofs.lemmas.List.{take_all, take_more}
use Rattle.std.proofs.lemmas.Grind.{flat_map-append}
use Rattle.std.specs.List.{flat_map}
use Rattle.std.specs.Int.{to_be_bytes, w32}
use Rattle.digits.specs.declared.Writer.{Writer}
use Rattle.digits.specs.Text.{byte_text, digit_text, digits_from, hex_text, puts}
use Rattle.digits.specs.Written.{writes, written}
use Rattle.digits.proofs.Puts.{puts_both, put_full, put_inside}

pub writes_twice : (w : Writer) (xs ys : List ℕ) → writes ys (writes xs w) ≡ writes (xs ++ ys) w
unfolding writes
writes_twice w xs ys = rw (puts_both xs ys (written w))

pub writes_none : (w : Writer) → writes [] w ≡ w
unfolding writes
writes_none w = refl

-- the line, in words of `puts`, and the reference that the writer has
pub writes_written : (w : Writer) (xs : List ℕ) → written (writes xs w) ≡ puts xs (written w)
unfolding writes
writes_written w xs = refl

pub writes_same_line : (w : Writer) (xs : List ℕ) → (writes xs w).line.ghost_name ≡ w.line.ghost_name
unfolding writes
writes_same_line w xs = refl

-- one byte: it is put if the line has room
pub writes_inside : (w : Writer) (b : ℕ) → w.at < length w.line.now
    → writes (b ∷ []) w ≡ record { line = record w.line { now = set w.line.now w.at b }; at = w.at + 1 }
unfolding writes
writes_inside w b h = rw (put_inside b (written w) h)

pub writes_full : (w : Writer) (b : ℕ) → length w.line.now ≤ w.at → writes (b ∷ []) w ≡ w
unfolding writes
writes_full w b h = rw (put_full b (written w) h)

-- one more byte of a text
pub writes_next : (w : Writer) (xs : List ℕ) (i : ℕ) → i < length xs
    → writes (get_or xs i 0 ∷ []) (writes (take i xs) w) ≡ writes (take (i + 1) xs) w
writes_next w xs i h = rw (writes_twice, ← take_more xs i 0 h)

-- one more piece of a text that has a piece for each element of a list
pub writes_piece : (w : Writer) (f : ℕ → List ℕ) (xs : List ℕ) (i : ℕ) → i < length xs
    → writes (f (get_or xs i 0)) (writes (flat_map f (take i xs)) w) ≡ writes (flat_map f (take (i + 1) xs)) w
writes_piece w f xs i h =
    rw (writes_twice, take_more xs i 0 h, flat_map-append f (take i xs) (get_or xs i 0 ∷ []), append-nil)

-- ---- the pieces of a number
pub byte_next : (w : Writer) (bs : List ℕ) (i : ℕ) → i < length bs
    → writes (byte_text (get_or bs i 0)) (writes (flat_map byte_text (take i bs)) w) ≡ writes (flat_map byte_text (take (i + 1) bs)) w
byte_next w bs i h = writes_piece w byte_text bs i h

pub hex_pieces : (n : ℕ) → flat_map byte_text (to_be_bytes w32 n) ≡ hex_text n
hex_pieces n = grind arith

-- the digit of a power of ten, and none where it would be a leading zero
pub digit_next : (w : Writer) (n : ℕ) (scales : List ℕ) (i : ℕ) → i < length scales → get_or scales i 0 ≤ n
    → writes ((0x30 + n / get_or scales i 0 % 10) ∷ []) (writes (flat_map (digit_text n) (take i scales)) w)
    ≡ writes (flat_map (digit_text n) (take (i + 1) scales)) w
digit_next w n scales i h e = rw (← writes_piece w (digit_text n) scales i h, le-leb (get_or scales i 0) n e)

pub zero_next : (w : Writer) (n : ℕ) (scales : List ℕ) (i : ℕ) → i < length scales → n < get_or scales i 0
    → writes (flat_map (digit_text n) (take i scales)) w ≡ writes (flat_map (digit_text n) (take (i + 1) scales)) w
zero_next w n scales i h e =
    rw (← writes_piece w (digit_text n) scales i h, lt-leb (get_or scales i 0) n e, writes_none)

decimal_pieces : (scales : List ℕ) (n : ℕ) → flat_map (digit_text n) scales ++ ((0x30 + n % 10) ∷ []) ≡ digits_from scales n
decimal_pieces [] n = refl
decimal_pieces (s ∷ scales) n =
    rw (append_assoc, decimal_pieces scales n)

-- the digits of all the powers, and then the last digit
pub decimal_end : (w : Writer) (n : ℕ) (scales : List ℕ) (i : ℕ) → length scales ≤ i
    → writes ((0x30 + n % 10) ∷ []) (writes (flat_map (digit_text n) (take i scales)) w) ≡ writes (digits_from scales n) w
decimal_end w n scales i h = rw (take_all i scales h, writes_twice, decimal_pieces scales n)
