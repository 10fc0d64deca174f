-- How long the texts of numbers, statements and lines are.
use Prim.Native.Nat.{ℕ, ◌+◌, ◌*◌, ◌%◌, ◌≤◌}
use mathlib.Core.Path.{◌≡◌, refl}
use mathlib.Core.Bool.{Bool, true, false, cond}
use mathlib.Core.List.{List, [], ◌∷◌, ◌++◌}
use native.Mathlib.Omega.{arith}
use borrow.Author.Tests.{leb-true}
use lib.Dec.{eqb, leb}
use lib.ListN.{length, length-append, length-replicate}
use Rattle.digits.proofs.Puts.{decimal_length}
use Rattle.digits.specs.Text.{byte_text, hex_text}
use Rattle.record.specs.declared.Record.{Record}
use Rattle.statement.specs.Grammar.{delay_word, else_word, end_word, if_word, read_word, repeat_word, write_word}
use Rattle.lister.specs.Listing.{access_text, access_value_text, bytes_length, bytes_text, count_text, depth_after, line_depth, line_text, listing_from, margin_length, pair_text, statement_text}

-- ---- statements
bytes_long : (w v : ℕ) → length (bytes_text w v) ≡ bytes_length w
bytes_long w v = pick (eqb w 1) (eqb w 2)
  where
    pick : (a b : Bool) → length (cond a (byte_text (v % 256)) (cond b (pair_text v) (hex_text v))) ≡ cond a 2 (cond b 4 8)
    pick true b = refl
    pick false true = refl
    pick false false = refl

pub value_long : (r : Record) → length (access_value_text r) ≡ 10 + bytes_length r.width
value_long r =
    let a = length-append (bytes_text r.width r.value) (0x68 ∷ []) in
    let b = bytes_long r.width r.value in
    omega (arith, a, b)

-- ---- no line is long: a margin has at most 64 spaces, a statement at most 23 bytes
pub bytes_most : (w : ℕ) → bytes_length w ≤ 8
bytes_most w = pick (eqb w 1) (eqb w 2)
  where
    pick : (a b : Bool) → cond a 2 (cond b 4 8) ≤ 8
    pick true b = omega arith
    pick false true = omega arith
    pick false false = omega arith

at_most : (n d : ℕ) → cond (leb d n) d n ≤ n
at_most n d = pick (leb d n) (leb-true d n)
  where
    pick : (b : Bool) → (b ≡ true → d ≤ n) → cond b d n ≤ n
    pick true h = h refl
    pick false h = omega arith

pub margin_most : (depth kind : ℕ) → margin_length depth kind ≤ 64
unfolding margin_length
margin_most depth kind = let m = at_most 16 (line_depth depth kind) in omega (arith, m)

pub statement_most : (r : Record) → length (statement_text r) ≤ 23
unfolding statement_text
statement_most r =
    let v = value_long r in
    let b = bytes_most r.width in
    let d = decimal_length r.value in
    let value : length (access_value_text r) ≤ 18 = omega arith in
    either (eqb r.kind 1) (write_word ++ access_value_text r) _ (omega arith)
    (either (eqb r.kind 2) (read_word ++ access_text r) _ (omega arith)
    (either (eqb r.kind 3) (delay_word ++ count_text r) _ (omega arith)
    (either (eqb r.kind 4) (repeat_word ++ count_text r) _ (omega arith)
    (either (eqb r.kind 5) (if_word ++ access_value_text r) _ (omega arith)
    (either (eqb r.kind 6) else_word end_word (omega arith) (omega arith))))))
  where
    either : (b : Bool) (xs ys : List ℕ) → length xs ≤ 23 → length ys ≤ 23 → length (cond b xs ys) ≤ 23
    either true xs ys h k = h
    either false xs ys h k = k

pub line_long : (depth : ℕ) (r : Record) → length (line_text depth r) ≡ margin_length depth r.kind + length (statement_text r)
unfolding line_text
line_long depth r = simp (length-append, length-replicate)

pub line_most : (depth : ℕ) (r : Record) → length (line_text depth r) ≤ 87
line_most depth r =
    let m = margin_most depth r.kind in
    let s = statement_most r in
    rw (line_long depth r) (omega arith)

-- with the line feed, 88 bytes for each record
pub lines_most : (depth : ℕ) (rs : List Record) → length (listing_from depth rs) ≤ 88 * length rs
lines_most depth [] = omega arith
lines_most depth (r ∷ rs) =
    let rest = listing_from (depth_after depth r.kind) rs in
    let a = length-append (line_text depth r) (0x0A ∷ rest) in
    let l = line_most depth r in
    let h = lines_most (depth_after depth r.kind) rs in
    omega (arith, a, l, h)
