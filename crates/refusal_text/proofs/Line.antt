-- The line of a refusal: its two numbers put one after the other, the most bytes that they take, a text that is put into a buffer, and the whole line in
-- a buffer of `line_size` bytes.
use Prim.Native.Nat.{ℕ, suc, ◌+◌, ◌≤◌, ◌<◌}
use mathlib.Core.Path.{◌≡◌, ap, sym, ◌∙◌}
use mathlib.Core.List.{List, [], ◌∷◌, ◌++◌, append_assoc, append-nil}
use native.Mathlib.Omega.{arith}
use lib.ListN.{length, length-append, length-set, set, take}
use lib.Seq.{length-take-le, take-suc-set}
use native.Mathlib.Numerals.{add-one}
use Rattle.digits.proofs.Puts.{decimal_length, put_inside, puts_both, puts_length, puts_whole}
use Rattle.digits.specs.Text.{Line, decimal_text, line_at, put, puts}
use Rattle.refusal_text.specs.Refused.{Put, line_size, numbers_text, refused_text}

-- two numbers put one after the other are the text of both
pub numbers_put : (first second : ℕ) (l : Line)
    → put 0x0A (puts (decimal_text second) (put 0x20 (puts (decimal_text first) l))) ≡ puts (numbers_text first second) l
numbers_put first second l =
    sym (
    puts_both (decimal_text first) (0x20 ∷ (decimal_text second ++ (0x0A ∷ []))) l
    ∙ puts_both (decimal_text second) (0x0A ∷ []) (put 0x20 (puts (decimal_text first) l))
    )

pub numbers_length : (first second : ℕ) → length (numbers_text first second) ≤ 22
numbers_length first second =
    let a = length-append (decimal_text first) (0x20 ∷ (decimal_text second ++ (0x0A ∷ []))) in
    let b = length-append (decimal_text second) (0x0A ∷ []) in
    let f = decimal_length first in
    let s = decimal_length second in
    omega (arith, a, b, f, s)

-- a text that fits is in the buffer from where it was put to the index after it
front : (xs : List ℕ) (l : Line) → l.at + length xs ≤ length l.text
    → take (l.at + length xs) (puts xs l).text ≡ take l.at l.text ++ xs
front [] l h = let e : l.at + 0 ≡ l.at = omega arith in rw (e, append-nil)
front (x ∷ xs) l h =
    let next = line_at (set l.text l.at x) (l.at + 1) in
    let inside : l.at < length l.text = omega (arith, h) in
    let p : put x l ≡ next = put_inside x l inside in
    let s = length-set l.text l.at x in
    let e : l.at + suc (length xs) ≡ l.at + 1 + length xs = omega arith in
    let one = ap (λ (n : ℕ). take n (set l.text l.at x)) (add-one l.at) ∙ take-suc-set l.text l.at x inside in
    ap (λ (m : Line). take (l.at + suc (length xs)) (puts xs m).text) p
    ∙ ap (λ (n : ℕ). take n (puts xs next).text) e
    ∙ front xs next (rw s (omega (arith, h)))
    ∙ ap (λ (t : List ℕ). t ++ xs) one
    ∙ append_assoc (take l.at l.text) (x ∷ []) xs

-- a text that is put at the front of a buffer that has room for it is in the first bytes of the buffer
pub all_put : (xs text after : List ℕ) (n : ℕ) → length xs ≤ length text → line_at after n ≡ puts xs (line_at text 0) → Put xs after n
all_put xs text after n h e =
    let room : 0 + length xs ≤ length text = omega (arith, h) in
    let at : n ≡ 0 + length xs = ap (λ (m : Line). m.at) e ∙ puts_whole xs (line_at text 0) room in
    let kept : length after ≡ length text = ap (λ (m : Line). length m.text) e ∙ puts_length xs (line_at text 0) in
    let bytes = ap (λ (m : Line). take (0 + length xs) m.text) e ∙ front xs (line_at text 0) room in
    let inside : n ≤ length after = omega (arith, at, kept, room) in
    record { inside = inside; counted = sym (length-take-le n after inside); bytes = ap (λ (k : ℕ). take k after) at ∙ bytes }

-- a buffer of `line_size` bytes has room for the line
pub whole : (text after : List ℕ) (n number place : ℕ) → length text ≡ line_size
    → line_at after n ≡ puts (refused_text number place) (line_at text 0)
    → Put (refused_text number place) after n
whole text after n number place l e =
    let most = numbers_length number place in
    all_put (refused_text number place) text after n (omega (arith, most, l)) e
