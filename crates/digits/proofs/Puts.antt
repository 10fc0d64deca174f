-- Laws of `puts`: two texts written one after the other are one text, the line keeps its length, and a text that fits is
-- written completely.
use Rattle.std.proofs.Common.{◌≡◌, ℕ, suc, ◌+◌, ◌/◌, ◌%◌, ◌≤◌, ◌<◌, Bool, true, false, cond, ltb, leb, List, [], ◌∷◌, ◌++◌, length, set, refl, ap, ◌∙◌, arith, length-append, length-set, lt-ltb, le-ltb}
use Rattle.digits.specs.Text.{Line, decimal_text, digit_text, digits_from, line_at, put, puts}

pub puts_both : (xs ys : List ℕ) (l : Line) → puts (xs ++ ys) l ≡ puts ys (puts xs l)
puts_both [] ys l = refl
puts_both (x ∷ xs) ys l = puts_both xs ys (put x l)

pub put_inside : (b : ℕ) (l : Line) → l.at < length l.text → put b l ≡ line_at (set l.text l.at b) (l.at + 1)
unfolding put
put_inside b l h = rw (lt-ltb l.at (length l.text) h)

pub put_full : (b : ℕ) (l : Line) → length l.text ≤ l.at → put b l ≡ l
unfolding put
put_full b l h = rw (le-ltb l.at (length l.text) h)

put_length : (b : ℕ) (l : Line) → length (put b l).text ≡ length l.text
unfolding put
put_length b l = pick (ltb l.at (length l.text))
  where
    pick : (p : Bool) → length (cond p (line_at (set l.text l.at b) (l.at + 1)) l).text ≡ length l.text
    pick true = length-set l.text l.at b
    pick false = refl

pub puts_length : (xs : List ℕ) (l : Line) → length (puts xs l).text ≡ length l.text
puts_length [] l = refl
puts_length (x ∷ xs) l = puts_length xs (put x l) ∙ put_length x l

-- ---- a text that fits the line is written completely
pub puts_whole : (xs : List ℕ) (l : Line) → l.at + length xs ≤ length l.text → (puts xs l).at ≡ l.at + length xs
puts_whole [] l h = let e : l.at ≡ l.at + 0 = omega arith in e
puts_whole (x ∷ xs) l h =
    let next = line_at (set l.text l.at x) (l.at + 1) in
    let p : put x l ≡ next = put_inside x l (omega (arith, h)) in
    let s = length-set l.text l.at x in
    let e : l.at + 1 + length xs ≡ l.at + suc (length xs) = omega arith in
    ap (λ (m : Line). (puts xs m).at) p ∙ puts_whole xs next (rw s (omega (arith, h))) ∙ e

-- ---- a decimal number has at most ten digits
digit_length : (n scale : ℕ) → length (digit_text n scale) ≤ 1
digit_length n scale = pick (leb scale n)
  where
    pick : (b : Bool) → length (cond b ((0x30 + n / scale % 10) ∷ []) []) ≤ 1
    pick true = omega arith
    pick false = omega arith

digits_length : (scales : List ℕ) (n : ℕ) → length (digits_from scales n) ≤ length scales + 1
digits_length [] n = omega arith
digits_length (s ∷ scales) n =
    let a = length-append (digit_text n s) (digits_from scales n) in
    let b = digit_length n s in
    let c = digits_length scales n in
    omega (arith, a, b, c)

pub decimal_length : (n : ℕ) → length (decimal_text n) ≤ 10
decimal_length n =
    digits_length (1000000000 ∷ 100000000 ∷ 10000000 ∷ 1000000 ∷ 100000 ∷ 10000 ∷ 1000 ∷ 100 ∷ 10 ∷ []) n
