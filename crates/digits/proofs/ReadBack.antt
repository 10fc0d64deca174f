-- A number that is written as eight hex digits and then read is the same number, if no further digit follows it. The same holds
-- for a byte of two digits, whatever follows it.
use Rattle.std.proofs.Common.{◌≡◌, ℕ, ◌+◌, ◌-◌, ◌*◌, ◌/◌, ◌%◌, ◌^◌, ◌<◌, ◌≤◌, Bool, true, false, cond, ltb, List, [], ◌∷◌, ◌++◌, length, take, drop, set, refl, ap, ◌∙◌, append_assoc, add-one, arith, length-set, length-take-le, drop_at, ltb-false, ltb-true, lt-ltb, ne_eqb}
use lib.Seq.{sets, sets-eq}
use Rattle.digits.specs.Read.{byte_at, byte_of, digit_at, digit_of, digits_of, hex_of, no_digit, number_at, value_from}
use Rattle.digits.specs.Text.{Line, byte_text, hex_digit, hex_text, line_at, put, puts}
use Rattle.digits.proofs.Read.{decimal_digit, none_of, upper_digit}

-- ---- one digit
digit_back : (n : ℕ) → digit_of (hex_digit n) ≡ n % 16
digit_back n = pick (ltb (n % 16) 10) refl
  where
    pick : (p : Bool) → ltb (n % 16) 10 ≡ p → digit_of (cond p (0x30 + n % 16) (0x37 + n % 16)) ≡ n % 16
    pick true e =
        let l = ltb-true (n % 16) 10 e in
        let m : 0x30 + n % 16 - 0x30 ≡ n % 16 = omega arith in
        decimal_digit (0x30 + n % 16) (omega arith) (omega (arith, l)) ∙ m
    pick false e =
        let l = ltb-false (n % 16) 10 e in
        let m : 0x37 + n % 16 - 0x41 + 10 ≡ n % 16 = omega (arith, l) in
        upper_digit (0x37 + n % 16) (omega (arith, l)) (omega arith) ∙ m

one_back : (n : ℕ) (rest : List ℕ) → digits_of (hex_digit n ∷ rest) ≡ n % 16 ∷ digits_of rest
one_back n rest =
    let some : n % 16 ≡ no_digit → ⊥ = λ e. omega (arith, e) in
    rw (digit_back n, ne_eqb (n % 16) no_digit some)

-- ---- two digits, and eight
-- the two digits of a byte, before other digits
abbrev two : ℕ → List ℕ → List ℕ
two b ds = b / 16 % 16 ∷ b % 16 ∷ ds

byte_back : (b : ℕ) (rest : List ℕ) → digits_of (byte_text b ++ rest) ≡ two b (digits_of rest)
byte_back b rest = one_back (b / 16) (hex_digit b ∷ rest) ∙ ap (λ (ds : List ℕ). b / 16 % 16 ∷ ds) (one_back b rest)

hex_back : (n : ℕ) (rest : List ℕ)
    → digits_of (hex_text n ++ rest)
    ≡ two (n / 2 ^ 24 % 256) (two (n / 2 ^ 16 % 256) (two (n / 2 ^ 8 % 256) (two (n % 256) (digits_of rest))))
hex_back n rest =
    let d = byte_text (n % 256) ++ rest in
    let c = byte_text (n / 2 ^ 8 % 256) ++ d in
    let b = byte_text (n / 2 ^ 16 % 256) ++ c in
    byte_back (n / 2 ^ 24 % 256) b
    ∙ ap (two (n / 2 ^ 24 % 256))
    (byte_back (n / 2 ^ 16 % 256) c
    ∙ ap (two (n / 2 ^ 16 % 256)) (byte_back (n / 2 ^ 8 % 256) d ∙ ap (two (n / 2 ^ 8 % 256)) (byte_back (n % 256) rest)))

-- the value of two more digits
pair_value : (v b : ℕ) (ds : List ℕ) → b < 256 → value_from v (two b ds) ≡ value_from (v * 256 + b) ds
pair_value v b ds h = ap (λ (w : ℕ). value_from w ds) e
  where
    e : (v * 16 + b / 16 % 16) * 16 + b % 16 ≡ v * 256 + b
    e = omega (arith, h)

value_back : (n : ℕ) → n < 2 ^ 32
    → value_from 0 (two (n / 2 ^ 24 % 256) (two (n / 2 ^ 16 % 256) (two (n / 2 ^ 8 % 256) (two (n % 256) [])))) % 2 ^ 32 ≡ n
value_back n h =
    let a = n / 2 ^ 24 % 256 in
    let b = n / 2 ^ 16 % 256 in
    let c = n / 2 ^ 8 % 256 in
    let d = n % 256 in
    let two_bytes_lem : n / 2 ^ 16 ≡ n / 2 ^ 8 / 2 ^ 8 = omega arith in
    let three_bytes : n / 2 ^ 24 ≡ n / 2 ^ 16 / 2 ^ 8 = omega arith in
    let top : 0 * 256 + a ≡ n / 2 ^ 24 = omega (arith, h) in
    let upper : n / 2 ^ 24 * 256 + b ≡ n / 2 ^ 16 = rw three_bytes (omega arith) in
    let lower : n / 2 ^ 16 * 256 + c ≡ n / 2 ^ 8 = rw two_bytes_lem (omega arith) in
    let whole : n / 2 ^ 8 * 256 + d ≡ n = omega arith in
    let e : (((0 * 256 + a) * 256 + b) * 256 + c) * 256 + d ≡ n = rw (top, upper, lower) whole in
    let m : n % 2 ^ 32 ≡ n = omega (arith, h) in
    ap (λ (v : ℕ). v % 2 ^ 32)
    (pair_value 0 a (two b (two c (two d []))) (omega arith)
    ∙ pair_value (0 * 256 + a) b (two c (two d [])) (omega arith)
    ∙ pair_value ((0 * 256 + a) * 256 + b) c (two d []) (omega arith)
    ∙ pair_value (((0 * 256 + a) * 256 + b) * 256 + c) d [] (omega arith)
    ∙ e)
    ∙ m

-- ---- the line after `puts`
puts_sets : (xs : List ℕ) (l : Line) → l.at + length xs ≤ length l.text → (puts xs l).text ≡ sets l.text l.at xs
unfolding put
puts_sets [] l h = refl
puts_sets (x ∷ xs) l h =
    let next = line_at (set l.text l.at x) (l.at + 1) in
    let p : put x l ≡ next = rw (lt-ltb l.at (length l.text) (omega (arith, h))) in
    let s = length-set l.text l.at x in
    ap (λ (m : Line). (puts xs m).text) p
    ∙ puts_sets xs next (rw s (omega (arith, h)))
    ∙ ap (λ (k : ℕ). sets (set l.text l.at x) k xs) (add-one l.at)

puts_from : (xs : List ℕ) (l : Line) → l.at + length xs ≤ length l.text
    → drop l.at (puts xs l).text ≡ xs ++ drop (l.at + length xs) l.text
puts_from xs l h =
    let front = take l.at l.text in
    let rest = drop (l.at + length xs) l.text in
    ap (drop l.at) (puts_sets xs l h ∙ sets-eq xs l.text l.at h ∙ append_assoc front xs rest)
    ∙ drop_at front (xs ++ rest) l.at (length-take-le l.at l.text (omega (arith, h)))

-- ---- `put_hex` writes a number, and `number` reads it
pub read_back_lem : (n : ℕ) (l : Line) → n < 2 ^ 32 → l.at + 8 ≤ length l.text → digit_at l.text (l.at + 8) ≡ no_digit
    → number_at (puts (hex_text n) l).text l.at ≡ record { ok = true; value = n; next = l.at + 8 }
read_back_lem n l small fits end =
    let rest = drop (l.at + 8) l.text in
    let e = ap digits_of (puts_from (hex_text n) l fits) ∙ hex_back n rest in
    let none : digits_of rest ≡ [] = none_of l.text (l.at + 8) end in
    ap (λ (ds : List ℕ). hex_of l.at (take 9 ds)) e ∙ rw (none, value_back n small)

-- the same for `put_byte` and `byte`
pub read_byte_back : (b : ℕ) (l : Line) → b < 256 → l.at + 2 ≤ length l.text → byte_at (puts (byte_text b) l).text l.at ≡ b
read_byte_back b l small fits =
    let rest = drop (l.at + 2) l.text in
    let e = ap digits_of (puts_from (byte_text b) l fits) ∙ byte_back b rest in
    let v : 0 * 256 + b ≡ b = omega arith in
    ap (λ (ds : List ℕ). byte_of (take 2 ds)) e ∙ pair_value 0 b [] small ∙ v
