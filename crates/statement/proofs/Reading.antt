-- Laws of the definitions in Line.antt.
use Prim.Native.Nat.{ℕ, zero, suc, ◌-◌, ◌≤◌, ◌<◌}
use mathlib.Core.Path.{◌≡◌, ap, refl, sym, ◌∙◌}
use mathlib.Core.Bool.{Bool, true, false, cond, false≢true, not}
use mathlib.Core.List.{List, [], ◌∷◌}
use native.Mathlib.Omega.{arith}
use borrow.Author.Tests.{ltb-false, ltb-true, ne_eqb}
use lib.Dec.{eqb, ltb}
use lib.Pointwise.{pointwise}
use lib.ListN.{drop, drop_of_length-le, get_or, length, length-drop, take}
use lib.Seq.{drop-cons, length-take-le, take-length}
use Rattle.statement.specs.Line.{after_word, before_return, capped, content, content_length, is_blank, is_empty, is_hex, is_number, last_byte, not_blank, not_semicolon, number_in, number_of, run, same_word, unindented, value_of, word}
use Rattle.std.specs.Prelude.{None, Some, is_some, position}
use Rattle.std.proofs.lemmas.List.{take_all}
use Rattle.statement.specs.Found.{number_found}
use Rattle.statement.proofs.Runs.{blank_position, run_most}

-- two words are the same byte by byte
pub same_word_lem : (a b : List ℕ) → pointwise eqb a b ≡ same_word a b
same_word_lem [] [] = refl
same_word_lem [] (y ∷ b) = refl
same_word_lem (x ∷ a) [] = refl
same_word_lem (x ∷ a) (y ∷ b) = rw (same_word_lem a b)

-- ---- numbers: the digits of a word, and their base
pub hex_inside : (w : List ℕ) → is_hex w ≡ true → 1 ≤ length w
hex_inside [] e = absurd (false≢true e)
hex_inside (b ∷ bs) e = omega arith

pub hex_number : (w : List ℕ) → is_hex w ≡ true → number_of 16 (take (length w - 1) w) ≡ number_in w
unfolding number_of number_in is_number value_of
hex_number w e = rw (e, length-take-le (length w - 1) w (omega arith))

pub decimal_number : (w : List ℕ) → is_hex w ≡ false → number_of 10 w ≡ number_in w
unfolding number_of number_in is_number value_of
decimal_number w e = rw (e, take-length w)

-- ---- a run in the front of a text stops at the end of the front at the latest
run_short : (p : ℕ → Bool) (n : ℕ) (s : List ℕ) → run p s ≤ n → run p (take n s) ≡ run p s
run_short p zero s h = let z : 0 ≡ run p s = omega (arith, h) in z
run_short p (suc n) [] h = refl
run_short p (suc n) (b ∷ s) h = pick (p b) (run_short p n s) h
  where
    pick : (t : Bool) → (run p s ≤ n → run p (take n s) ≡ run p s) → cond t (suc (run p s)) 0 ≤ suc n
        → cond t (suc (run p (take n s))) 0 ≡ cond t (suc (run p s)) 0
    pick true next h = ap suc (next (omega (arith, h)))
    pick false next h = refl

run_long : (p : ℕ → Bool) (n : ℕ) (s : List ℕ) → n ≤ run p s → run p (take n s) ≡ n
run_long p zero s h = refl
run_long p (suc n) [] h = absurd (omega (arith, h))
run_long p (suc n) (b ∷ s) h = pick (p b) (run_long p n s) h
  where
    pick : (t : Bool) → (n ≤ run p s → run p (take n s) ≡ n) → suc n ≤ cond t (suc (run p s)) 0 → cond t (suc (run p (take n s))) 0 ≡ suc n
    pick true next h = ap suc (next (omega (arith, h)))
    pick false next h = absurd (omega (arith, h))

-- ---- the comment of a line
before_return_most : (line : List ℕ) → (length line ≤ suc (before_return line)) × (before_return line ≤ length line)
before_return_most line = pick (eqb (last_byte line) 0x0D)
  where
    pick : (t : Bool)
        → (length line ≤ suc (cond t (length line - 1) (length line))) × (cond t (length line - 1) (length line) ≤ length line)
    pick true = (omega arith, omega arith)
    pick false = (omega arith, omega arith)

-- a comment starts before a carriage return that ends the line
pub comment_inside : (line : List ℕ) (n : ℕ) → n ≡ run not_semicolon line → n < length line → n ≡ content_length line
comment_inside line n e h =
    let m = before_return_most line in
    e ∙ sym (run_short not_semicolon (before_return line) line (omega (arith, e, h, m.0)))

pub no_comment : (line : List ℕ) (n : ℕ) → n ≡ run not_semicolon line → length line ≤ n → before_return line ≡ content_length line
no_comment line n e h =
    let m = before_return_most line in
    sym (run_long not_semicolon (before_return line) line (omega (arith, e, h, m.1)))

pub content_inside : (line : List ℕ) → content_length line ≤ length line
content_inside line =
    let m = before_return_most line in
    let r = run_most not_semicolon (take (before_return line) line) in
    let l = length-take-le (before_return line) line m.1 in
    omega (arith, m.1, r, l)

pub content_is : (line : List ℕ) (n : ℕ) → n ≡ content_length line → take n line ≡ content line
unfolding content
content_is line n e = rw e

-- ---- the word is empty exactly if only blanks are left
first_kept : (s : List ℕ) (b : ℕ) (bs : List ℕ) → unindented s ≡ b ∷ bs → not_blank b ≡ true
first_kept [] b bs e = absurd (let z : ◌≡◌ {A = ℕ} 0 1 = cc in omega arith)
first_kept (x ∷ s) b bs e = pick (is_blank x) refl (first_kept s b bs) e
  where
    pick : (t : Bool) → is_blank x ≡ t → (unindented s ≡ b ∷ bs → not_blank b ≡ true)
        → drop (cond t (suc (run is_blank s)) 0) (x ∷ s) ≡ b ∷ bs → not_blank b ≡ true
    pick true q next f = next f
    pick false q next f = let z : x ≡ b = cc in rw (← z, q)

nothing_left : (s : List ℕ) → length s ≤ run is_blank s → is_empty (word s) ≡ true
unfolding word
nothing_left s h = rw (drop_of_length-le s {i = run is_blank s} h)

something_left : (s : List ℕ) → run is_blank s < length s → is_empty (word s) ≡ false
unfolding word
something_left s h =
    let n = run is_blank s in
    let u : unindented s ≡ get_or s n 0 ∷ drop (suc n) s = drop-cons s n 0 h in
    rw (u, first_kept s (get_or s n 0) (drop (suc n) s) u)

pub blanks_only : (s : List ℕ) → is_some (position (λ b. not (is_blank b)) s) ≡ not (is_empty (word s))
blanks_only s = rw (blank_position s) (pick (ltb (run is_blank s) (length s)) refl)
  where
    pick : (t : Bool) → ltb (run is_blank s) (length s) ≡ t → is_some (cond t (Some (run is_blank s)) None) ≡ not (is_empty (word s))
    pick true e = rw (something_left s (ltb-true (run is_blank s) (length s) e))
    pick false e = rw (nothing_left s (ltb-false (run is_blank s) (length s) e))

pub word_left : (s : List ℕ) (t : Bool) → t ≡ is_some (position (λ b. not (is_blank b)) s) → t ≡ true → is_empty (word s) ≡ false
word_left s t e f = pick (is_empty (word s)) (sym (blanks_only s) ∙ sym e ∙ f)
  where
    pick : (u : Bool) → not u ≡ true → u ≡ false
    pick true g = sym g
    pick false g = refl

pub no_word_left : (s : List ℕ) (t : Bool) → t ≡ is_some (position (λ b. not (is_blank b)) s) → t ≡ false → is_empty (word s) ≡ true
no_word_left s t e f = pick (is_empty (word s)) (sym (blanks_only s) ∙ sym e ∙ f)
  where
    pick : (u : Bool) → not u ≡ false → u ≡ true
    pick true g = refl
    pick false g = sym g

-- ---- the first word and the rest
pub whole_part : (s : List ℕ) (n : ℕ) → take (length s - n) (drop n s) ≡ drop n s
whole_part s n = take_all (length s - n) (drop n s) (let l = length-drop n s in omega (arith, l))

module _ (s : List ℕ) (from to : ℕ) (e : from ≡ run is_blank s) (f : to ≡ run not_blank (take (length s - from) (drop from s))) where
  pub split_front : take to (take (length s - from) (drop from s)) ≡ word s
  unfolding word
  split_front = rw (f, whole_part s from, e)

  pub split_back : drop to (take (length s - from) (drop from s)) ≡ after_word s
  unfolding after_word
  split_back = rw (f, whole_part s from, e)

pub empty_is : (w : List ℕ) → eqb (length w) 0 ≡ is_empty w
empty_is [] = refl
empty_is (b ∷ bs) = ne_eqb (length (b ∷ bs)) 0 (λ e. omega (arith, e))

-- ---- a word that was read as a number, or that is none
pub number_is : (w : List ℕ) (v : ℕ) → Some v ≡ number_found (number_in w) → (is_number w ≡ true) × (v ≡ capped (value_of w))
unfolding number_in
number_is w v e = pick (is_number w) refl e
  where
    pick : (t : Bool) → is_number w ≡ t → Some v ≡ cond t (Some (cond t (capped (value_of w)) 0)) None
        → (is_number w ≡ true) × (v ≡ capped (value_of w))
    pick true p f = (p, cc)
    pick false p f = cc

pub no_number : (w : List ℕ) → None ≡ number_found (number_in w) → is_number w ≡ false
unfolding number_in
no_number w e = pick (is_number w) refl e
  where
    pick : (t : Bool) → is_number w ≡ t → None ≡ cond t (Some (cond t (capped (value_of w)) 0)) None → is_number w ≡ false
    pick true p f = cc
    pick false p f = p
