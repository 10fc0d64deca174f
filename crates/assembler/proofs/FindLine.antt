-- The loop of `find_line`: what holds before each turn, that going to the next line keeps it, and what it means at the end. The line that it looks
-- for is one of those that are left, and it starts after the lines that were passed.
use Prim.Native.Nat.{ℕ, suc, ◌+◌, ◌-◌, ◌≤◌, ◌<◌}
use mathlib.Core.Logic.{◌⊎◌, inl, inr}
use mathlib.Core.Path.{◌≡◌, ap, refl, sym, ◌∙◌}
use mathlib.Core.List.{List, [], ◌∷◌}
use native.Mathlib.Omega.{arith}
use lib.ListN.{drop, drop_of_length-le, get_or, length, length-drop}
use lib.Seq.{drop-drop, length-take-le}
use Rattle.statement.proofs.Runs.{run_inside}
use Rattle.statement.specs.Line.{run}
use Rattle.assembler.specs.Assemble.{LineAt, line_start, lines_of, not_line_feed}
use Rattle.assembler.proofs.Lines.{first_line, lines_split, other_lines, some_line}

-- ---- the first of the lines that are left
first_line_lem : (t : List ℕ) → get_or (lines_of t) 0 [] ≡ first_line t
first_line_lem [] = refl
first_line_lem (b ∷ bs) = ap (λ (ls : List (List ℕ)). get_or ls 0 []) (lines_split b bs)

-- a text with lines is not empty, and the other way round
some_byte : (t : List ℕ) → 0 < length (lines_of t) → 0 < length t
some_byte [] h = absurd (omega arith)
some_byte (b ∷ bs) h = omega arith

no_byte : (t : List ℕ) → length (lines_of t) ≤ 0 → length t ≤ 0
no_byte [] h = omega arith
no_byte (b ∷ bs) h = let n = ap length (lines_split b bs) in absurd (omega arith)

-- ---- what holds before a turn: `k` lines were passed, and the next one starts at `at`
pub record Seeking (text : List ℕ) (place at k : ℕ) : Type 0 where
  pub inside : at ≤ length text
  pub passed : k ≤ place
  pub counted : k + length (lines_of (drop at text)) ≡ length (lines_of text)
  pub line : get_or (lines_of (drop at text)) (place - k) [] ≡ get_or (lines_of text) place []
  pub starts : place < length (lines_of text) → at + line_start (place - k) (lines_of (drop at text)) ≡ line_start place (lines_of text)

module _ (text : List ℕ) (place : ℕ) where
  pub seek_start : Seeking text place 0 0
  seek_start =
      let z : place - 0 ≡ place = omega arith in
      record { inside = omega arith; passed = omega arith; counted = omega arith; line = rw z; starts = λ b. rw z (omega arith) }

  module _ (at k : ℕ) (i : Seeking text place at k) where
    abbrev t : List ℕ
    t = drop at text

    long : length t ≡ length text - at
    long = length-drop at text

    -- ---- to the next line
    module _ (end next : ℕ) (l : k < place) (h : at < length text) (e : end ≡ at + run not_line_feed t) (m : next ≤ length text)
        (d : drop next text ≡ drop (suc end) text) where
      here : lines_of t ≡ first_line t ∷ other_lines t
      here = some_line t (omega (arith, long))

      others : lines_of (drop next text) ≡ other_lines t
      others =
          let n : suc end ≡ at + suc (run not_line_feed t) = omega arith in
          ap lines_of (d ∙ ap (λ (j : ℕ). drop j text) n ∙ sym (drop-drop (suc (run not_line_feed t)) at text))

      left : place - k ≡ suc (place - (k + 1))
      left = omega arith

      more : k + suc (length (lines_of (drop next text))) ≡ length (lines_of text)
      more = let n = ap length here in rw others (omega arith)

      -- a further line starts after the line feed
      after_feed : place < length (lines_of text) → next ≡ at + suc (length (first_line t))
      after_feed b =
          let some = some_byte (drop next text) (omega (arith, more)) in
          let n = length-drop next text in
          let f = length-drop (suc end) text in
          let g : length (drop next text) ≡ length (drop (suc end) text) = ap length d in
          let r = run_inside not_line_feed text at i.inside in
          let w = length-take-le (run not_line_feed t) t (omega (arith, long)) in
          omega arith

      first_passed : line_start (place - k) (lines_of t) ≡ suc (length (first_line t)) + line_start (place - (k + 1)) (other_lines t)
      first_passed = ap (λ (n : ℕ). line_start n (lines_of t)) left ∙ ap (line_start (suc (place - (k + 1)))) here

      pub seek_on : Seeking text place next (k + 1)
      seek_on =
          record {
            inside = m;
            passed = omega arith;
            counted = omega (arith, more);
            line =
                rw others (sym (ap (λ (ls : List (List ℕ)). get_or ls (suc (place - (k + 1))) []) here) ∙ ap (λ (n : ℕ). get_or (lines_of t) n []) (sym left) ∙ i.line);
            starts = λ b. rw others (omega (arith, first_passed, after_feed b, i.starts b));
          }

    -- ---- at the line, or after the last one
    line_here : (place ≤ k) ⊎ (length text ≤ at) → get_or (lines_of t) (place - k) [] ≡ first_line t
    line_here (inl h) = let z : place - k ≡ 0 = omega arith in rw z (first_line_lem t)
    line_here (inr h) = rw (drop_of_length-le text {i = at} h)

    starts_here : (place ≤ k) ⊎ (length text ≤ at) → place < length (lines_of text) → at ≡ line_start place (lines_of text)
    starts_here (inl h) b =
        let z : place - k ≡ 0 = omega arith in
        let s : at + 0 ≡ line_start place (lines_of text) = rw z at (i.starts b) in
        omega arith
    starts_here (inr h) b =
        let z = ap (λ (x : List ℕ). length (lines_of x)) (drop_of_length-le text {i = at} h) in
        absurd (omega arith)

    at_end : (place ≤ k) ⊎ (length text ≤ at) → length (lines_of text) ≤ place → at ≡ length text
    at_end (inl h) b =
        let z = no_byte t (omega arith) in
        omega (arith, long)
    at_end (inr h) b = omega arith

    pub seek_end : (to : ℕ) → (place ≤ k) ⊎ (length text ≤ at) → to ≡ at + run not_line_feed t → LineAt text place (record { from = at; to = to })
    seek_end to h e =
        let r = run_inside not_line_feed text at i.inside in
        let n : to - at ≡ run not_line_feed t = omega arith in
        record {
          ordered = omega arith;
          inside = omega arith;
          line = rw n (sym (line_here h) ∙ i.line);
          starts = starts_here h;
          after_last = at_end h;
        }
