-- A text is its first line and the rest. The reader finds the start of the comment first, and from there the end of the line.
use Prim.Native.Nat.{ℕ, suc, ◌+◌, ◌-◌, ◌≤◌, ◌<◌}
use mathlib.Core.Path.{◌≡◌, ap, refl, sym, ◌∙◌}
use mathlib.Core.Bool.{Bool, true, false, cond, ◌&&◌}
use mathlib.Core.List.{List, [], ◌∷◌}
use native.Mathlib.Omega.{arith}
use lib.ListN.{drop, length, length-drop, take}
use lib.Seq.{drop-drop}
use Rattle.statement.proofs.Runs.{run_inside}
use Rattle.statement.specs.Line.{not_semicolon, run}
use Rattle.assembler.specs.Assemble.{before_comment, in_first, lines_of, not_line_feed}

-- ---- the first line
abbrev pub first_line : List ℕ → List ℕ
first_line t = take (run not_line_feed t) t

abbrev pub other_lines : List ℕ → List (List ℕ)
other_lines t = lines_of (drop (suc (run not_line_feed t)) t)

pub lines_split : (b : ℕ) (bs : List ℕ) → lines_of (b ∷ bs) ≡ first_line (b ∷ bs) ∷ other_lines (b ∷ bs)
lines_split b [] = pick (not_line_feed b)
  where
    pick : (p : Bool)
        → cond p ((b ∷ []) ∷ []) ([] ∷ []) ≡ take (cond p 1 0) (b ∷ []) ∷ lines_of (drop (suc (cond p 1 0)) (b ∷ []))
    pick true = refl
    pick false = refl
lines_split b (c ∷ cs) = pick (not_line_feed b) (lines_split c cs)
  where
    pick : (p : Bool) → lines_of (c ∷ cs) ≡ first_line (c ∷ cs) ∷ other_lines (c ∷ cs)
        → cond p (in_first b (lines_of (c ∷ cs))) ([] ∷ lines_of (c ∷ cs))
        ≡ take (cond p (suc (run not_line_feed (c ∷ cs))) 0) (b ∷ c ∷ cs)
        ∷ lines_of (drop (suc (cond p (suc (run not_line_feed (c ∷ cs))) 0)) (b ∷ c ∷ cs))
    pick true e = ap (in_first b) e
    pick false e = refl

pub some_line : (t : List ℕ) → 0 < length t → lines_of t ≡ first_line t ∷ other_lines t
some_line [] h = absurd (omega (arith, h))
some_line (b ∷ bs) h = lines_split b bs

-- ---- the comment of the first line
pub comment_of : (t : List ℕ) → run not_semicolon (first_line t) ≡ run before_comment t
comment_of [] = refl
comment_of (b ∷ bs) = pick (not_line_feed b) (not_semicolon b) refl (comment_of bs)
  where
    pick : (p q : Bool) → not_semicolon b ≡ q → run not_semicolon (first_line bs) ≡ run before_comment bs
        → run not_semicolon (take (cond p (suc (run not_line_feed bs)) 0) (b ∷ bs)) ≡ cond (p && q) (suc (run before_comment bs)) 0
    pick true true f e = rw f (ap suc e)
    pick true false f e = rw f
    pick false q f e = refl

-- no byte before the comment is a line feed
pub end_of : (t : List ℕ) → run not_line_feed t ≡ run before_comment t + run not_line_feed (drop (run before_comment t) t)
end_of [] = refl
end_of (b ∷ bs) = pick (not_line_feed b) (not_semicolon b) refl (end_of bs)
  where
    pick : (p q : Bool) → not_line_feed b ≡ p → run not_line_feed bs ≡ run before_comment bs + run not_line_feed (drop (run before_comment bs) bs)
        → cond p (suc (run not_line_feed bs)) 0
        ≡ cond (p && q) (suc (run before_comment bs)) 0 + run not_line_feed (drop (cond (p && q) (suc (run before_comment bs)) 0) (b ∷ bs))
    pick true true f e = let g : suc (run not_line_feed bs) ≡ suc (run before_comment bs) + run not_line_feed (drop (run before_comment bs) bs) = omega (arith, e) in g
    pick true false f e = rw f (let z : suc (run not_line_feed bs) ≡ 0 + suc (run not_line_feed bs) = omega arith in z)
    pick false q f e = rw f (let z : ◌≡◌ {A = ℕ} 0 (0 + 0) = omega arith in z)

-- ---- a line in a text: it starts at `at`, its comment at `comment`, and it ends at `end`
pub record LineIn (text : List ℕ) (at comment end : ℕ) : Type 0 where
  pub starts : at ≤ comment
  pub ordered : comment ≤ end
  pub inside : end ≤ length text
  pub line : take (end - at) (drop at text) ≡ first_line (drop at text)
  pub commented : comment - at ≡ run not_semicolon (first_line (drop at text))
  pub rest : drop (suc end) text ≡ drop (suc (run not_line_feed (drop at text))) (drop at text)

pub line_in : (text : List ℕ) (at comment end : ℕ) → at ≤ length text → comment ≡ at + run before_comment (drop at text)
    → end ≡ comment + run not_line_feed (drop comment text) → LineIn text at comment end
line_in text at comment end h e f =
    let t = drop at text in
    let here : drop comment text ≡ drop (run before_comment t) t = ap (λ (n : ℕ). drop n text) e ∙ sym (drop-drop (run before_comment t) at text) in
    let far : run not_line_feed t ≡ run before_comment t + run not_line_feed (drop comment text) =
    end_of t ∙ ap (λ (l : List ℕ). run before_comment t + run not_line_feed l) (sym here) in
    let whole : end ≡ at + run not_line_feed t = omega (arith, e, f, far) in
    let i = run_inside not_line_feed text at h in
    let n : end - at ≡ run not_line_feed t = omega (arith, whole) in
    let m : comment - at ≡ run before_comment t = omega (arith, e) in
    let k : suc end ≡ at + suc (run not_line_feed t) = omega (arith, whole) in
    record {
      starts = omega (arith, e);
      ordered = omega (arith, f);
      inside = omega (arith, whole, i);
      line = ap (λ (j : ℕ). take j t) n;
      commented = m ∙ sym (comment_of t);
      rest = ap (λ (j : ℕ). drop j text) k ∙ sym (drop-drop (suc (run not_line_feed t)) at text);
    }

-- the next line starts after this one
pub next_after : (text : List ℕ) (at end next : ℕ) → at ≤ end → at < length text → next ≤ length text → drop next text ≡ drop (suc end) text
    → at < next
next_after text at end next h l m e =
    let a = length-drop next text in
    let b = length-drop (suc end) text in
    let c : length (drop next text) ≡ length (drop (suc end) text) = ap length e in
    omega (arith, a, b, c)
