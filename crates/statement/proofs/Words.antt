-- A text is blanks, a word and the rest after it, and `word` and `after_word` return the last two. They return them for every such split, because
-- `run` stops at the first byte that fails its test.
use Prim.Native.Nat.{ℕ, suc}
use mathlib.Core.Path.{◌≡◌, refl, sym, ap, subst, ◌∙◌}
use mathlib.Core.Bool.{Bool, true, false, cond, not, false≢true, ◌&&◌, ◌||◌}
use mathlib.Core.List.{List, [], ◌∷◌, ◌++◌, append-nil}
use borrow.Author.Tests.{eqb-true, not-false}
use lib.Dec.{eqb}
use lib.ListN.{drop, length, take, take-append-drop}
use lib.Seq.{drop-append_seam, take-append_seam}
use native.Mathlib.Omega.{arith}
use Rattle.lists.specs.All.{All}
use Rattle.statement.specs.Grammar.{Blank, Blanks, Gap}
use Rattle.statement.specs.Line.{after_word, is_blank, is_empty, not_blank, run, unindented, word}
use Rattle.statement.proofs.Contents.{Plain}

-- ---- two tests
pub both : (a b : Bool) → (a && b) ≡ true → (a ≡ true) × (b ≡ true)
both true b e = (refl, e)
both false b e = absurd (false≢true e)

-- ---- lists whose bytes all have a property
pub all_append : (P : ℕ → Type 0) (a b : List ℕ) → All P a → All P b → All P (a ++ b)
all_append P [] b s t = t
all_append P (x ∷ a) b s t = (s.0, all_append P a b s.1 t)

pub all_map : (P Q : ℕ → Type 0) → ((b : ℕ) → P b → Q b) → (l : List ℕ) → All P l → All Q l
all_map P Q f [] t = tt
all_map P Q f (x ∷ l) t = (f x t.0, all_map P Q f l t.1)

-- ---- the bytes at the start of a text that pass a test
module _ (p : ℕ → Bool) where
  abbrev pub Passes : List ℕ → Type 0
  Passes = All (λ b. p b ≡ true)

  -- the text is empty, or its first byte fails
  abbrev pub Stops : List ℕ → Type 0
  Stops l = run p l ≡ 0

  pub run_seam : (a b : List ℕ) → Passes a → Stops b → run p (a ++ b) ≡ length a
  run_seam [] b t s = s
  run_seam (x ∷ a) b t s = rw (t.0, run_seam a b t.1 s)

  pub run_passes : (l : List ℕ) → Passes (take (run p l) l)
  run_passes [] = tt
  run_passes (x ∷ l) = pick (p x) refl (run_passes l)
    where
      pick : (c : Bool) → p x ≡ c → Passes (take (run p l) l) → Passes (take (cond c (suc (run p l)) 0) (x ∷ l))
      pick true e t = (e, t)
      pick false e t = tt

  pub run_stops : (l : List ℕ) → Stops (drop (run p l) l)
  run_stops [] = refl
  run_stops (x ∷ l) = pick (p x) refl (run_stops l)
    where
      pick : (c : Bool) → p x ≡ c → Stops (drop (run p l) l) → Stops (drop (cond c (suc (run p l)) 0) (x ∷ l))
      pick true e s = s
      pick false e s = rw e

  pub run_stopped : (x : ℕ) (l : List ℕ) → Stops (x ∷ l) → p x ≡ false
  run_stopped x l s = pick (p x) refl
    where
      pick : (c : Bool) → p x ≡ c → c ≡ false
      pick true e = absurd (omega (arith, rw e at s))
      pick false e = refl

-- ---- blanks
pub is_blank_lem : {b : ℕ} → Blank b → is_blank b ≡ true
is_blank_lem Blank.space = refl
is_blank_lem Blank.tab = refl

pub blank_of : (b : ℕ) → is_blank b ≡ true → Blank b
blank_of b h = pick (eqb b 0x20) (eqb b 0x09) refl refl h
  where
    pick : (p q : Bool) → eqb b 0x20 ≡ p → eqb b 0x09 ≡ q → (p || q) ≡ true → Blank b
    pick true q e f g = rw (eqb-true b 0x20 e) Blank.space
    pick false true e f g = rw (eqb-true b 0x09 f) Blank.tab
    pick false false e f g = absurd (false≢true g)

pub are_blanks : {a : List ℕ} → Blanks a → Passes is_blank a
are_blanks Blanks.none = tt
are_blanks (Blanks.more b bs) = (is_blank_lem b, are_blanks bs)

pub blanks_of : (a : List ℕ) → Passes is_blank a → Blanks a
blanks_of [] t = Blanks.none
blanks_of (b ∷ bs) t = Blanks.more (blank_of b t.0) (blanks_of bs t.1)

pub gap_blanks : {a : List ℕ} → Gap a → Blanks a
gap_blanks (Gap.gap b bs) = Blanks.more b bs

-- a word ends where blanks begin
pub blanks_stop : {a : List ℕ} → Blanks a → Stops not_blank a
blanks_stop Blanks.none = refl
blanks_stop (Blanks.more b bs) = rw (is_blank_lem b)

pub gap_stops : {a : List ℕ} (r : List ℕ) → Gap a → Stops not_blank (a ++ r)
gap_stops r (Gap.gap b bs) = rw (is_blank_lem b)

-- ---- the word after blanks, and the rest
module _ {a : List ℕ} (w r : List ℕ) (blanks : Blanks a) (begins : Stops is_blank (w ++ r)) where
  pub unindented_at : unindented (a ++ (w ++ r)) ≡ w ++ r
  unindented_at = rw (run_seam is_blank a (w ++ r) (are_blanks blanks) begins, drop-append_seam a (w ++ r))

  module _ (inside : Passes not_blank w) (ends : Stops not_blank r) where
    pub word_at : word (a ++ (w ++ r)) ≡ w
    unfolding word
    word_at = rw (unindented_at, run_seam not_blank w r inside ends, take-append_seam w r)

    pub after_at : after_word (a ++ (w ++ r)) ≡ r
    unfolding after_word
    after_at = rw (unindented_at, run_seam not_blank w r inside ends, drop-append_seam w r)

-- ---- keywords and numbers are such words
-- a byte of a keyword or of a number
abbrev pub InWord : ℕ → Type 0
InWord b = (is_blank b ≡ false) × Plain b

pub record Word (w : List ℕ) : Type 0 where
  pub some : is_empty w ≡ false
  pub each : All InWord w

word_begins : (w r : List ℕ) → Word w → Stops is_blank (w ++ r)
word_begins [] r h = absurd (false≢true (sym h.some))
word_begins (b ∷ w) r h = rw h.each.0.0

word_inside : (w : List ℕ) → Word w → Passes not_blank w
word_inside w h = all_map InWord (λ b. not_blank b ≡ true) (λ b i. ap not i.0) w h.each

module _ {a w : List ℕ} (r : List ℕ) (blanks : Blanks a) (h : Word w) (ends : Stops not_blank r) where
  pub word_is : word (a ++ (w ++ r)) ≡ w
  word_is = word_at w r blanks (word_begins w r h) (word_inside w h) ends

  pub after_is : after_word (a ++ (w ++ r)) ≡ r
  after_is = after_at w r blanks (word_begins w r h) (word_inside w h) ends

-- no byte of them ends the content of a line, and no blank does
pub word_plain : (w : List ℕ) → Word w → All Plain w
word_plain w h = all_map InWord Plain (λ b i. i.1) w h.each

blank_plain : {b : ℕ} → Blank b → Plain b
blank_plain Blank.space = (refl, refl)
blank_plain Blank.tab = (refl, refl)

pub blanks_plain : {a : List ℕ} → Blanks a → All Plain a
blanks_plain Blanks.none = tt
blanks_plain (Blanks.more b bs) = (blank_plain b, blanks_plain bs)

-- blanks alone have no word
pub no_word : {a : List ℕ} → Blanks a → word a ≡ []
no_word {a} b = ap word (sym (append-nil a)) ∙ word_at [] [] b refl tt refl

-- ---- every text is such a split
abbrev pub indent : List ℕ → List ℕ
indent s = take (run is_blank s) s

pub indent_blanks : (s : List ℕ) → Blanks (indent s)
indent_blanks s = blanks_of (indent s) (run_passes is_blank s)

pub split : (s : List ℕ) → indent s ++ (word s ++ after_word s) ≡ s
unfolding word after_word
split s = rw (take-append-drop (run not_blank (unindented s)) (unindented s)) (take-append-drop (run is_blank s) s)

pub word_stops : (s : List ℕ) → Stops not_blank (after_word s)
unfolding after_word
word_stops s = run_stops not_blank (unindented s)

-- a text without a word is blanks alone
pub blanks_alone : (s : List ℕ) → is_empty (word s) ≡ true → Blanks s
unfolding word
blanks_alone s h =
    let whole : indent s ++ [] ≡ s = rw (none_left (unindented s) (run_stops is_blank s) h) at (take-append-drop (run is_blank s) s) in
    subst Blanks (sym (append-nil (indent s)) ∙ whole) (indent_blanks s)
  where
    none_left : (l : List ℕ) → Stops is_blank l → is_empty (take (run not_blank l) l) ≡ true → l ≡ []
    none_left [] e f = refl
    none_left (b ∷ l) e f = absurd (false≢true (rw (run_stopped is_blank b l e) at f))

-- a word after the end of another stands after a gap
pub gap_of : (s : List ℕ) → Stops not_blank s → is_empty (word s) ≡ false → Gap (indent s)
unfolding word
gap_of [] e f = absurd (false≢true (sym f))
gap_of (b ∷ s) e f =
    let g : is_blank b ≡ true = not-false (is_blank b) (run_stopped not_blank b s e) in
    rw g (Gap.gap (blank_of b g) (indent_blanks s))
