-- A line is its content, a comment or none, and a carriage return or none. `content` returns the first of them for every such split, because it
-- leaves out the last byte if it is a carriage return, and stops at the first semicolon.
use Prim.Native.Nat.{ℕ, suc, ◌-◌}
use mathlib.Core.Path.{◌≡◌, refl, ap, ◌∙◌}
use mathlib.Core.Bool.{Bool, true, false, cond}
use mathlib.Core.List.{List, [], ◌∷◌, ◌++◌, append-nil}
use borrow.Author.Tests.{eqb-true}
use lib.Dec.{eqb}
use lib.ListN.{get_or, length, take}
use native.Mathlib.Omega.{arith}
use Rattle.lists.specs.All.{All}
use Rattle.statement.specs.Grammar.{Comment, Return}
use Rattle.statement.specs.Line.{before_return, content, last_byte, not_semicolon, run}

-- neither a semicolon nor a carriage return
abbrev pub Plain : ℕ → Type 0
Plain b = (eqb b 0x3B ≡ false) × (eqb b 0x0D ≡ false)

-- ---- one more byte at the start of a line
pub last_cons : (b c : ℕ) (bs : List ℕ) → last_byte (b ∷ c ∷ bs) ≡ last_byte (c ∷ bs)
last_cons b c bs =
    let e : suc (suc (length bs)) - 1 ≡ suc (length bs) = omega arith in
    let f : length bs ≡ suc (length bs) - 1 = omega arith in
    ap (λ (n : ℕ). get_or (b ∷ c ∷ bs) n 0) e ∙ ap (λ (n : ℕ). get_or (c ∷ bs) n 0) f

before_cons : (b c : ℕ) (bs : List ℕ) → before_return (b ∷ c ∷ bs) ≡ suc (before_return (c ∷ bs))
before_cons b c bs =
    let n = length (c ∷ bs) in
    ap (λ (x : ℕ). cond (eqb x 0x0D) (suc n - 1) (suc n)) (last_cons b c bs) ∙ pick (eqb (last_byte (c ∷ bs)) 0x0D)
  where
    pick : (p : Bool) → cond p (suc (length (c ∷ bs)) - 1) (suc (length (c ∷ bs))) ≡ suc (cond p (length (c ∷ bs) - 1) (length (c ∷ bs)))
    pick true = omega arith
    pick false = refl

content_cons : (b : ℕ) (bs : List ℕ) → eqb b 0x3B ≡ false → before_return (b ∷ bs) ≡ suc (before_return bs)
    → content (b ∷ bs) ≡ b ∷ content bs
unfolding content
content_cons b bs e f = ap (λ (n : ℕ). take (run not_semicolon (take n (b ∷ bs))) (b ∷ bs)) f ∙ rw e

content_plain : (b : ℕ) (bs : List ℕ) → Plain b → content (b ∷ bs) ≡ b ∷ content bs
content_plain b [] p = content_cons b [] p.0 (rw p.1)
content_plain b (c ∷ bs) p = content_cons b (c ∷ bs) p.0 (before_cons b c bs)

-- ---- the content of a line that is split
content_front : (a r : List ℕ) → All Plain a → content (a ++ r) ≡ a ++ content r
content_front [] r t = refl
content_front (b ∷ a) r t = content_plain b (a ++ r) t.0 ∙ ap (λ (l : List ℕ). b ∷ l) (content_front a r t.1)

comment_content : (bs : List ℕ) → content (0x3B ∷ bs) ≡ []
unfolding content
comment_content bs = at (before_return (0x3B ∷ bs))
  where
    at : (n : ℕ) → take (run not_semicolon (take n (0x3B ∷ bs))) (0x3B ∷ bs) ≡ []
    at ℕ.zero = refl
    at (suc n) = refl

end_content : {c e : List ℕ} → Comment c → Return e → content (c ++ e) ≡ []
unfolding content
end_content Comment.none Return.none = refl
end_content Comment.none Return.return = refl
end_content {e} (Comment.comment bytes) r = comment_content (bytes ++ e)

pub content_at : (a : List ℕ) {c e : List ℕ} → All Plain a → Comment c → Return e → content (a ++ (c ++ e)) ≡ a
content_at a {c} {e} t h r = content_front a (c ++ e) t ∙ rw (end_content h r) (append-nil a)

-- ---- every line is such a split
pub record Ending (l : List ℕ) : Type 0 where
  pub comment : List ℕ
  pub return : List ℕ
  pub is_comment : Comment comment
  pub is_return : Return return
  pub whole : content l ++ (comment ++ return) ≡ l

at_comment : (b : ℕ) (bs : List ℕ) → b ≡ 0x3B → Ending (b ∷ bs)
at_comment b bs e =
    rw e
    (record {
      comment = 0x3B ∷ bs;
      return = [];
      is_comment = Comment.comment bs;
      is_return = Return.none;
      whole = rw (comment_content bs) (append-nil (0x3B ∷ bs));
    })

at_return : (b : ℕ) → b ≡ 0x0D → Ending (b ∷ [])
unfolding content
at_return b e =
    rw e (record { comment = []; return = 0x0D ∷ []; is_comment = Comment.none; is_return = Return.return; whole = refl })

one_more : (b : ℕ) (bs : List ℕ) → content (b ∷ bs) ≡ b ∷ content bs → Ending bs → Ending (b ∷ bs)
one_more b bs e r =
    record {
      comment = r.comment;
      return = r.return;
      is_comment = r.is_comment;
      is_return = r.is_return;
      whole = rw e (ap (λ (l : List ℕ). b ∷ l) r.whole);
    }

pub ending : (l : List ℕ) → Ending l
unfolding content
ending [] = record { comment = []; return = []; is_comment = Comment.none; is_return = Return.none; whole = refl }
ending (b ∷ []) = pick (eqb b 0x3B) (eqb b 0x0D) refl refl (ending [])
  where
    pick : (p q : Bool) → eqb b 0x3B ≡ p → eqb b 0x0D ≡ q → Ending [] → Ending (b ∷ [])
    pick true q e f r = at_comment b [] (eqb-true b 0x3B e)
    pick false true e f r = at_return b (eqb-true b 0x0D f)
    pick false false e f r = one_more b [] (content_plain b [] (e, f)) r
ending (b ∷ c ∷ bs) = pick (eqb b 0x3B) refl (ending (c ∷ bs))
  where
    pick : (p : Bool) → eqb b 0x3B ≡ p → Ending (c ∷ bs) → Ending (b ∷ c ∷ bs)
    pick true e r = at_comment b (c ∷ bs) (eqb-true b 0x3B e)
    pick false e r = one_more b (c ∷ bs) (content_cons b (c ∷ bs) e (before_cons b c bs)) r
