-- The grammar of a text script: its lines, with the records that they mean. See docs/TEXT.md, "The grammar".
-- "text = { line LF } [ line ]"
use Rattle.std.specs.Prelude.{ℕ, ◌≡◌, List, [], ◌∷◌, ◌++◌}
use Rattle.lists.specs.All.{All}
use Rattle.record.specs.declared.Record.{Record}
use Rattle.statement.specs.Grammar.{Line}

-- a line has no LF in it
abbrev pub NoLineFeed : List ℕ → Type 0
NoLineFeed = All (λ b. b ≡ 0x0A → ⊥)

-- the lines of a text: "Lines end at a line feed or the text's end". The line feed is not part of a line, everything else is, also a comment
pub data Lines : List ℕ → List (List ℕ) → Type 0 where
  end : Lines [] []
  last : {b : ℕ} {bs : List ℕ} → NoLineFeed (b ∷ bs) → Lines (b ∷ bs) ((b ∷ bs) ∷ [])
  line : {l t : List ℕ} {ls : List (List ℕ)} → NoLineFeed l → Lines t ls → Lines (l ++ (0x0A ∷ t)) (l ∷ ls)

-- The last line may lack its LF. It is then not empty: "A text that ends with LF has no further line after it"
pub data Text : List ℕ → List Record → Type 0 where
  end : Text [] []
  last : {b : ℕ} {bs : List ℕ} {rs : List Record} → Line (b ∷ bs) rs → NoLineFeed (b ∷ bs) → Text (b ∷ bs) rs
  line : {l t : List ℕ} {rs ss : List Record} → Line l rs → NoLineFeed l → Text t ss → Text (l ++ (0x0A ∷ t)) (rs ++ ss)
