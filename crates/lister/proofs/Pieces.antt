-- The pieces of a line, put one after the other: spaces, accesses and statements. Also that a text that fits is written completely.
use Prim.Native.Nat.{ℕ, ◌+◌, ◌≤◌}
use mathlib.Core.Path.{◌≡◌, refl, ap, ◌∙◌}
use mathlib.Core.List.{List, [], ◌∷◌}
use native.Mathlib.Numerals.{add-one}
use native.Mathlib.Omega.{arith}
use borrow.Author.Tests.{lt-ltb}
use lib.ListN.{length, length-set, replicate, set}
use lib.Seq.{sets, sets-eq}
use Rattle.std.proofs.lemmas.List.{replicate-append-replicate}
use Rattle.digits.proofs.Writes.{writes_twice}
use Rattle.digits.specs.Text.{Line, line_at, put, puts}
use Rattle.digits.specs.Written.{writes}
use Rattle.digits.specs.declared.Writer.{Writer}
use Rattle.record.specs.declared.Record.{Record}
use Rattle.statement.specs.Grammar.{if_word, read_word, write_word}
use Rattle.lister.specs.Listing.{access_text, access_value_text, statement_text, with_text}

pub next_space : (w : Writer) (k : ℕ) → writes (0x20 ∷ []) (writes (replicate k 0x20) w) ≡ writes (replicate (k + 1) 0x20) w
next_space w k = rw (writes_twice, ← replicate-append-replicate {A = ℕ} k 1 0x20) refl

-- a statement with an access: its word, and then the access
module _ (w : Writer) (r : Record) where
  pub write_put : r.kind ≡ 1 → writes (access_value_text r) (writes write_word w) ≡ writes (statement_text r) w
  unfolding statement_text
  write_put k = writes_twice w write_word (access_value_text r) ∙ (rw k)

  pub read_put : r.kind ≡ 2 → writes (access_text r) (writes read_word w) ≡ writes (statement_text r) w
  unfolding statement_text
  read_put k = writes_twice w read_word (access_text r) ∙ (rw k)

  pub if_put : r.kind ≡ 5 → writes (access_value_text r) (writes if_word w) ≡ writes (statement_text r) w
  unfolding statement_text
  if_put k = writes_twice w if_word (access_value_text r) ∙ (rw k)

-- ---- a text that fits is in the front of the buffer, and the rest of the buffer is as it was
puts_sets : (xs : List ℕ) (l : Line) → l.at + length xs ≤ length l.text → (puts xs l).text ≡ sets l.text l.at xs
unfolding put
puts_sets [] l h = refl
puts_sets (x ∷ xs) l h =
    let next = line_at (set l.text l.at x) (l.at + 1) in
    let p : put x l ≡ next = rw (lt-ltb l.at (length l.text) (omega (arith, h))) in
    let s = length-set l.text l.at x in
    ap (λ (m : Line). (puts xs m).text) p
    ∙ puts_sets xs next (rw s (omega (arith, h)))
    ∙ ap (λ (k : ℕ). sets (set l.text l.at x) k xs) (add-one l.at)

pub put_in_front : (xs buffer : List ℕ) → length xs ≤ length buffer → (puts xs (line_at buffer 0)).text ≡ with_text xs buffer
unfolding with_text
put_in_front xs buffer h =
    let z : 0 + length xs ≡ length xs = omega arith in
    puts_sets xs (line_at buffer 0) (omega arith) ∙ sets-eq xs buffer 0 (omega arith) ∙ (rw z)
