-- The kind of a keyword: the first word that it is the same as. There is a law for each keyword, and one for any other word.
use Prim.Native.Nat.{ℕ}
use mathlib.Core.Path.{◌≡◌}
use mathlib.Core.Bool.{true, false}
use mathlib.Core.List.{List}
use Rattle.statement.specs.Grammar.{delay_word, else_word, end_word, if_word, read_word, repeat_word, write_word}
use Rattle.statement.specs.Line.{kind_of, same_word}

module _ (w : List ℕ) where
  pub write_kind : same_word w write_word ≡ true → ◌≡◌ {A = ℕ} 1 (kind_of w)
  unfolding kind_of
  write_kind a = rw (a)

  pub read_kind : same_word w write_word ≡ false → same_word w read_word ≡ true → ◌≡◌ {A = ℕ} 2 (kind_of w)
  unfolding kind_of
  read_kind a b = rw (a, b)

  pub delay_kind : same_word w write_word ≡ false → same_word w read_word ≡ false → same_word w delay_word ≡ true → ◌≡◌ {A = ℕ} 3 (kind_of w)
  unfolding kind_of
  delay_kind a b c = rw (a, b, c)

  pub repeat_kind : same_word w write_word ≡ false → same_word w read_word ≡ false → same_word w delay_word ≡ false → same_word w repeat_word ≡ true → ◌≡◌ {A = ℕ} 4 (kind_of w)
  unfolding kind_of
  repeat_kind a b c d = rw (a, b, c, d)

  pub if_kind : same_word w write_word ≡ false → same_word w read_word ≡ false → same_word w delay_word ≡ false → same_word w repeat_word ≡ false → same_word w if_word ≡ true → ◌≡◌ {A = ℕ} 5 (kind_of w)
  unfolding kind_of
  if_kind a b c d e = rw (a, b, c, d, e)

  pub else_kind : same_word w write_word ≡ false → same_word w read_word ≡ false → same_word w delay_word ≡ false → same_word w repeat_word ≡ false → same_word w if_word ≡ false → same_word w else_word ≡ true → ◌≡◌ {A = ℕ} 6 (kind_of w)
  unfolding kind_of
  else_kind a b c d e f = rw (a, b, c, d, e, f)

  pub end_kind : same_word w write_word ≡ false → same_word w read_word ≡ false → same_word w delay_word ≡ false → same_word w repeat_word ≡ false → same_word w if_word ≡ false → same_word w else_word ≡ false → same_word w end_word ≡ true → ◌≡◌ {A = ℕ} 7 (kind_of w)
  unfolding kind_of
  end_kind a b c d e f g = rw (a, b, c, d, e, f, g)

  pub no_keyword : same_word w write_word ≡ false → same_word w read_word ≡ false → same_word w delay_word ≡ false → same_word w repeat_word ≡ false → same_word w if_word ≡ false → same_word w else_word ≡ false → same_word w end_word ≡ false → ◌≡◌ {A = ℕ} 0 (kind_of w)
  unfolding kind_of
  no_keyword a b c d e f g = rw (a, b, c, d, e, f, g)
