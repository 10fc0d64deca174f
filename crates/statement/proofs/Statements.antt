-- A statement is a keyword and the numbers that its kind asks for, each after a gap. Both ways: such a text is read word by word, with the kind of
-- the keyword and the values of the numbers, and a text that is read in this way is a statement of the grammar.
use Prim.Native.Nat.{ℕ, zero, suc}
use mathlib.Core.Path.{◌≡◌, refl, subst}
use mathlib.Core.Bool.{Bool, true, false, cond, not, false≢true, true≢false}
use mathlib.Core.List.{List, [], ◌∷◌, ◌++◌, append_assoc}
use borrow.Author.Tests.{eqb-true, not-true}
use lib.Dec.{eqb}
use lib.ListN.{length}
use Rattle.lists.specs.All.{All}
use Rattle.record.specs.declared.Record.{Record}
use Rattle.script.specs.Nested.{script_record}
use Rattle.statement.specs.Grammar.{Blanks, Gap, Number, Statement, delay_word, else_word, end_word, if_word, read_word, repeat_word, write_word}
use Rattle.statement.specs.Line.{after_word, are_operands, is_empty, is_number, is_statement, kind_of, not_blank, operand_count, operands, record_with, same_word, statement_record, word}
use Rattle.statement.proofs.Contents.{Plain}
use Rattle.statement.proofs.Numbers.{number_of, number_read}
use Rattle.statement.proofs.Words.{Stops, Word, after_is, all_append, blanks_alone, blanks_plain, blanks_stop, both, gap_blanks, gap_of, gap_stops, no_word, split, word_is, word_plain, word_stops}

-- ---- the numbers of a statement, with their values
-- each number stands after a gap, and blanks may follow the last
pub data Operands : (text values : List ℕ) → Type 0 where
  none : {b : List ℕ} → Blanks b → Operands b []
  more : {g w s ns : List ℕ} {n : ℕ} → Gap g → Number w n → Operands s ns → Operands (g ++ (w ++ s)) (n ∷ ns)

-- they are read, with these values, and no byte of them ends the content of a line
record Taken (s ns : List ℕ) : Type 0 where
  stop : Stops not_blank s
  plain : All Plain s
  are : are_operands (length ns) s ≡ true
  values : operands (length ns) s ≡ ns

taken : {s ns : List ℕ} → Operands s ns → Taken s ns
taken (Operands.none b) = record { stop = blanks_stop b; plain = blanks_plain b; are = rw (no_word b); values = refl }
taken (Operands.more {g = a} {w} {s} g n o) =
    let i = taken o in
    let r = number_read n in
    let at = word_is s (gap_blanks g) r.is_word i.stop in
    let after = after_is s (gap_blanks g) r.is_word i.stop in
    record {
      stop = gap_stops (w ++ s) g;
      plain = all_append Plain a (w ++ s) (blanks_plain (gap_blanks g)) (all_append Plain w s (word_plain w r.is_word) i.plain);
      are = rw (at, after, r.is_number_lem) i.are;
      values = rw (at, after, r.value, i.values);
    }

pub operands_of : (n : ℕ) (s : List ℕ) → Stops not_blank s → are_operands n s ≡ true → Operands s (operands n s)
operands_of zero s e h = Operands.none (blanks_alone s h)
operands_of (suc n) s e h =
    let p = both (is_number (word s)) (are_operands n (after_word s)) h in
    let number = number_of (word s) p.0 in
    let gap = gap_of s e (number_read number).is_word.some in
    subst (λ (t : List ℕ). Operands t (operands (suc n) s)) (split s)
    (Operands.more gap number (operands_of n (after_word s) (word_stops s) p.1))

-- ---- keywords, with their kinds
pub data Keyword : (word : List ℕ) (kind : ℕ) → Type 0 where
  write : Keyword write_word 1
  read : Keyword read_word 2
  delay : Keyword delay_word 3
  repeat : Keyword repeat_word 4
  if : Keyword if_word 5
  else : Keyword else_word 6
  end : Keyword end_word 7

-- a keyword is a word, and `kind_of` returns its kind, which is not 0
record Key (w : List ℕ) (k : ℕ) : Type 0 where
  is_word : Word w
  kind : kind_of w ≡ k
  known : eqb k 0 ≡ false

-- each field holds by computation
key : {w : List ℕ} {k : ℕ} → Keyword w k → Key w k
unfolding kind_of
key Keyword.write = search
key Keyword.read = search
key Keyword.delay = search
key Keyword.repeat = search
key Keyword.if = search
key Keyword.else = search
key Keyword.end = search

-- a word that has a kind is its keyword
pub same_word_lem : (a b : List ℕ) → same_word a b ≡ true → a ≡ b
same_word_lem [] [] h = refl
same_word_lem [] (y ∷ b) h = absurd (false≢true h)
same_word_lem (x ∷ a) [] h = absurd (false≢true h)
same_word_lem (x ∷ a) (y ∷ b) h =
    let p = both (eqb x y) (same_word a b) h in
    rw (eqb-true x y p.0, same_word_lem a b p.1)

module _ (w : List ℕ) where
  choice : (keyword : List ℕ) (k other : ℕ) → Keyword keyword k → (eqb other 0 ≡ false → Keyword w other)
      → eqb (cond (same_word w keyword) k other) 0 ≡ false → Keyword w (cond (same_word w keyword) k other)
  choice keyword k other here there = pick (same_word w keyword) refl
    where
      pick : (p : Bool) → same_word w keyword ≡ p → eqb (cond p k other) 0 ≡ false → Keyword w (cond p k other)
      pick true e h = rw (same_word_lem w keyword e) here
      pick false e h = there h

  pub keyword_of : eqb (kind_of w) 0 ≡ false → Keyword w (kind_of w)
  unfolding kind_of
  keyword_of =
      choice write_word 1 _ Keyword.write
      (choice read_word 2 _ Keyword.read
      (choice delay_word 3 _ Keyword.delay
      (choice repeat_word 4 _ Keyword.repeat
      (choice if_word 5 _ Keyword.if
      (choice else_word 6 _ Keyword.else (choice end_word 7 _ Keyword.end (λ h. absurd (true≢false h))))))))

-- ---- a statement of the grammar is read
pub record Reading (s : List ℕ) (r : Record) : Type 0 where
  pub some : is_empty (word s) ≡ false
  pub is_statement_lem : is_statement s ≡ true
  pub means : statement_record s ≡ r
  pub plain : All Plain s

-- blanks, a keyword and its numbers
reading : {a w t ns : List ℕ} {k : ℕ} → Blanks a → Keyword w k → Operands t ns → operand_count k ≡ length ns
    → Reading (a ++ (w ++ t)) (record_with k ns)
unfolding is_statement statement_record
reading {a} {w} {t} blanks keyword o count =
    let k = key keyword in
    let i = taken o in
    let at = word_is t blanks k.is_word i.stop in
    let after = after_is t blanks k.is_word i.stop in
    record {
      some = rw at k.is_word.some;
      is_statement_lem = rw (at, after, k.kind, k.known, count) i.are;
      means = rw (at, after, k.kind, count, i.values);
      plain = all_append Plain a (w ++ t) (blanks_plain blanks) (all_append Plain w t (word_plain w k.is_word) i.plain);
    }

pub statement_read : {a s b : List ℕ} {r : Record} → Blanks a → Statement s r → Blanks b → Reading (a ++ (s ++ b)) r
unfolding operand_count
statement_read x (Statement.write a w b p c v) y =
    simp append_assoc (reading x Keyword.write (Operands.more a w (Operands.more b p (Operands.more c v (Operands.none y)))) refl)
statement_read x (Statement.read a w b p) y =
    simp append_assoc (reading x Keyword.read (Operands.more a w (Operands.more b p (Operands.none y))) refl)
statement_read x (Statement.delay a n) y = simp append_assoc (reading x Keyword.delay (Operands.more a n (Operands.none y)) refl)
statement_read x (Statement.repeat a n) y = simp append_assoc (reading x Keyword.repeat (Operands.more a n (Operands.none y)) refl)
statement_read x (Statement.if a w b p c v) y =
    simp append_assoc (reading x Keyword.if (Operands.more a w (Operands.more b p (Operands.more c v (Operands.none y)))) refl)
statement_read x Statement.else y = reading x Keyword.else (Operands.none y) refl
statement_read x Statement.end y = reading x Keyword.end (Operands.none y) refl

-- ---- a text that is read is a statement of the grammar, perhaps with blanks after it
pub data Said : List ℕ → Record → Type 0 where
  said : {s b : List ℕ} {r : Record} → Statement s r → Blanks b → Said (s ++ b) r

write_said : {t : List ℕ} {x y z : ℕ} → Operands t (x ∷ y ∷ z ∷ []) → Said (write_word ++ t) (script_record 1 x y z)
write_said (Operands.more a w (Operands.more b p (Operands.more c v (Operands.none e)))) =
    simp append_assoc at (Said.said (Statement.write a w b p c v) e)

read_said : {t : List ℕ} {x y : ℕ} → Operands t (x ∷ y ∷ []) → Said (read_word ++ t) (script_record 2 x y 0)
read_said (Operands.more a w (Operands.more b p (Operands.none e))) =
    simp append_assoc at (Said.said (Statement.read a w b p) e)

delay_said : {t : List ℕ} {x : ℕ} → Operands t (x ∷ []) → Said (delay_word ++ t) (script_record 3 0 0 x)
delay_said (Operands.more a n (Operands.none e)) = simp append_assoc at (Said.said (Statement.delay a n) e)

repeat_said : {t : List ℕ} {x : ℕ} → Operands t (x ∷ []) → Said (repeat_word ++ t) (script_record 4 0 0 x)
repeat_said (Operands.more a n (Operands.none e)) = simp append_assoc at (Said.said (Statement.repeat a n) e)

if_said : {t : List ℕ} {x y z : ℕ} → Operands t (x ∷ y ∷ z ∷ []) → Said (if_word ++ t) (script_record 5 x y z)
if_said (Operands.more a w (Operands.more b p (Operands.more c v (Operands.none e)))) =
    simp append_assoc at (Said.said (Statement.if a w b p c v) e)

else_said : {t : List ℕ} → Operands t [] → Said (else_word ++ t) (script_record 6 0 0 0)
else_said (Operands.none e) = Said.said Statement.else e

end_said : {t : List ℕ} → Operands t [] → Said (end_word ++ t) (script_record 7 0 0 0)
end_said (Operands.none e) = Said.said Statement.end e

keyword_said : {w t : List ℕ} {k : ℕ} (s : List ℕ) → Keyword w k → Operands t (operands (operand_count k) s)
    → Said (w ++ t) (record_with k (operands (operand_count k) s))
unfolding operand_count
keyword_said s Keyword.write o = write_said o
keyword_said s Keyword.read o = read_said o
keyword_said s Keyword.delay o = delay_said o
keyword_said s Keyword.repeat o = repeat_said o
keyword_said s Keyword.if o = if_said o
keyword_said s Keyword.else o = else_said o
keyword_said s Keyword.end o = end_said o

pub statement_said : (s : List ℕ) → is_statement s ≡ true → Said (word s ++ after_word s) (statement_record s)
unfolding is_statement statement_record
statement_said s h =
    let k = kind_of (word s) in
    let p = both (not (eqb k 0)) (are_operands (operand_count k) (after_word s)) h in
    keyword_said (after_word s) (keyword_of (word s) (not-true (eqb k 0) p.0))
    (operands_of (operand_count k) (after_word s) (word_stops s) p.1)
