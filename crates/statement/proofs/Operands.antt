-- The numbers of a statement, read one after the other. A keyword has at most three. The laws at the end say the same of three places that are tried
-- one after the other, each only if a number is wanted there.
use Prim.Native.Nat.{ℕ, zero, suc, ◌+◌, ◌-◌, ◌≤◌, ◌<◌}
use mathlib.Core.Path.{◌≡◌, refl, sym, ◌∙◌}
use mathlib.Core.Bool.{Bool, true, false, cond, ◌&&◌, ◌||◌}
use mathlib.Core.List.{List, [], ◌∷◌, ◌++◌, append_assoc, append-nil, map}
use native.Mathlib.Omega.{arith}
use borrow.Author.Tests.{ne_eqb}
use lib.Dec.{eqb, ltb}
use lib.ListN.{length, length-append, set}
use Rattle.mask.proofs.Every.{both}
use Rattle.outcome.specs.Number as number
use Rattle.outcome.specs.Refused.{refusal_number}
use Rattle.outcome.specs.declared.RefusalKind.{RefusalKind}
use Rattle.outcome.specs.declared.RefusalKind.TheVariants.{NotInGrammar}
use Rattle.script.specs.Kind as kind
use Rattle.script.specs.Nested.{script_record}
use Rattle.script.specs.Kinds.{kind_number}
use Rattle.script.specs.declared.kind.RecordKind.{RecordKind}
use Rattle.script.specs.declared.kind.RecordKind.TheVariants.{Delay, Else, End, If, Read, Repeat, Write}
use Rattle.statement.specs.Found.{operands_found, three}
use Rattle.statement.specs.Line.{Number, after_word, are_operands, capped, has_count, is_empty, is_number, is_statement, kind_of, number_if, number_in, operand_count, operands, record_with, refused, result_of, statement_record, statement_result, value_of, word}
use Rattle.std.specs.Prelude.{Err, None, Option, Some}
use Rattle.std.specs.Option.{ok_or}
use Rattle.statement.proofs.Fields.{stop_operands}
use Rattle.statement.proofs.Stopped.{capped_small}

-- ---- the loop that reads the numbers: `read` has those that were read, and the others are in `rest`
pub record Reading (n : ℕ) (s : List ℕ) (k : ℕ) (values rest : List ℕ) : Type 0 where
  pub read : List ℕ
  pub count : length read ≡ k
  pub array : values ≡ three read
  pub all : are_operands (n - k) rest ≡ are_operands n s
  pub whole : read ++ map capped (operands (n - k) rest) ≡ map capped (operands n s)

pub at_start : (n : ℕ) (s : List ℕ) → Reading n s 0 (0 ∷ 0 ∷ 0 ∷ []) s
at_start n s =
    let z : n - 0 ≡ n = omega arith in
    record { read = []; count = refl; array = refl; all = rw z; whole = rw z }

set_three : (vs : List ℕ) (v : ℕ) → length vs < 3 → set (three vs) (length vs) v ≡ three (vs ++ v ∷ [])
set_three [] v h = refl
set_three (a ∷ []) v h = refl
set_three (a ∷ b ∷ []) v h = refl
set_three (a ∷ b ∷ c ∷ vs) v h = absurd (omega (arith, h))

module _ (n : ℕ) (s : List ℕ) (k : ℕ) (values rest : List ℕ) (r : Reading n s k values rest) where
  module _ (h : k < n) where
    left : n - k ≡ suc (n - (k + 1))
    left = omega (arith, h)

    pub one_more : (v : ℕ) → n ≤ 3 → is_number (word rest) ≡ true → v ≡ capped (value_of (word rest))
        → Reading n s (k + 1) (set values k v) (after_word rest)
    one_more v few a e =
        let m = n - (k + 1) in
        let c = r.count in
        let l = length-append r.read (v ∷ []) in
        record {
          read = r.read ++ v ∷ [];
          count = omega (arith, l, c);
          array = rw (r.array, ← c) (set_three r.read v (omega (arith, c, h, few)));
          all = rw (left, a) at r.all;
          whole = rw (append_assoc r.read (v ∷ []) (map capped (operands m (after_word rest))), e) (rw left at r.whole);
        }

    pub no_more : is_number (word rest) ≡ false → None ≡ operands_found n s
    no_more a = let f = rw (left, a) at r.all in rw (sym f)

  module _ (h : n ≤ k) where
    none : n - k ≡ 0
    none = omega (arith, h)

    pub more_left : is_empty (word rest) ≡ false → None ≡ operands_found n s
    more_left a = let f = rw (none, a) at r.all in rw (sym f)

    pub all_read : is_empty (word rest) ≡ true → Some values ≡ operands_found n s
    all_read a =
        let f = rw (none, a) at r.all in
        let w = rw none at r.whole in
        rw (sym f, r.array, ← w, append-nil)

few_operands : (k : ℕ) → operand_count k ≤ 3
unfolding operand_count
few_operands k = pick (eqb k kind.write || eqb k kind.if) (eqb k kind.read) (has_count k)
  where
    pick : (a b c : Bool) → cond a 3 (cond b 2 (cond c 1 0)) ≤ 3
    pick true b c = omega arith
    pick false true c = omega arith
    pick false false true = omega arith
    pick false false false = omega arith

pub few : (k n : ℕ) → n ≡ operand_count k → n ≤ 3
few k n e = let f = few_operands k in omega (arith, e, f)

-- ---- the result of a statement whose first word is not empty
pub kind_some : (k : RecordKind) → kind_number k ≡ 0 → ⊥
kind_some Write e = omega (arith, e)
kind_some Read e = omega (arith, e)
kind_some Delay e = omega (arith, e)
kind_some Repeat e = omega (arith, e)
kind_some If e = omega (arith, e)
kind_some Else e = omega (arith, e)
kind_some End e = omega (arith, e)

-- numbers that are not wanted are 0
same_result : (k n : ℕ) → n ≤ 3 → (s : List ℕ)
    → result_of (record_with k (three (map capped (operands n s)))) ≡ result_of (record_with k (operands n s))
same_result k zero h s = refl
same_result k (suc zero) h s =
    let z = capped_small 0 (omega arith) in
    rw z at (stop_operands k (value_of (word s)) 0 0)
same_result k (suc (suc zero)) h s =
    let z = capped_small 0 (omega arith) in
    rw z at (stop_operands k (value_of (word s)) (value_of (word (after_word s))) 0)
same_result k (suc (suc (suc zero))) h s =
    stop_operands k (value_of (word s)) (value_of (word (after_word s))) (value_of (word (after_word (after_word s))))
same_result k (suc (suc (suc (suc n)))) h s = absurd (omega (arith, h))

module _ (s : List ℕ) where
  pub no_statement : is_empty (word s) ≡ true → refused 0 ≡ statement_result s
  unfolding statement_result
  no_statement e = rw e

  module _ (some : is_empty (word s) ≡ false) where
    pub unknown : 0 ≡ kind_of (word s) → refused number.not_in_grammar ≡ statement_result s
    unfolding statement_result is_statement
    unknown z = rw (some, ← z)

    module _ (k : ℕ) (named : k ≡ kind_of (word s)) (known : k ≡ 0 → ⊥) (n : ℕ) (counted : n ≡ operand_count k) where
      is_statement_lem : is_statement s ≡ are_operands n (after_word s)
      unfolding is_statement
      is_statement_lem = rw (← named, ne_eqb k 0 known, counted)

      pub no_operands : None ≡ operands_found n (after_word s) → refused number.not_in_grammar ≡ statement_result s
      unfolding statement_result
      no_operands e = rw (some, is_statement_lem) (pick (are_operands n (after_word s)) e)
        where
          pick : (t : Bool) → None ≡ cond t (Some (three (map capped (operands n (after_word s))))) None
              → refused number.not_in_grammar ≡ cond t (result_of (statement_record s)) (refused number.not_in_grammar)
          pick true f = cc
          pick false f = refl

      pub statement : (vs : List ℕ) → Some vs ≡ operands_found n (after_word s) → result_of (record_with k (three vs)) ≡ statement_result s
      unfolding statement_result statement_record
      statement vs e = rw (some, is_statement_lem, ← named, ← counted) (pick (are_operands n (after_word s)) e)
        where
          pick : (t : Bool) → Some vs ≡ cond t (Some (three (map capped (operands n (after_word s))))) None
              → result_of (record_with k (three vs))
              ≡ cond t (result_of (record_with k (operands n (after_word s)))) (refused number.not_in_grammar)
          pick true f =
              let v : vs ≡ three (map capped (operands n (after_word s))) = cc in
              rw v (same_result k n (few k n counted) (after_word s))
          pick false f = cc

-- the refusal of what is missing
pub not_in_grammar : {A : Type 0} (o : Option A) (k : RefusalKind) → o ≡ None → Err k ≡ ok_or o NotInGrammar
    → refused (refusal_number k) ≡ refused number.not_in_grammar
not_in_grammar o k e f = pick o e f
  where
    pick : {A : Type 0} (p : Option A) → p ≡ None → Err k ≡ ok_or p NotInGrammar → refused (refusal_number k) ≡ refused number.not_in_grammar
    pick None g h = let z : k ≡ NotInGrammar = cc in rw z
    pick (Some a) g h = cc

-- a count is the value of the record
pub with_count : (k a b c : ℕ) → has_count k ≡ true → result_of (script_record k 0 0 a) ≡ result_of (record_with k (a ∷ b ∷ c ∷ []))
with_count k a b c h = rw h

pub without_count : (k a b c : ℕ) → has_count k ≡ false → result_of (script_record k a b c) ≡ result_of (record_with k (a ∷ b ∷ c ∷ []))
without_count k a b c h = rw h

-- ---- the three places: one result for each way in which a statement ends
-- the number that is the first word of a text, if one is wanted there, otherwise 0
unfoldable pub operand_number : Bool → List ℕ → Number
operand_number wanted s = cond wanted (number_in (word s)) (number_if true 0)

unfoldable pub after_operand : Bool → List ℕ → List ℕ
after_operand wanted s = cond wanted (after_word s) s

module _ (n : ℕ) (s : List ℕ) where
  -- the text after the first, the second and the third place
  abbrev pub rest1 : List ℕ
  rest1 = after_operand (ltb 0 n) s

  abbrev pub rest2 : List ℕ
  rest2 = after_operand (ltb 1 n) rest1

  abbrev pub rest3 : List ℕ
  rest3 = after_operand (ltb 2 n) rest2

  -- whether there is a number at a place, if one is wanted there
  abbrev pub ok1 : Bool
  ok1 = (operand_number (ltb 0 n) s).ok

  abbrev pub ok2 : Bool
  ok2 = (operand_number (ltb 1 n) rest1).ok

  abbrev pub ok3 : Bool
  ok3 = (operand_number (ltb 2 n) rest2).ok

  -- and its value
  abbrev pub value1 : ℕ
  value1 = (operand_number (ltb 0 n) s).value

  abbrev pub value2 : ℕ
  value2 = (operand_number (ltb 1 n) rest1).value

  abbrev pub value3 : ℕ
  value3 = (operand_number (ltb 2 n) rest2).value

three_places : (n : ℕ) → n ≤ 3 → (s : List ℕ) → are_operands n s ≡ (ok1 n s && (ok2 n s && (ok3 n s && is_empty (word (rest3 n s)))))
unfolding operand_number after_operand number_in
three_places zero h s = refl
three_places (suc zero) h s = refl
three_places (suc (suc zero)) h s = refl
three_places (suc (suc (suc zero))) h s = refl
three_places (suc (suc (suc (suc n)))) h s = absurd (omega (arith, h))

value_of_lem : (w : List ℕ) → is_number w ≡ true → (number_in w).value ≡ capped (value_of w)
unfolding number_in
value_of_lem w e = rw e

same_record : (k n : ℕ) → n ≤ 3 → (s : List ℕ) → are_operands n s ≡ true
    → result_of (record_with k (value1 n s ∷ value2 n s ∷ value3 n s ∷ [])) ≡ result_of (record_with k (operands n s))
unfolding operand_number after_operand
same_record k zero h s e = stop_operands k 0 0 0
same_record k (suc zero) h s e =
    let f = both (is_number (word s)) _ e in
    rw (value_of_lem (word s) f.0) (stop_operands k (value_of (word s)) 0 0)
same_record k (suc (suc zero)) h s e =
    let f = both (is_number (word s)) _ e in
    let t = after_word s in
    let g = both (is_number (word t)) _ f.1 in
    rw (value_of_lem (word s) f.0, value_of_lem (word t) g.0) (stop_operands k (value_of (word s)) (value_of (word t)) 0)
same_record k (suc (suc (suc zero))) h s e =
    let f = both (is_number (word s)) _ e in
    let t = after_word s in
    let g = both (is_number (word t)) _ f.1 in
    let u = after_word t in
    let i = both (is_number (word u)) _ g.1 in
    rw (value_of_lem (word s) f.0, value_of_lem (word t) g.0, value_of_lem (word u) i.0)
    (stop_operands k (value_of (word s)) (value_of (word t)) (value_of (word u)))
same_record k (suc (suc (suc (suc n)))) h s e = absurd (omega (arith, h))

module _ (s : List ℕ) (k : ℕ) (some : is_empty (word s) ≡ false) (named : k ≡ kind_of (word s)) where
  module _ (known : k ≡ 0 → ⊥) (n : ℕ) (counted : n ≡ operand_count k) where
    places_are : is_statement s ≡ (ok1 n (after_word s) && (ok2 n (after_word s) && (ok3 n (after_word s) && is_empty (word (rest3 n (after_word s))))))
    places_are = is_statement_lem s some k named known n counted ∙ three_places n (few k n counted) (after_word s)

    refuses : is_statement s ≡ false → refused number.not_in_grammar ≡ statement_result s
    unfolding statement_result
    refuses e = rw (some, e)

    pub stop_1 : ok1 n (after_word s) ≡ false → refused number.not_in_grammar ≡ statement_result s
    stop_1 a = refuses (places_are ∙ rw a)

    pub stop_2 : ok1 n (after_word s) ≡ true → ok2 n (after_word s) ≡ false → refused number.not_in_grammar ≡ statement_result s
    stop_2 a b = refuses (places_are ∙ rw (a, b))

    pub stop_3 : ok1 n (after_word s) ≡ true → ok2 n (after_word s) ≡ true → ok3 n (after_word s) ≡ false
        → refused number.not_in_grammar ≡ statement_result s
    stop_3 a b c = refuses (places_are ∙ rw (a, b, c))

    module _ (a : ok1 n (after_word s) ≡ true) (b : ok2 n (after_word s) ≡ true) (c : ok3 n (after_word s) ≡ true) where
      pub stop_4 : is_empty (word (rest3 n (after_word s))) ≡ false → refused number.not_in_grammar ≡ statement_result s
      stop_4 d = refuses (places_are ∙ rw (a, b, c, d))

      pub whole : is_empty (word (rest3 n (after_word s))) ≡ true
          → result_of (record_with k (value1 n (after_word s) ∷ value2 n (after_word s) ∷ value3 n (after_word s) ∷ [])) ≡ statement_result s
      unfolding statement_result statement_record
      whole d =
          let h : n ≤ 3 = few k n counted in
          let e : is_statement s ≡ true = places_are ∙ rw (a, b, c, d) in
          rw (some, e, ← named, ← counted) (same_record k n h (after_word s) (three_places n h (after_word s) ∙ rw (a, b, c, d)))
