-- The loop of `read_lines`: what holds before each line, that a good line keeps it, and what it means at a bad line and at the end.
use Prim.Native.Nat.{ℕ, suc, ◌+◌, ◌*◌, ◌/◌, ◌≤◌, ◌<◌}
use mathlib.Core.Path.{◌≡◌, ap, refl, sym, ◌∙◌}
use mathlib.Core.Bool.{Bool, true, false, cond, false≢true}
use mathlib.Core.List.{List, [], ◌∷◌, ◌++◌, append_assoc, append-nil}
use native.Mathlib.Numerals.{add-one}
use native.Mathlib.Omega.{arith}
use borrow.Author.Tests.{eq-eqb, eqb-true, le-ltb, lt-ltb, ltb-false, ltb-true, ne_eqb}
use lib.Dec.{eqb, ltb}
use lib.ListN.{drop, drop_of_length-le, length, length-append, length-drop, take}
use lib.Seq.{length-take-le}
use Rattle.compiler.proofs.Image.{one_more_word}
use Rattle.outcome.specs.Refusal.{Refusal, refusal}
use Rattle.record.proofs.ReadBack.{twelve_bytes}
use Rattle.record.specs.Record.{bytes_of, record_size}
use Rattle.record.specs.declared.Record.{Record}
use Rattle.statement.specs.Line.{LineResult, content, found_in, is_empty, line_fault, line_records, line_result, refused, run, statement_record, word}
use Rattle.assembler.specs.Assemble.{LinesRead, bad_line, check_result, first_bad_line, lines_of, not_line_feed, put_record, put_statements, record_bytes, records_in, text_records, with_records}
use Rattle.assembler.proofs.Lines.{first_line, other_lines, some_line}

-- ---- the result of a line
pub bad_result : (l : List ℕ) (r : LineResult) → r ≡ line_result l → (r.fault ≡ 0 → ⊥) → line_fault l ≡ r.fault
unfolding line_result line_records
bad_result l r e n = pick (eqb (line_fault l) 0) (is_empty (word (content l))) e
  where
    pick : (t s : Bool)
        → r ≡ cond t (found_in (cond s [] (statement_record (content l) ∷ []))) (refused (line_fault l)) → line_fault l ≡ r.fault
    pick true true f = absurd (n (ap (λ (x : LineResult). x.fault) f))
    pick true false f = absurd (n (ap (λ (x : LineResult). x.fault) f))
    pick false s f = sym (ap (λ (x : LineResult). x.fault) f)

-- a good line has no statement, or one, which is found
pub data Found (l : List ℕ) (r : LineResult) : Type 0 where
  nothing : r.statements ≡ 0 → line_records l ≡ [] → Found l r
  one : r.statements ≡ 1 → line_records l ≡ r.found ∷ [] → Found l r

pub good_result : (l : List ℕ) (r : LineResult) → r ≡ line_result l → r.fault ≡ 0 → (line_fault l ≡ 0) × Found l r
unfolding line_result line_records
good_result l r e z = pick (eqb (line_fault l) 0) refl (is_empty (word (content l))) refl e
  where
    records : (s : Bool) → is_empty (word (content l)) ≡ s → line_records l ≡ cond s [] (statement_record (content l) ∷ [])
    records s f = rw f

    pick : (t : Bool) → eqb (line_fault l) 0 ≡ t → (s : Bool) → is_empty (word (content l)) ≡ s
        → r ≡ cond t (found_in (cond s [] (statement_record (content l) ∷ []))) (refused (line_fault l))
        → (line_fault l ≡ 0) × Found l r
    pick true q true p f = (eqb-true (line_fault l) 0 q, nothing (ap (λ (x : LineResult). x.statements) f) (records true p))
    pick true q false p f =
        (eqb-true (line_fault l) 0 q, one (ap (λ (x : LineResult). x.statements) f) (records false p ∙ sym (ap (λ (x : LineResult). x.found ∷ []) f)))
    pick false q s p f =
        let g : r.fault ≡ line_fault l = ap (λ (x : LineResult). x.fault) f in
        absurd (false≢true (sym q ∙ eq-eqb (line_fault l) 0 (sym g ∙ z)))

-- ---- what holds before a line
pub record Reading (text buffer now : List ℕ) (at line written : ℕ) : Type 0 where
  pub inside : at ≤ length text
  pub few_lines : line ≤ at
  pub few_records_lem : written ≤ line
  pub bad : first_bad_line line (lines_of (drop at text)) ≡ bad_line text
  pub done : List Record
  pub whole : done ++ records_in (lines_of (drop at text)) ≡ text_records text
  pub many : length done ≡ written
  pub lent : length now ≡ length buffer
  pub held : written ≤ length buffer / record_size → now ≡ record_bytes done ++ drop (record_size * written) buffer

pub starts : (text buffer : List ℕ) → Reading text buffer buffer 0 0 0
unfolding bad_line text_records
starts text buffer = record {
  inside = omega arith;
  few_lines = omega arith;
  few_records_lem = omega arith;
  bad = refl;
  done = [];
  whole = refl;
  many = refl;
  lent = refl;
  held = λ h. refl;
}

-- ---- a record at its place keeps the length of the buffer
pub no_room_lem : (place : ℕ) (r : Record) (b : List ℕ) → length b / record_size ≤ place → put_record place r b ≡ b
unfolding put_record
no_room_lem place r b h = rw (le-ltb place (length b / record_size) h)

pub put_room : (place : ℕ) (r : Record) (b : List ℕ) → place < length b / record_size
    → put_record place r b ≡ take (record_size * place) b ++ (bytes_of r ++ drop record_size (drop (record_size * place) b))
unfolding put_record
put_room place r b h = rw (lt-ltb place (length b / record_size) h)

put_length : (place : ℕ) (r : Record) (b : List ℕ) → length (put_record place r b) ≡ length b
unfolding put_record
put_length place r b = pick (ltb place (length b / record_size)) refl
  where
    pick : (t : Bool) → ltb place (length b / record_size) ≡ t
        → length (cond t (take (record_size * place) b ++ (bytes_of r ++ drop record_size (drop (record_size * place) b))) b) ≡ length b
    pick true e =
        let h = ltb-true place (length b / record_size) e in
        let i : record_size * place + record_size ≤ length b = omega (arith, h) in
        let p = length-append (take (record_size * place) b) (bytes_of r ++ drop record_size (drop (record_size * place) b)) in
        let q = length-append (bytes_of r) (drop record_size (drop (record_size * place) b)) in
        let t = length-take-le (record_size * place) b (omega (arith, i)) in
        let w = twelve_bytes r in
        let d = length-drop record_size (drop (record_size * place) b) in
        let f = length-drop (record_size * place) b in
        omega (arith, i, p, q, t, w, d, f)
    pick false e = refl

pub put_statements_length : (n place : ℕ) (r : Record) (b : List ℕ) → length (put_statements n place r b) ≡ length b
put_statements_length n place r b = pick (eqb n 0)
  where
    pick : (t : Bool) → length (cond t b (put_record place r b)) ≡ length b
    pick true = refl
    pick false = put_length place r b

-- ---- the step from one line to the next
module _ (text buffer now : List ℕ) (at line written : ℕ) (i : Reading text buffer now at line written) (h : at < length text) where
  abbrev t : List ℕ
  t = drop at text

  here : lines_of t ≡ first_line t ∷ other_lines t
  here = let l = length-drop at text in some_line t (omega (arith, h, l))

  module _ (r : LineResult) (e : r ≡ line_result (first_line t)) where
    pub stops : (r.fault ≡ 0 → ⊥) → LinesRead text buffer now (record { refusal = r.fault; place = line; records = 0 })
    unfolding check_result
    stops n =
        let f = bad_result (first_line t) r e n in
        let b : bad_line text ≡ refusal r.fault line =
        sym i.bad ∙ ap (first_bad_line line) here ∙ rw (f, ne_eqb r.fault 0 n) in
        record {
          answered = rw (b, ne_eqb r.fault 0 n);
          lent = i.lent;
          written = λ z. absurd (n (sym (ap (λ (x : Refusal). x.number) b) ∙ z));
        }

    module _ (z : r.fault ≡ 0) (next : ℕ) (m : next ≤ length text) (k : at < next)
        (d : drop next text ≡ drop (suc (run not_line_feed t)) t) where
      good : (line_fault (first_line t) ≡ 0) × Found (first_line t) r
      good = good_result (first_line t) r e z

      others : lines_of (drop next text) ≡ other_lines t
      others = ap lines_of d

      still_good : first_bad_line (line + 1) (lines_of (drop next text)) ≡ bad_line text
      still_good =
          rw (others, add-one line)
          (sym (ap (first_bad_line line) here ∙ rw good.0) ∙ i.bad)

      rest : records_in (lines_of t) ≡ line_records (first_line t) ++ records_in (lines_of (drop next text))
      rest = ap records_in here ∙ rw others

      pub goes_on : Reading text buffer (put_statements r.statements written r.found now) next (line + 1) (written + r.statements)
      goes_on = pick good.1
        where
          pick : Found (first_line t) r
              → Reading text buffer (put_statements r.statements written r.found now) next (line + 1) (written + r.statements)
          pick (nothing n q) =
              let w : written + 0 ≡ written = omega arith in
              rw (n, w) (record {
                inside = m;
                few_lines = let f = i.few_lines in omega (arith, f, k);
                few_records_lem = let f = i.few_records_lem in omega (arith, f);
                bad = still_good;
                done = i.done;
                whole = sym (ap (λ (x : List Record). i.done ++ x) (rest ∙ rw q)) ∙ i.whole;
                many = i.many;
                lent = i.lent;
                held = i.held;
              })
          pick (one n q) =
              rw n (record {
                inside = m;
                few_lines = let f = i.few_lines in omega (arith, f, k);
                few_records_lem = let f = i.few_records_lem in omega (arith, f);
                bad = still_good;
                done = i.done ++ (r.found ∷ []);
                whole = append_assoc i.done (r.found ∷ []) (records_in (lines_of (drop next text))) ∙ sym (ap (λ (x : List Record). i.done ++ x) (rest ∙ rw q)) ∙ i.whole;
                many = let a = length-append i.done (r.found ∷ []) in let b = i.many in omega (arith, a, b);
                lent = put_length written r.found now ∙ i.lent;
                held = λ l. held_on l;
              })
            where
              held_on : written + 1 ≤ length buffer / record_size
                  → put_record written r.found now ≡ record_bytes (i.done ++ (r.found ∷ [])) ++ drop (record_size * (written + 1)) buffer
              held_on l =
                  let room : written < length now / record_size = rw i.lent (omega (arith, l)) in
                  put_room written r.found now room
                  ∙ one_more_word i.done r.found buffer now written i.many (i.held (omega (arith, l)))

-- ---- after the last line
pub ends : (text buffer now : List ℕ) (at line written : ℕ) → Reading text buffer now at line written → length text ≤ at
    → LinesRead text buffer now (record { refusal = 0; place = 0; records = written })
unfolding check_result with_records
ends text buffer now at line written i h =
    let z : lines_of (drop at text) ≡ [] = ap lines_of (drop_of_length-le text {i = at} h) in
    let b : refusal 0 0 ≡ bad_line text = sym (ap (first_bad_line line) z) ∙ i.bad in
    let d : i.done ≡ text_records text = sym (append-nil i.done) ∙ sym (ap (λ (x : List (List ℕ)). i.done ++ records_in x) z) ∙ i.whole in
    let n : length (text_records text) ≡ written = sym (ap length d) ∙ i.many in
    record {
      answered = rw (← b, n);
      lent = i.lent;
      written = λ g f. let l = ltb-false (length buffer / record_size) (length (text_records text)) f in rw (n, ← d) (i.held (omega (arith, n, l)));
    }
