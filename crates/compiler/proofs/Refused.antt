-- Each refusal of the compiler is given exactly when its condition holds. One of six cases holds of every script and buffer
-- (`verdict`), each determines the refusal (`given`), and no two give the same number.
use Prim.Native.Nat.{ℕ, ◌+◌, ◌*◌, ◌≤◌, ◌<◌}
use mathlib.Core.Path.{◌≡◌, refl, sym, ap, ◌∙◌}
use mathlib.Core.Bool.{Bool, true, false, true≢false}
use mathlib.Core.List.{List, []}
use mathlib.Core.Logic.{◌⊎◌, inl, inr}
use borrow.Author.Tests.{eqb-true, eqb-false, le-ltb, lt-ltb, ltb-false, ltb-true, ne_eqb}
use lib.Dec.{eqb, ltb}
use lib.ListN.{length}
use native.Mathlib.Omega.{arith}
use Rattle.outcome.specs.Refusal.{Refusal, refusal}
use Rattle.script.proofs.Faults.{FirstFault, closed, fault_bounded, first_or_none, first_refused, good_length_lem, length_good, none_refused}
use Rattle.script.proofs.Grammar.{records_length}
use Rattle.script.specs.Faults.{FirstFaultAt, GoodLength, NoFault, open_at_end}
use Rattle.script.specs.Records.{record_count, records_of}
use Rattle.script.specs.Refusals.{bad_length, first_fault, innermost, script_refusal, words_in}
use Rattle.compiler.specs.Compile.{compile_refusal, compile_result}
use Rattle.compiler.specs.Refused.{Closed, Gives, RefusedExactly}

-- ---- the cases
data Verdict (script buffer : List ℕ) : Type 0 where
  wrong_length_lem : bad_length script ≡ true → Verdict script buffer
  faulty : bad_length script ≡ false → FirstFault [] (records_of script) → Verdict script buffer
  unclosed : bad_length script ≡ false → NoFault [] (records_of script) → (open_at_end [] (records_of script) ≡ [] → ⊥)
      → Verdict script buffer
  many : bad_length script ≡ false → NoFault [] (records_of script) → open_at_end [] (records_of script) ≡ []
      → 1024 < words_in script → Verdict script buffer
  short : bad_length script ≡ false → NoFault [] (records_of script) → open_at_end [] (records_of script) ≡ []
      → words_in script ≤ 1024 → length buffer < 12 * words_in script → Verdict script buffer
  fine : bad_length script ≡ false → NoFault [] (records_of script) → open_at_end [] (records_of script) ≡ []
      → words_in script ≤ 1024 → 12 * words_in script ≤ length buffer → Verdict script buffer

module _ (script buffer : List ℕ) where
  verdict : Verdict script buffer
  verdict = by_length (bad_length script) refl
    where
      by_room : bad_length script ≡ false → NoFault [] (records_of script) → open_at_end [] (records_of script) ≡ []
          → words_in script ≤ 1024 → (b : Bool) → ltb (length buffer) (12 * words_in script) ≡ b → Verdict script buffer
      by_room l n o w true e = short l n o w (ltb-true (length buffer) (12 * words_in script) e)
      by_room l n o w false e = fine l n o w (ltb-false (length buffer) (12 * words_in script) e)

      by_words : bad_length script ≡ false → NoFault [] (records_of script) → open_at_end [] (records_of script) ≡ []
          → (b : Bool) → ltb 1024 (words_in script) ≡ b → Verdict script buffer
      by_words l n o true e = many l n o (ltb-true 1024 (words_in script) e)
      by_words l n o false e = by_room l n o (ltb-false 1024 (words_in script) e) (ltb (length buffer) (12 * words_in script)) refl

      by_open : bad_length script ≡ false → NoFault [] (records_of script) → (b : Bool)
          → eqb (innermost (open_at_end [] (records_of script))) 0 ≡ b → Verdict script buffer
      by_open l n true e = by_words l n (closed (records_of script) (eqb-true _ 0 e)) (ltb 1024 (words_in script)) refl
      by_open l n false e = unclosed l n (λ o. eqb-false _ 0 e (ap (λ (bs : List ℕ). innermost bs) o))

      by_fault : bad_length script ≡ false → FirstFault [] (records_of script) ⊎ NoFault [] (records_of script) → Verdict script buffer
      by_fault l (inl f) = faulty l f
      by_fault l (inr n) = by_open l n (eqb (innermost (open_at_end [] (records_of script))) 0) refl

      by_length : (b : Bool) → bad_length script ≡ b → Verdict script buffer
      by_length true e = wrong_length_lem e
      by_length false e = by_fault e (first_or_none (records_of script) [])

  abbrev given : Verdict script buffer → Refusal
  given (wrong_length_lem l) = refusal 1 0
  given (faulty l f) = refusal f.number f.at
  given (unclosed l n o) = refusal 7 (record_count script)
  given (many l n o w) = refusal 8 (record_count script)
  given (short l n o w r) = refusal 9 (record_count script)
  given (fine l n o w r) = refusal 0 0

  -- ---- what the definition gives in each case
  scan_clear : NoFault [] (records_of script) → open_at_end [] (records_of script) ≡ [] → first_fault [] 0 (records_of script) ≡ refusal 0 0
  scan_clear n o = none_refused (records_of script) [] 0 n ∙ (rw o)

  scan_open : NoFault [] (records_of script) → (open_at_end [] (records_of script) ≡ [] → ⊥)
      → first_fault [] 0 (records_of script) ≡ refusal 7 (record_count script)
  scan_open n o =
      let e = ne_eqb (innermost (open_at_end [] (records_of script))) 0 (λ z. o (closed (records_of script) z)) in
      let k = records_length script in
      let p : 0 + length (records_of script) ≡ record_count script = omega arith in
      none_refused (records_of script) [] 0 n ∙ (rw (e, p))

  scan_fault : (f : FirstFault [] (records_of script)) → first_fault [] 0 (records_of script) ≡ refusal f.number f.at
  scan_fault f =
      let p : 0 + f.at ≡ f.at = omega arith in
      first_refused f.number (records_of script) [] 0 f.at f.first ∙ (rw p)

  is_given : (v : Verdict script buffer) → compile_refusal script buffer ≡ given v
  unfolding compile_refusal script_refusal
  is_given (wrong_length_lem l) = rw l
  is_given (faulty l f) =
      let b = (fault_bounded f.number f.at [] (records_of script) f.first.has).0 in
      let e = ne_eqb f.number 0 (λ z. omega arith) in
      rw (l, scan_fault f, e, e)
  is_given (unclosed l n o) = rw (l, scan_open n o)
  is_given (many l n o w) = rw (l, scan_clear n o, lt-ltb 1024 (words_in script) w)
  is_given (short l n o w r) =
      rw (l, scan_clear n o, le-ltb 1024 (words_in script) w, lt-ltb (length buffer) (12 * words_in script) r)
  is_given (fine l n o w r) =
      rw (l, scan_clear n o, le-ltb 1024 (words_in script) w, le-ltb (length buffer) (12 * words_in script) r)

  -- ---- each refusal
  number_of : {n p : ℕ} (v : Verdict script buffer) → Gives script buffer n p → (given v).number ≡ n
  unfolding compile_result
  number_of v g = sym (ap (λ (f : Refusal). f.number) (is_given v)) ∙ g.0

  place_of : {n p : ℕ} (v : Verdict script buffer) → Gives script buffer n p → (given v).place ≡ p
  unfolding compile_result
  place_of v g = sym (ap (λ (f : Refusal). f.place) (is_given v)) ∙ g.1

  gives : (v : Verdict script buffer) → Gives script buffer (given v).number (given v).place
  unfolding compile_result
  gives v = (ap (λ (f : Refusal). f.number) (is_given v), ap (λ (f : Refusal). f.place) (is_given v))

  -- a case whose refusal has another number
  other : {A : Type 0} {n p : ℕ} (v : Verdict script buffer) → Gives script buffer n p → ((given v).number ≡ n → ⊥) → A
  other v g differs = absurd (differs (number_of v g))

  fault_number : (f : FirstFault [] (records_of script)) → (2 ≤ f.number) × (f.number ≤ 6)
  fault_number f = fault_bounded f.number f.at [] (records_of script) f.first.has

  module _ (p : ℕ) where
    length_refused : Gives script buffer 1 p → (p ≡ 0) × (GoodLength script → ⊥)
    length_refused g = pick verdict
      where
        pick : Verdict script buffer → (p ≡ 0) × (GoodLength script → ⊥)
        pick (wrong_length_lem l) =
            (sym (place_of (wrong_length_lem l) g), λ good. true≢false (sym l ∙ length_good script good))
        pick (faulty l f) = let b = (fault_number f).0 in other (faulty l f) g (λ e. omega arith)
        pick (unclosed l n o) = other (unclosed l n o) g (λ e. omega arith)
        pick (many l n o w) = other (many l n o w) g (λ e. omega arith)
        pick (short l n o w r) = other (short l n o w r) g (λ e. omega arith)
        pick (fine l n o w r) = other (fine l n o w r) g (λ e. omega arith)

    length_gives : (p ≡ 0) × (GoodLength script → ⊥) → Gives script buffer 1 p
    length_gives c = pick (bad_length script) refl
      where
        pick : (b : Bool) → bad_length script ≡ b → Gives script buffer 1 p
        pick true e = rw c.0 (gives (wrong_length_lem e))
        pick false e = absurd (c.1 (good_length_lem script e))

    fault_refused : (n : ℕ) → 2 ≤ n → n ≤ 6 → Gives script buffer n p → GoodLength script × FirstFaultAt n [] (records_of script) p
    fault_refused n low high g = pick verdict
      where
        pick : Verdict script buffer → GoodLength script × FirstFaultAt n [] (records_of script) p
        pick (wrong_length_lem l) = other (wrong_length_lem l) g (λ e. omega arith)
        pick (faulty l f) = (good_length_lem script l, rw (number_of (faulty l f) g, place_of (faulty l f) g) at f.first)
        pick (unclosed l n o) = other (unclosed l n o) g (λ e. omega arith)
        pick (many l n o w) = other (many l n o w) g (λ e. omega arith)
        pick (short l n o w r) = other (short l n o w r) g (λ e. omega arith)
        pick (fine l n o w r) = other (fine l n o w r) g (λ e. omega arith)

    fault_gives : (n : ℕ) → GoodLength script × FirstFaultAt n [] (records_of script) p → Gives script buffer n p
    fault_gives n c = gives (faulty (length_good script c.0) (record { number = n; at = p; first = c.1 }))

    open_refused : Gives script buffer 7 p
        → (p ≡ record_count script) × GoodLength script × NoFault [] (records_of script)
        × (open_at_end [] (records_of script) ≡ [] → ⊥)
    open_refused g = pick verdict
      where
        pick : Verdict script buffer
            → (p ≡ record_count script) × GoodLength script × NoFault [] (records_of script)
            × (open_at_end [] (records_of script) ≡ [] → ⊥)
        pick (wrong_length_lem l) = other (wrong_length_lem l) g (λ e. omega arith)
        pick (faulty l f) = let b = (fault_number f).1 in other (faulty l f) g (λ e. omega arith)
        pick (unclosed l n o) = (sym (place_of (unclosed l n o) g), good_length_lem script l, n, o)
        pick (many l n o w) = other (many l n o w) g (λ e. omega arith)
        pick (short l n o w r) = other (short l n o w r) g (λ e. omega arith)
        pick (fine l n o w r) = other (fine l n o w r) g (λ e. omega arith)

    words_refused : Gives script buffer 8 p → (p ≡ record_count script) × Closed script × (1024 < words_in script)
    words_refused g = pick verdict
      where
        pick : Verdict script buffer → (p ≡ record_count script) × Closed script × (1024 < words_in script)
        pick (wrong_length_lem l) = other (wrong_length_lem l) g (λ e. omega arith)
        pick (faulty l f) = let b = (fault_number f).1 in other (faulty l f) g (λ e. omega arith)
        pick (unclosed l n o) = other (unclosed l n o) g (λ e. omega arith)
        pick (many l n o w) = (sym (place_of (many l n o w) g), (good_length_lem script l, n, o), w)
        pick (short l n o w r) = other (short l n o w r) g (λ e. omega arith)
        pick (fine l n o w r) = other (fine l n o w r) g (λ e. omega arith)

    buffer_refused : Gives script buffer 9 p
        → (p ≡ record_count script) × Closed script × (words_in script ≤ 1024) × (length buffer < 12 * words_in script)
    buffer_refused g = pick verdict
      where
        pick : Verdict script buffer
            → (p ≡ record_count script) × Closed script × (words_in script ≤ 1024) × (length buffer < 12 * words_in script)
        pick (wrong_length_lem l) = other (wrong_length_lem l) g (λ e. omega arith)
        pick (faulty l f) = let b = (fault_number f).1 in other (faulty l f) g (λ e. omega arith)
        pick (unclosed l n o) = other (unclosed l n o) g (λ e. omega arith)
        pick (many l n o w) = other (many l n o w) g (λ e. omega arith)
        pick (short l n o w r) = (sym (place_of (short l n o w r) g), (good_length_lem script l, n, o), w, r)
        pick (fine l n o w r) = other (fine l n o w r) g (λ e. omega arith)

    pub refused_exactly_lem : RefusedExactly script buffer p
    refused_exactly_lem = record {
      bad_length = (length_refused, length_gives);
      fault = λ n low high. (fault_refused n low high, fault_gives n);
      still_open = (
        open_refused,
        λ c. rw c.0 (gives (unclosed (length_good script c.1) c.2 c.3)),
      );
      too_many_words = (
        words_refused,
        λ c. rw c.0 (gives (many (length_good script c.1.0) c.1.1 c.1.2 c.2)),
      );
      buffer_too_short = (
        buffer_refused,
        λ c. rw c.0 (gives (short (length_good script c.1.0) c.1.1 c.1.2 c.2 c.3)),
      );
    }
