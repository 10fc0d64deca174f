-- The answer of the compiler and the buffer after it, from the result of the scan and the length of the buffer. Also: a
-- script is refused exactly when one of refusals 1 to 8 applies or the buffer is too short for its words (`refuses_not`,
-- `accepts_all`).
use Prim.Native.Nat.{ℕ, ◌*◌, ◌≤◌}
use mathlib.Core.Path.{◌≡◌, refl, sym, ap, ◌∙◌}
use mathlib.Core.Bool.{Bool, true, false, cond}
use mathlib.Core.List.{List, ◌++◌}
use native.Mathlib.Omega.{arith}
use borrow.Author.Tests.{eqb-false, eqb-true, le-ltb, ltb-false, ne_eqb}
use lib.Dec.{eqb, ltb}
use lib.ListN.{length, drop}
use Rattle.record.specs.Record.{record_size}
use Rattle.script.specs.Records.{record_count}
use Rattle.script.specs.Refusals.{script_refusal, words_in}
use Rattle.outcome.specs.Refusal.{refusal}
use Rattle.script.specs.Scan.{ScanResult, script_scan}
use Rattle.compiler.specs.Compile.{CompileResult, compile_result, compile_refusal, image_after, too_short}
use Rattle.compiler.specs.Words.{image_bytes, words_of}
use Rattle.compiler.proofs.Places.{count_words}

module _ (script image : List ℕ) (s : ScanResult) (e : s ≡ script_scan script) where
  number_is : s.number ≡ (script_refusal script).number
  unfolding script_scan
  number_is = ap (λ (x : ScanResult). x.number) e

  place_is : s.place ≡ (script_refusal script).place
  unfolding script_scan
  place_is = ap (λ (x : ScanResult). x.place) e

  pub accepted_by : s.number ≡ 0 → (script_refusal script).number ≡ 0
  accepted_by z = sym number_is ∙ z

  pub words_are : s.number ≡ 0 → s.words ≡ words_in script
  unfolding script_scan
  words_are z = ap (λ (x : ScanResult). x.words) e ∙ (rw (accepted_by z))

  -- ---- a refusal by the scan
  pub refused : (s.number ≡ 0 → ⊥)
      → (◌≡◌ {A = CompileResult} (record { refusal = s.number; place = s.place; words = 0 }) (compile_result script image))
      × (image ≡ image_after script image)
  unfolding compile_result image_after compile_refusal
  refused z =
      let n : eqb (script_refusal script).number 0 ≡ false = rw number_is at (ne_eqb s.number 0 z) in
      (rw (n, n, number_is, place_is), rw (n, n))

  -- ---- the buffer is too short
  pub unfit : s.number ≡ 0 → ltb (length image) (record_size * s.words) ≡ true
      → (◌≡◌ {A = CompileResult} (record { refusal = 9; place = record_count script; words = 0 }) (compile_result script image))
      × (image ≡ image_after script image)
  unfolding compile_result image_after compile_refusal
  unfit z l =
      let t : too_short script image ≡ true = rw (words_are z) at l in
      (rw (accepted_by z, t), rw (accepted_by z, t))

  -- ---- success
  pub fit : s.number ≡ 0 → ltb (length image) (record_size * s.words) ≡ false → record_size * length (words_of script) ≤ length image
  fit z l =
      rw (← (count_words script (accepted_by z)))
      (ltb-false (length image) (record_size * words_in script) (rw (words_are z) at l))

  pub done : (now : List ℕ) → s.number ≡ 0 → ltb (length image) (record_size * s.words) ≡ false
      → now ≡ image_bytes (words_of script) ++ drop (record_size * length (words_of script)) image
      → (◌≡◌ {A = CompileResult} (record { refusal = 0; place = 0; words = s.words }) (compile_result script image))
      × (now ≡ image_after script image)
  unfolding compile_result image_after compile_refusal
  done now z l i =
      let t : too_short script image ≡ false = rw (words_are z) at l in
      (rw (accepted_by z, t, words_are z), i ∙ (rw (accepted_by z, t, count_words script (accepted_by z))))

-- "The compiler refuses a script exactly when it meets one of refusals 1 to 8 or the image buffer is shorter than its
-- words."
pub refuses_not : (script image : List ℕ) → (compile_result script image).refusal ≡ 0
    → ((script_refusal script).number ≡ 0) × (record_size * words_in script ≤ length image)
unfolding compile_result compile_refusal
refuses_not script image h =
    pick (eqb (script_refusal script).number 0) (too_short script image) refl refl h
  where
    pick : (a b : Bool) → eqb (script_refusal script).number 0 ≡ a → too_short script image ≡ b
        → (cond a (cond b (refusal 9 (record_count script)) (refusal 0 0)) (script_refusal script)).number ≡ 0
        → ((script_refusal script).number ≡ 0) × (record_size * words_in script ≤ length image)
    pick true true p q z = absurd (omega arith)
    pick true false p q z =
        (eqb-true (script_refusal script).number 0 p, ltb-false (length image) (record_size * words_in script) q)
    pick false b p q z = absurd (eqb-false (script_refusal script).number 0 p z)

-- the converse: any other script is accepted
pub accepts_all : (script image : List ℕ) → (script_refusal script).number ≡ 0 → record_size * words_in script ≤ length image
    → (compile_result script image).refusal ≡ 0
unfolding compile_result compile_refusal
accepts_all script image z l = rw (z, le-ltb (length image) (record_size * words_in script) l)
