-- A buffer of `text_size` bytes is long enough for every listing, so `list` never gives refusal 34, and the listing is in the front of the buffer.
use Prim.Native.Nat.{ℕ, ◌≤◌}
use mathlib.Core.Path.{◌≡◌, ap, refl, sym, ◌∙◌}
use mathlib.Core.Bool.{Bool, true, false, cond}
use mathlib.Core.List.{List, [], ◌++◌}
use native.Mathlib.Omega.{arith}
use borrow.Author.Tests.{eqb-true, le-ltb}
use lib.Dec.{eqb}
use lib.ListN.{drop, length, take}
use lib.Seq.{length-take-le, take_at}
use Rattle.lister.proofs.Answers.{no_fault}
use Rattle.lister.proofs.Lengths.{lines_most}
use Rattle.lister.specs.Listing.{ListResult, answer, first_wrong, list_refusal, list_result, listing, script_fault, text_after, with_text}
use Rattle.outcome.specs.Refusal.{Refusal, refusal}
use Rattle.script.proofs.Grammar.{records_length}
use Rattle.script.proofs.Records.{few_records_lem}
use Rattle.script.specs.Records.{records_of}
use Rattle.script.specs.Refusals.{bad_length}
use Rattle.list.specs.Output.{Answered, output, text_size}

module _ (script : List ℕ) where
  -- a script without refusal 1 has at most 1,024 records
  few : (script_fault script).number ≡ 0 → length (records_of script) ≤ 1024
  unfolding script_fault
  few e = pick (bad_length script) refl e
    where
      pick : (b : Bool) → bad_length script ≡ b → (cond b (refusal 1 0) (first_wrong 0 (records_of script))).number ≡ 0
          → length (records_of script) ≤ 1024
      pick true q f = absurd (omega (arith, f))
      pick false q f = omega (arith, few_records_lem script q, records_length script)

  fits : (script_fault script).number ≡ 0 → length (listing script) ≤ text_size
  unfolding listing
  fits e = let l = lines_most 0 (records_of script) in let n = few e in omega (arith, l, n)

  module _ (buffer : List ℕ) (size : length buffer ≡ text_size) where
    -- no refusal 34
    same_refusal_lem : list_refusal script buffer ≡ script_fault script
    unfolding list_refusal
    same_refusal_lem = pick (eqb (script_fault script).number 0) refl
      where
        pick : (b : Bool) → eqb (script_fault script).number 0 ≡ b → list_refusal script buffer ≡ script_fault script
        pick true e =
            let z = eqb-true (script_fault script).number 0 e in
            let l = le-ltb (length buffer) (length (listing script)) (rw size (fits z)) in
            rw (e, l) (sym (no_fault script z))
        pick false e = rw e

    -- the length of the output is in the answer, and the output in the front of the buffer
    inside : (answer (script_fault script) (length (listing script))).length ≤ length buffer
    inside = pick (eqb (script_fault script).number 0) refl
      where
        pick : (b : Bool) → eqb (script_fault script).number 0 ≡ b → cond b (length (listing script)) 0 ≤ length buffer
        pick true e = rw size (fits (eqb-true (script_fault script).number 0 e))
        pick false e = omega arith

    front :
        take (answer (script_fault script) (length (listing script))).length
        (cond (eqb (script_fault script).number 0) (with_text (listing script) buffer) buffer)
        ≡ output script
    unfolding with_text output
    front = pick (eqb (script_fault script).number 0)
      where
        pick : (b : Bool)
            → take (cond b (length (listing script)) 0) (cond b (listing script ++ drop (length (listing script)) buffer) buffer)
            ≡ cond b (listing script) []
        pick true = take_at (listing script) (drop (length (listing script)) buffer) (length (listing script)) refl
        pick false = refl

    pub answered : (after : List ℕ) (r : ListResult) → length after ≡ length buffer → r ≡ list_result script buffer
        → after ≡ text_after script buffer → Answered script after r
    unfolding list_result text_after
    answered after r l e t =
        let f = same_refusal_lem in
        let a : r ≡ answer (script_fault script) (length (listing script)) = e ∙ ap (λ (x : Refusal). answer x (length (listing script))) f in
        let b : after ≡ cond (eqb (script_fault script).number 0) (with_text (listing script) buffer) buffer = t ∙ rw f in
        let n = ap (λ (x : ListResult). x.length) a in
        let i : r.length ≤ length after = omega (arith, n, l, inside) in
        record {
          number = ap (λ (x : ListResult). x.refusal) a;
          place = ap (λ (x : ListResult). x.place) a;
          written = record { inside = i; counted = sym (length-take-le r.length after i); bytes = rw (n, b) front };
        }
