-- The pass over the flat records gives the words of the nested script (`emit_script`), because looking ahead from inside a
-- block finds the place after its body.
use Prim.Native.Nat.{ℕ, suc}
use mathlib.Core.Path.{◌≡◌, refl, ap, ◌∙◌}
use mathlib.Core.Bool.{false}
use mathlib.Core.List.{List, [], ◌∷◌}
use borrow.Author.Tests.{ne_eqb}
use lib.Dec.{eqb}
use native.Mathlib.Omega.{arith}
use Rattle.record.specs.declared.Record.{Record}
use Rattle.script.specs.Nested.{Body, done, write, read, delay, repeat, if, if_else, reading_of, body_in, script_body, script_record, else_record, end_record, flat}
use Rattle.script.specs.Records.{records_of}
use Rattle.script.specs.Refusals.{first_fault, script_refusal}
use Rattle.script.proofs.Flat.{accepts, reading_flat}
use Rattle.compiler.specs.Emit.{look_ahead, emit_flat, frames_after}
use Rattle.compiler.specs.Words.{place_after, emit, halt, word, words_of}

-- ---- looking ahead passes over one record: one that is no else and no end, or the end of an inner repeat
pub ahead_word : (frames : List ℕ) (place : ℕ) (r : Record) (rs : List Record) → eqb r.kind 6 ≡ false
    → eqb r.kind 7 ≡ false
    → look_ahead frames place (r ∷ rs) ≡ look_ahead (frames_after frames place r.kind) (suc place) rs
ahead_word [] place r rs s e = simp (e, s)
ahead_word (f ∷ fs) place r rs s e = simp e

ahead_loop_end : (frames : List ℕ) (at place : ℕ) (tl : List Record)
    → look_ahead (suc at ∷ frames) place (end_record ∷ tl) ≡ look_ahead frames (suc place) tl
ahead_loop_end frames at place tl = rw (ne_eqb (suc at) 0 (omega arith))

-- looking ahead passes over a whole body
pub ahead_flat : (b : Body) (frames : List ℕ) (at : ℕ) (tl : List Record)
    → look_ahead frames at (flat b tl) ≡ look_ahead frames (place_after at b) tl
ahead_flat done frames at tl = refl
ahead_flat (write p w v rest) frames at tl =
    ahead_word frames at (script_record 1 w p v) (flat rest tl) refl refl ∙ ahead_flat rest frames (suc at) tl
ahead_flat (read p w rest) frames at tl =
    ahead_word frames at (script_record 2 w p 0) (flat rest tl) refl refl ∙ ahead_flat rest frames (suc at) tl
ahead_flat (delay n rest) frames at tl =
    ahead_word frames at (script_record 3 0 0 n) (flat rest tl) refl refl ∙ ahead_flat rest frames (suc at) tl
ahead_flat (repeat n b rest) frames at tl =
    ahead_word frames at (script_record 4 0 0 n) (flat b (end_record ∷ flat rest tl)) refl refl
    ∙ ahead_flat b (suc at ∷ frames) (suc at) (end_record ∷ flat rest tl)
    ∙ ahead_loop_end frames at (place_after (suc at) b) (flat rest tl)
    ∙ ahead_flat rest frames (suc (place_after (suc at) b)) tl
ahead_flat (if p w m b rest) frames at tl =
    ahead_word frames at (script_record 5 w p m) (flat b (end_record ∷ flat rest tl)) refl refl
    ∙ ahead_flat b (0 ∷ frames) (suc at) (end_record ∷ flat rest tl)
    ∙ ahead_flat rest frames (place_after (suc at) b) tl
ahead_flat (if_else p w m b c rest) frames at tl =
    ahead_word frames at (script_record 5 w p m) (flat b (else_record ∷ flat c (end_record ∷ flat rest tl))) refl refl
    ∙ ahead_flat b (0 ∷ frames) (suc at) (else_record ∷ flat c (end_record ∷ flat rest tl))
    ∙ ahead_flat c (0 ∷ frames) (suc (place_after (suc at) b)) (end_record ∷ flat rest tl)
    ∙ ahead_flat rest frames (place_after (suc (place_after (suc at) b)) c) tl

-- ---- looking ahead from the first record of a body finds its end or its else
to_end : (at : ℕ) (b : Body) (tl : List Record) → look_ahead [] at (flat b (end_record ∷ tl)) ≡ place_after at b
to_end at b tl = ahead_flat b [] at (end_record ∷ tl)

to_else : (at : ℕ) (b : Body) (tl : List Record) → look_ahead [] at (flat b (else_record ∷ tl)) ≡ suc (place_after at b)
to_else at b tl = ahead_flat b [] at (else_record ∷ tl)

loop_end_lem : (frames : List ℕ) (at place : ℕ) (tl : List Record)
    → emit_flat (suc at ∷ frames) place (end_record ∷ tl) ≡ word 5 0 0 (suc at) 0 ∷ emit_flat frames (suc place) tl
loop_end_lem frames at place tl = rw (ne_eqb (suc at) 0 (omega arith))

-- the pass gives the words of a body, then those of the records after it
pub emit_flat_lem : (b : Body) (frames : List ℕ) (at : ℕ) (tl : List Record)
    → emit_flat frames at (flat b tl) ≡ emit at b (emit_flat frames (place_after at b) tl)
emit_flat_lem done frames at tl = refl
emit_flat_lem (write p w v rest) frames at tl = rw (emit_flat_lem rest frames (suc at) tl)
emit_flat_lem (read p w rest) frames at tl = rw (emit_flat_lem rest frames (suc at) tl)
emit_flat_lem (delay n rest) frames at tl = rw (emit_flat_lem rest frames (suc at) tl)
emit_flat_lem (repeat n b rest) frames at tl =
    rw (
      to_end (suc at) b (flat rest tl),
      emit_flat_lem b (suc at ∷ frames) (suc at) (end_record ∷ flat rest tl),
      loop_end_lem frames at (place_after (suc at) b) (flat rest tl),
      emit_flat_lem rest frames (suc (place_after (suc at) b)) tl,
    )
emit_flat_lem (if p w m b rest) frames at tl =
    rw (
      to_end (suc at) b (flat rest tl),
      emit_flat_lem b (0 ∷ frames) (suc at) (end_record ∷ flat rest tl),
      emit_flat_lem rest frames (place_after (suc at) b) tl,
    )
emit_flat_lem (if_else p w m b c rest) frames at tl =
    rw (
      to_else (suc at) b (flat c (end_record ∷ flat rest tl)),
      emit_flat_lem b (0 ∷ frames) (suc at) (else_record ∷ flat c (end_record ∷ flat rest tl)),
      to_end (suc (place_after (suc at) b)) c (flat rest tl),
      emit_flat_lem c (0 ∷ frames) (suc (place_after (suc at) b)) (end_record ∷ flat rest tl),
      emit_flat_lem rest frames (place_after (suc (place_after (suc at) b)) c) tl,
    )

-- the pass over an accepted list of records gives the words of its nested form
pub emit_records : (rs : List Record) → (first_fault [] 0 rs).number ≡ 0
    → emit_flat [] 0 rs ≡ emit 0 (body_in (reading_of rs)) (halt ∷ [])
emit_records rs h =
    ap (λ (l : List Record). emit_flat [] 0 l) (reading_flat rs h) ∙ emit_flat_lem (body_in (reading_of rs)) [] 0 []

-- the same for the bytes of an accepted script
pub emit_script :
    (script : List ℕ) → (script_refusal script).number ≡ 0 → emit_flat [] 0 (records_of script) ≡ words_of script
unfolding words_of script_body
emit_script script h = emit_records (records_of script) (accepts script h).faultless
