-- The number of words of a body: the number of places that it takes, and the number that the scan counts (`count_words`).
use Prim.Native.Nat.{ℕ, suc, ◌+◌, ◌≤◌}
use mathlib.Core.Path.{◌≡◌, ap, ◌∙◌}
use mathlib.Core.List.{List, [], ◌∷◌}
use lib.ListN.{length}
use native.Mathlib.Omega.{arith}
use Rattle.record.specs.declared.Record.{Record}
use Rattle.script.specs.Nested.{Body, done, write, read, delay, repeat, if, if_else, reading_of, body_in, script_body, flat}
use Rattle.script.specs.Records.{records_of}
use Rattle.script.specs.Refusals.{first_fault, script_refusal, word_count, words_in}
use Rattle.script.specs.Grammar.{words_for}
use Rattle.script.proofs.Flat.{accepts, reading_flat}
use Rattle.script.proofs.Grammar.{words_flat}
use Rattle.compiler.specs.Words.{place_after, emit, halt, word, words_of}

-- a body takes one place for each of its words
after_words : (b : Body) (at : ℕ) → place_after at b ≡ at + words_for b
after_words done at = omega arith
after_words (write p w v rest) at = let i = after_words rest (suc at) in omega arith
after_words (read p w rest) at = let i = after_words rest (suc at) in omega arith
after_words (delay n rest) at = let i = after_words rest (suc at) in omega arith
after_words (repeat n b rest) at =
    let i = after_words b (suc at) in
    let j = after_words rest (suc (place_after (suc at) b)) in
    omega arith
after_words (if p w m b rest) at =
    let i = after_words b (suc at) in
    let j = after_words rest (place_after (suc at) b) in
    omega arith
after_words (if_else p w m b c rest) at =
    let i = after_words b (suc at) in
    let j = after_words c (suc (place_after (suc at) b)) in
    let k = after_words rest (place_after (suc (place_after (suc at) b)) c) in
    omega arith

-- the place after a body is not before its first place
pub after_from : (b : Body) (at : ℕ) → at ≤ place_after at b
after_from b at = omega (arith, after_words b at)

-- a body has one word for each place from its first to the one after it
pub emit_length : (b : Body) (at : ℕ) (ws : List Record) → length (emit at b ws) + at ≡ place_after at b + length ws
emit_length done at ws = omega arith
emit_length (write p w v rest) at ws = let i = emit_length rest (suc at) ws in omega arith
emit_length (read p w rest) at ws = let i = emit_length rest (suc at) ws in omega arith
emit_length (delay n rest) at ws = let i = emit_length rest (suc at) ws in omega arith
emit_length (repeat n b rest) at ws =
    let l = emit (suc (place_after (suc at) b)) rest ws in
    let i = emit_length b (suc at) (word 5 0 0 (suc at) 0 ∷ l) in
    let j = emit_length rest (suc (place_after (suc at) b)) ws in
    omega arith
emit_length (if p w m b rest) at ws =
    let i = emit_length b (suc at) (emit (place_after (suc at) b) rest ws) in
    let j = emit_length rest (place_after (suc at) b) ws in
    omega arith
emit_length (if_else p w m b c rest) at ws =
    let middle = suc (place_after (suc at) b) in
    let l = emit (place_after middle c) rest ws in
    let i = emit_length b (suc at) (word 7 0 0 (place_after middle c) 0 ∷ emit middle c l) in
    let j = emit_length c middle l in
    let k = emit_length rest (place_after middle c) ws in
    omega arith

-- the scan counts one word for each place of a body
pub count_flat : (b : Body) (blocks : List ℕ) (at : ℕ) (tl : List Record)
    → word_count blocks (flat b tl) + at ≡ place_after at b + word_count blocks tl
count_flat b blocks at tl = omega (arith, words_flat b blocks tl, after_words b at)

-- for an accepted list of records, the scan counts the words of the body and the halt
pub count_records : (rs : List Record) → (first_fault [] 0 rs).number ≡ 0
    → word_count [] rs ≡ suc (place_after 0 (body_in (reading_of rs)))
count_records rs h =
    let b = body_in (reading_of rs) in
    let i : word_count [] (flat b []) ≡ suc (place_after 0 b) = let c = count_flat b [] 0 [] in omega arith in
    ap (λ (l : List Record). word_count [] l) (reading_flat rs h) ∙ i

-- the scan counts exactly the words of an accepted script
pub count_words : (script : List ℕ) → (script_refusal script).number ≡ 0 → words_in script ≡ length (words_of script)
unfolding words_of script_body
count_words script h =
    let b = body_in (reading_of (records_of script)) in
    let i = count_records (records_of script) (accepts script h).faultless in
    let j = emit_length b 0 (halt ∷ []) in
    omega arith
