-- The central step of the proof: the run of the words of a body follows the walk of the body, step by step, if what comes after the body is
-- followed too. Both stop at the same step if the budget or the log does not suffice. By induction on the body.
use Prim.Native.Nat.{ℕ, zero, suc, ◌≤◌, ◌<◌}
use mathlib.Core.Path.{◌≡◌, refl}
use mathlib.Core.Bool.{Bool, true, false, cond}
use mathlib.Core.List.{List, ◌∷◌}
use native.Mathlib.Omega.{arith}
use borrow.Author.Tests.{ltb-false, ltb-true}
use lib.Dec.{ltb}
use lib.ListN.{length}
use Rattle.compiler.proofs.Places.{after_from}
use Rattle.compiler.specs.Words.{place_after, emit, word}
use Rattle.interpreter.specs.Walk.{Rest, WalkEnd, in_budget, turns, walk, walk_end}
use Rattle.record.specs.declared.Record.{Record}
use Rattle.script.proofs.Loops.{FieldsWithin, LoopsWithin}
use Rattle.script.specs.Nested.{Body, done, write, read, delay, repeat, if, if_else}
use Rattle.semantics.specs.OwnRun.{Run, count_step, one_step}
use Rattle.semantics.specs.World.{after_delay, after_read, shares_one, after_test, after_write}
use Rattle.step.specs.Word.{image_words, word_at}
use Rattle.width.specs.Width.{is_width}
use Rattle.correct.proofs.Follows.{Follows, faults_there, goes_on}
use Rattle.correct.proofs.Steps.{step_again, step_delay, step_enter, step_full, step_jump, step_out, step_past, step_read, step_test, step_write}
use Rattle.correct.proofs.Words.{At, lies_after}

module _ (image : List ℕ) (budget room last : ℕ) where
  -- from this place with these counters, the run of the image follows the rest of a walk
  abbrev pub Leads : ℕ → List ℕ → Rest → Type 0
  Leads at cs rest = (r : Run) → Follows image budget room last at cs r (rest r)

  -- a read, given what comes after it; t: the log has room
  reading :
      (p w at : ℕ) (cs : List ℕ) (r : Run) (x : WalkEnd) → word_at image at ≡ word 2 w p 0 0 → at < image_words image
      → is_width w ≡ true → Follows image budget room last (suc at) cs (one_step (after_read p w) r) x
      → (t : Bool) → ltb (length r.world.logged) room ≡ t
      → Follows image budget room last at cs r (cond (ltb r.steps budget) (cond t x (walk_end 24 r)) (walk_end 19 r))
  reading p w at cs r x h inside f k true e =
      goes_on (step_read image room at cs r.world inside w p h f (ltb-true _ _ e)) k
  reading p w at cs r x h inside f k false e =
      faults_there (step_full image room at cs r.world inside w p h f (ltb-false _ _ e)) (omega arith)

  -- a loop, given what its body does with any counter, and what comes after the loop
  module _
      (b : Body) (at : ℕ) (cs : List ℕ) (after : Rest) (e : word_at image (place_after (suc at) b) ≡ word 5 0 0 (suc at) 0)
      (l : suc (place_after (suc at) b) < image_words image)
      (body : (c : ℕ) (rest : Rest) → Leads (place_after (suc at) b) (c ∷ cs) rest → Leads (suc at) (c ∷ cs) (walk budget room b rest))
      (k : Leads (suc (place_after (suc at) b)) cs after)
    where
      -- its turns after its enter
      turning : (n : ℕ) → Leads (suc at) (suc n ∷ cs) (turns budget (suc n) (walk budget room b) after)
      turning zero =
          body 1 _
          (λ r.
          goes_on (step_out image room _ cs r.world (omega arith) (suc at) e (omega (arith, after_from b (suc at)))) (k (count_step r)))
      turning (suc n) =
          body (suc (suc n)) _
          (λ r.
          goes_on (step_again image room _ cs r.world (omega arith) (suc at) n e (omega (arith, after_from b (suc at))))
          (turning n (count_step r)))

      -- the whole loop. "4 enter (0 jumps to target, else pushes value)"
      looping :
          (n : ℕ) → word_at image at ≡ word 4 0 0 (suc (place_after (suc at) b)) n → n ≤ 65535 → length cs < 8
          → Leads at cs (in_budget budget (λ s. turns budget n (walk budget room b) after (count_step s)))
      looping zero a many few r =
          goes_on (step_past image room at cs r.world (omega (arith, after_from b (suc at))) (suc (place_after (suc at) b)) a l few)
          (k (count_step r))
      looping (suc n) a many few r =
          goes_on
          (step_enter image room at cs r.world (omega (arith, after_from b (suc at))) (suc (place_after (suc at) b)) n a many l few)
          (turning n (count_step r))

  -- the part that a test selects, given what both parts do
  branching :
      {at at' : ℕ} {cs : List ℕ} {r : Run} {x y : WalkEnd} (t : Bool) → Follows image budget room last at cs r x
      → Follows image budget room last at' cs r y → Follows image budget room last (cond t at at') cs r (cond t x y)
  branching true p q = p
  branching false p q = q

  -- h: the words of the body are in the image at this place; l: the place after them is in the image; d: repeats are nested at
  -- most 8 deep; f: widths and values are legal; k: what comes after the body is followed
  pub simulates :
      (b : Body) (at : ℕ) (cs : List ℕ) (after : Rest) (ws : List Record) → At image at (emit at b ws)
      → place_after at b < image_words image → LoopsWithin (length cs) b → FieldsWithin b → Leads (place_after at b) cs after
      → Leads at cs (walk budget room b after)
  simulates done at cs after ws h l d f k r = k r
  simulates (write p w v rest) at cs after ws h l d f k r =
      let i = after_from rest (suc at) in
      goes_on (step_write image room at cs r.world (omega arith) w p v h.0 f.0 f.1)
      (simulates rest (suc at) cs after ws h.1 l d f.2 k (one_step (after_write p w v) r))
  simulates (read p w rest) at cs after ws h l d f k r =
      let i = after_from rest (suc at) in
      reading p w at cs r _ h.0 (omega arith) f.0
      (simulates rest (suc at) cs after ws h.1 l d f.1 k (one_step (after_read p w) r)) (ltb (length r.world.logged) room) refl
  simulates (delay n rest) at cs after ws h l d f k r =
      let i = after_from rest (suc at) in
      goes_on (step_delay image room at cs r.world (omega arith) n h.0 f.0)
      (simulates rest (suc at) cs after ws h.1 l d f.1 k (one_step (after_delay n) r))
  simulates (repeat n b rest) at cs after ws h l d f k r =
      let past = suc (place_after (suc at) b) in
      let i = after_from rest past in
      let loop = word 5 0 0 (suc at) 0 ∷ emit past rest ws in
      let ends = lies_after image b (suc at) loop h.1 in
      looping b at cs (walk budget room rest after) ends.0 (omega arith)
      (λ c s. simulates b (suc at) (c ∷ cs) s loop h.1 (omega arith) d.1 f.1)
      (simulates rest past cs after ws ends.1 l d.2 f.2 k) n h.0 f.0 d.0 r
  simulates (if p w m b rest) at cs after ws h l d f k r =
      let past = place_after (suc at) b in
      let i = after_from b (suc at) in
      let j = after_from rest past in
      let t = one_step (after_test p w) r in
      let following = simulates rest past cs after ws (lies_after image b (suc at) (emit past rest ws) h.1) l d.1 f.3 k in
      goes_on (step_test image room at cs r.world (omega arith) w p past m h.0 f.0 f.1 (omega arith))
      (branching (shares_one p w m r.world)
      (simulates b (suc at) cs _ (emit past rest ws) h.1 (omega arith) d.0 f.2 following t) (following t))
  simulates (if_else p w m b c rest) at cs after ws h l d f k r =
      let middle = suc (place_after (suc at) b) in
      let past = place_after middle c in
      let i = after_from b (suc at) in
      let j = after_from c middle in
      let o = after_from rest past in
      let t = one_step (after_test p w) r in
      let other = emit middle c (emit past rest ws) in
      let ends = lies_after image b (suc at) (word 7 0 0 past 0 ∷ other) h.1 in
      let following = simulates rest past cs after ws (lies_after image c middle (emit past rest ws) ends.1) l d.2 f.4 k in
      goes_on (step_test image room at cs r.world (omega arith) w p middle m h.0 f.0 f.1 (omega arith))
      (branching (shares_one p w m r.world)
      (simulates b (suc at) cs _ (word 7 0 0 past 0 ∷ other) h.1 (omega arith) d.0 f.2
      (λ s.
      goes_on (step_jump image room (place_after (suc at) b) cs s.world (omega arith) past ends.0 (omega arith))
      (following (count_step s)))
      t)
      (simulates c middle cs _ (emit past rest ws) ends.1 (omega arith) d.1 f.3 following t))
