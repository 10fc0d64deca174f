-- One step of the sequencer at each kind of word that the compiler writes: the word has no fault, and the step executes it,
-- if the place and the target are in the image. Only a read can fault, when the log is full.
use Prim.Native.Nat.{ℕ, zero, suc, ◌-◌, ◌≤◌, ◌<◌}
use mathlib.Core.Path.{◌≡◌, refl, ◌∙◌}
use mathlib.Core.Bool.{true, false, cond}
use mathlib.Core.List.{List, ◌∷◌}
use native.Mathlib.Omega.{arith}
use borrow.Author.Tests.{le-leb, lt-leb, ne_eqb}
use lib.Dec.{eqb}
use lib.ListN.{length}
use Rattle.compiler.specs.Words.{halt, word}
use Rattle.record.specs.declared.Record.{Record}
use Rattle.semantics.specs.World.{World, after_delay, after_read, shares_one, after_test, after_write}
use Rattle.step.specs.Step.{Machine, execute, continues, faults, halts, machine, next_step, step_from, word_fault}
use Rattle.step.specs.Word.{bad_word, image_words, word_at}
use Rattle.width.specs.Width.{fits_width, is_width}

not_zero : (n : ℕ) → eqb (suc n) 0 ≡ false
not_zero n = ne_eqb (suc n) 0 (λ e. omega arith)

-- ---- no word that the compiler writes has a fault, except a read when the log is full
module _ (words room used logged : ℕ) where
  write_good : (w p v : ℕ) → is_width w ≡ true → fits_width w v ≡ true → word_fault words room used logged (word 1 w p 0 v) ≡ 0
  unfolding word_fault bad_word
  write_good w p v hw hv = rw (hw, hv)

  read_good : (w p : ℕ) → is_width w ≡ true → logged < room → word_fault words room used logged (word 2 w p 0 0) ≡ 0
  unfolding word_fault bad_word
  read_good w p hw l = rw (hw, lt-leb room logged l)

  read_full : (w p : ℕ) → is_width w ≡ true → room ≤ logged → word_fault words room used logged (word 2 w p 0 0) ≡ 24
  unfolding word_fault bad_word
  read_full w p hw l = rw (hw, le-leb room logged l)

  delay_good : (n : ℕ) → n ≤ 65535 → word_fault words room used logged (word 3 0 0 0 n) ≡ 0
  unfolding word_fault bad_word
  delay_good n h = rw (le-leb n 65535 h)

  enter_good : (t n : ℕ) → n ≤ 65535 → t < words → used < 8 → word_fault words room used logged (word 4 0 0 t n) ≡ 0
  unfolding word_fault bad_word
  enter_good t zero h a l = rw (lt-leb words t a)
  enter_good t (suc n) h a l = rw (le-leb (suc n) 65535 h, lt-leb words t a, not_zero n, lt-leb 8 used l)

  loop_end_good : (t : ℕ) → t < words → 0 < used → word_fault words room used logged (word 5 0 0 t 0) ≡ 0
  unfolding word_fault bad_word
  loop_end_good t a l = rw (lt-leb words t a, ne_eqb used 0 (λ e. omega arith))

  test_good : (w p t v : ℕ) → is_width w ≡ true → fits_width w v ≡ true → t < words → word_fault words room used logged (word 6 w p t v) ≡ 0
  unfolding word_fault bad_word
  test_good w p t v hw hv a = rw (hw, hv, lt-leb words t a)

  jump_good : (t : ℕ) → t < words → word_fault words room used logged (word 7 0 0 t 0) ≡ 0
  unfolding word_fault bad_word
  jump_good t a = rw (lt-leb words t a)

  halt_good : word_fault words room used logged halt ≡ 0
  unfolding word_fault bad_word
  halt_good = refl

-- ---- the step
module _ (image : List ℕ) (room : ℕ) where
  -- a word faults or, without a fault, is executed or halts
  takes :
      {fault : ℕ} (r : Record) (m : Machine) → m.place < image_words image → word_at image m.place ≡ r
      → word_fault (image_words image) room (length m.counters) (length m.world.logged) r ≡ fault
      → next_step image room m ≡ step_from r fault m
  unfolding next_step
  takes r m l e h = rw (lt-leb (image_words image) m.place l, e, h)

  module _ (place : ℕ) (cs : List ℕ) (world : World) (inside : place < image_words image) where
    pub step_write : (w p v : ℕ) → word_at image place ≡ word 1 w p 0 v → is_width w ≡ true → fits_width w v ≡ true
        → next_step image room (machine place cs world) ≡ continues (machine (suc place) cs (after_write p w v world))
    unfolding execute
    step_write w p v e hw hv =
        takes (word 1 w p 0 v) (machine place cs world) inside e (write_good _ _ _ _ w p v hw hv)

    pub step_read : (w p : ℕ) → word_at image place ≡ word 2 w p 0 0 → is_width w ≡ true → length world.logged < room
        → next_step image room (machine place cs world) ≡ continues (machine (suc place) cs (after_read p w world))
    unfolding execute
    step_read w p e hw l = takes (word 2 w p 0 0) (machine place cs world) inside e (read_good _ _ _ _ w p hw l)

    pub step_full : (w p : ℕ) → word_at image place ≡ word 2 w p 0 0 → is_width w ≡ true → room ≤ length world.logged
        → next_step image room (machine place cs world) ≡ faults 24
    step_full w p e hw l = takes (word 2 w p 0 0) (machine place cs world) inside e (read_full _ _ _ _ w p hw l)

    pub step_delay : (n : ℕ) → word_at image place ≡ word 3 0 0 0 n → n ≤ 65535
        → next_step image room (machine place cs world) ≡ continues (machine (suc place) cs (after_delay n world))
    unfolding execute
    step_delay n e h = takes (word 3 0 0 0 n) (machine place cs world) inside e (delay_good _ _ _ _ n h)

    -- "4 enter (0 jumps to target, else pushes value)"
    pub step_past : (t : ℕ) → word_at image place ≡ word 4 0 0 t 0 → t < image_words image → length cs < 8
        → next_step image room (machine place cs world) ≡ continues (machine t cs world)
    unfolding execute
    step_past t e a l =
        takes (word 4 0 0 t 0) (machine place cs world) inside e (enter_good _ _ _ _ t 0 (omega arith) a l)

    pub step_enter : (t n : ℕ) → word_at image place ≡ word 4 0 0 t (suc n) → suc n ≤ 65535 → t < image_words image
        → length cs < 8
        → next_step image room (machine place cs world) ≡ continues (machine (suc place) (suc n ∷ cs) world)
    unfolding execute
    step_enter t n e h a l =
        takes (word 4 0 0 t (suc n)) (machine place cs world) inside e (enter_good _ _ _ _ t (suc n) h a l) ∙ rw (not_zero n)

    -- "5 loop end (one off the top; to target if not 0, else pop and next)"
    pub step_again : (t n : ℕ) → word_at image place ≡ word 5 0 0 t 0 → t < image_words image
        → next_step image room (machine place (suc (suc n) ∷ cs) world) ≡ continues (machine t (suc n ∷ cs) world)
    unfolding execute
    step_again t n e a =
        takes (word 5 0 0 t 0) (machine place (suc (suc n) ∷ cs) world) inside e (loop_end_good _ _ _ _ t a (omega arith))
        ∙ (let o : suc (suc n) - 1 ≡ suc n = omega arith in rw (o, not_zero n))

    pub step_out : (t : ℕ) → word_at image place ≡ word 5 0 0 t 0 → t < image_words image
        → next_step image room (machine place (1 ∷ cs) world) ≡ continues (machine (suc place) cs world)
    unfolding execute
    step_out t e a =
        takes (word 5 0 0 t 0) (machine place (1 ∷ cs) world) inside e (loop_end_good _ _ _ _ t a (omega arith))

    -- "6 test (to target if no shared one)"
    pub step_test : (w p t v : ℕ) → word_at image place ≡ word 6 w p t v → is_width w ≡ true → fits_width w v ≡ true
        → t < image_words image
        → next_step image room (machine place cs world)
        ≡ continues (machine (cond (shares_one p w v world) (suc place) t) cs (after_test p w world))
    unfolding execute
    step_test w p t v e hw hv a =
        takes (word 6 w p t v) (machine place cs world) inside e (test_good _ _ _ _ w p t v hw hv a)

    pub step_jump : (t : ℕ) → word_at image place ≡ word 7 0 0 t 0 → t < image_words image
        → next_step image room (machine place cs world) ≡ continues (machine t cs world)
    unfolding execute
    step_jump t e a = takes (word 7 0 0 t 0) (machine place cs world) inside e (jump_good _ _ _ _ t a)

    pub step_halt : word_at image place ≡ halt → next_step image room (machine place cs world) ≡ halts
    step_halt e = takes halt (machine place cs world) inside e (halt_good _ _ _ _)
