-- The loop invariant of `emit`: what holds before record k, that a record keeps it, and that the halt after the last record
-- completes the image.
use Prim.Native.Nat.{ℕ, suc, ◌+◌, ◌-◌, ◌*◌, ◌≤◌, ◌<◌}
use mathlib.Core.Path.{◌≡◌, refl, sym, ap, ◌∙◌}
use mathlib.Core.Bool.{Bool, true, false, cond, not, ◌&&◌}
use mathlib.Core.List.{List, [], ◌∷◌, ◌++◌, append_assoc}
use native.Mathlib.Numerals.{add-one}
use native.Mathlib.Omega.{arith}
use lib.Dec.{eqb}
use lib.ListN.{length, get_or, take, drop, length-append}
use Rattle.record.specs.Record.{bytes_of, record_at, record_size}
use Rattle.record.specs.declared.Record.{Record}
use Rattle.script.specs.Kinds.{word_kind_for}
use Rattle.script.specs.Records.{record_count, records_from, records_of}
use Rattle.script.specs.Refusals.{innermost, script_refusal}
use Rattle.script.proofs.Flat.{accepts}
use Rattle.script.proofs.Records.{Counted, after_last_lem, counts, from_here}
use Rattle.compiler.specs.Emit.{look_ahead, TargetsFrom, emit_flat, frames_after, emits_word, target_for, word_for}
use Rattle.compiler.specs.Words.{halt, image_bytes, word, words_of}
use Rattle.compiler.proofs.Ahead.{emit_script}
use Rattle.compiler.proofs.Image.{one_more_word}
use Rattle.compiler.proofs.Places.{count_words}

-- ---- what holds before record k
pub record Emitting (script lent targets image : List ℕ) (count place k : ℕ) : Type 0 where
  pub counted : Counted script count
  pub few_words_lem : length (words_of script) ≤ 1024
  pub fits : record_size * length (words_of script) ≤ length lent
  pub inside : k ≤ count
  pub frames : List ℕ
  pub aimed : TargetsFrom targets k frames place (records_from (count - k) k script)
  pub words : List Record
  pub whole : words ++ emit_flat frames place (records_from (count - k) k script) ≡ words_of script
  pub many : length words ≡ place
  pub written : image ≡ image_bytes words ++ drop (record_size * place) lent
  pub same : length image ≡ length lent

-- it holds at the start: no word is written
pub begins : (script lent targets : List ℕ) (count : ℕ) → count ≡ record_count script
    → (script_refusal script).number ≡ 0 → record_size * length (words_of script) ≤ length lent
    → TargetsFrom targets 0 [] 0 (records_of script) → Emitting script lent targets lent count 0 0
unfolding records_of
begins script lent targets count e h l a =
    let c : count - 0 ≡ record_count script = omega arith in
    record {
      counted = counts script count e h;
      few_words_lem = rw (count_words script h) at (accepts script h).few_words_lem;
      fits = l;
      inside = omega arith;
      frames = [];
      aimed = rw c a;
      words = [];
      whole = rw c (emit_script script h);
      many = refl;
      written = refl;
      same = refl;
    }

-- ---- at least one more word follows, so there is room for it
some_word : (rs : List Record) (frames : List ℕ) (place : ℕ) → 1 ≤ length (emit_flat frames place rs)
some_word [] frames place = omega arith
some_word (r ∷ rs) frames place =
    pick (emits_word (innermost frames) r.kind) (some_word rs (frames_after frames place r.kind) place)
  where
    pick : (b : Bool) → 1 ≤ length (emit_flat (frames_after frames place r.kind) place rs)
        → 1
        ≤ length
        (cond b
        (word_for (innermost frames) (look_ahead [] (suc place) rs) r ∷ emit_flat (frames_after frames place r.kind) (suc place) rs)
        (emit_flat (frames_after frames place r.kind) place rs))
    pick true h = omega arith
    pick false h = h

-- the target of a record shows whether it becomes a word, as its frame does
emits_by : (frame lead kind : ℕ) → emits_word (target_for frame lead kind) kind ≡ emits_word frame kind
emits_by frame lead kind = pick (eqb kind 7) _
  where
    pick : (b : Bool) (t : ℕ) → not (b && eqb (cond b frame t) 0) ≡ not (b && eqb frame 0)
    pick true t = refl
    pick false t = refl

module _ {script lent targets image : List ℕ} {count place k : ℕ} (g : Emitting script lent targets image count place k) where
  pub has_room : (record_size * place + record_size ≤ length image) × (place ≤ 1024)
  has_room =
      let rest = emit_flat g.frames place (records_from (count - k) k script) in
      let n : place + 1 ≤ length (words_of script) =
      omega (
        arith,
        some_word (records_from (count - k) k script) g.frames place,
        length-append g.words rest,
        ap length g.whole,
        g.many,
      ) in
      (omega (arith, g.fits, g.same), omega (arith, g.few_words_lem))

  -- ---- record k
  module _ {r : Record} (h : k < count) (e : r ≡ record_at script (record_size * k)) where
    abbrev rest : List Record
    rest = records_from (count - (k + 1)) (k + 1) script

    abbrev lead : ℕ
    lead = look_ahead [] (suc place) rest

    here : records_from (count - k) k script ≡ r ∷ rest
    here = rw (from_here script count k h, e)

    aimed_on : TargetsFrom targets k g.frames place (r ∷ rest)
    aimed_on = rw here at g.aimed

    target_is : get_or targets k 0 ≡ target_for (innermost g.frames) lead r.kind
    target_is = aimed_on.0

    emits_so : {n : ℕ} → n ≡ r.kind → emits_word (get_or targets k 0) n ≡ emits_word (innermost g.frames) r.kind
    emits_so q = rw (q, target_is) (emits_by (innermost g.frames) lead r.kind)

    unrolled : g.words ++ emit_flat g.frames place (r ∷ rest) ≡ words_of script
    unrolled =
        ap (λ (l : List Record). g.words ++ emit_flat g.frames place l) (sym here) ∙ g.whole

    -- it becomes a word, which is written; n is the number of its kind
    pub goes_on : {n : ℕ} {w : Record} {now : List ℕ} → n ≡ r.kind → emits_word (get_or targets k 0) n ≡ true
        → w ≡ word (word_kind_for n) r.width r.port (get_or targets k 0) r.value
        → now ≡ take (record_size * place) image ++ (bytes_of w ++ drop record_size (drop (record_size * place) image)) → length now ≡ length image
        → Emitting script lent targets now count (place + 1) (k + 1)
    goes_on {w = w} q b m i l =
        let y : emits_word (innermost g.frames) r.kind ≡ true = sym (emits_so q) ∙ b in
        record {
          counted = g.counted;
          few_words_lem = g.few_words_lem;
          fits = g.fits;
          inside = omega arith;
          frames = frames_after g.frames place r.kind;
          aimed = rw (add-one k, add-one place) (rw (y, add-one k) at aimed_on.1);
          words = g.words ++ (w ∷ []);
          whole = rw (append_assoc, m, q, target_is, add-one place) (rw y at unrolled);
          many = length-append g.words (w ∷ []) ∙ (rw g.many);
          written = i ∙ one_more_word g.words w lent image place g.many g.written;
          same = l ∙ g.same;
        }

    -- it becomes no word
    pub passes : {n : ℕ} → n ≡ r.kind → emits_word (get_or targets k 0) n ≡ false → Emitting script lent targets image count place (k + 1)
    passes q b =
        let n : emits_word (innermost g.frames) r.kind ≡ false = sym (emits_so q) ∙ b in
        record {
          counted = g.counted;
          few_words_lem = g.few_words_lem;
          fits = g.fits;
          inside = omega arith;
          frames = frames_after g.frames place r.kind;
          aimed = rw (add-one k) (rw (n, add-one k) at aimed_on.1);
          words = g.words;
          whole = rw n at unrolled;
          many = g.many;
          written = g.written;
          same = g.same;
        }

  -- the halt completes the image
  pub completes : {now : List ℕ} → count ≤ k
      → now ≡ take (record_size * place) image ++ (bytes_of halt ++ drop record_size (drop (record_size * place) image))
      → now ≡ image_bytes (words_of script) ++ drop (record_size * length (words_of script)) lent
  completes h i =
      let e : g.words ++ (halt ∷ []) ≡ words_of script =
      rw (after_last_lem script count k h) at g.whole in
      let n : place + 1 ≡ length (words_of script) =
      sym (ap length (sym e) ∙ length-append g.words (halt ∷ []) ∙ (rw g.many)) in
      i ∙ one_more_word g.words halt lent image place g.many g.written ∙ (rw (e, n))
