-- The words of a body in the image: reading the image at their places returns the words that the compiler wrote (`lies`).
use Prim.Native.Nat.{ℕ, suc, ◌*◌, ◌≤◌, ◌<◌}
use mathlib.Core.Path.{◌≡◌, refl, sym, ap, ◌∙◌}
use mathlib.Core.Bool.{Bool, true, false, cond, false≢true, ◌||◌}
use mathlib.Core.List.{List, [], ◌∷◌, ◌++◌, append_assoc}
use native.Mathlib.Omega.{arith}
use borrow.Author.Tests.{eqb-true, leb-true}
use lib.Dec.{eqb}
use lib.ListN.{length, length-append}
use Rattle.compiler.proofs.Image.{image_length}
use Rattle.compiler.proofs.Places.{after_from}
use Rattle.compiler.specs.Words.{place_after, emit, halt, image_bytes, word}
use Rattle.record.proofs.ReadBack.{Fits, read_back_lem, twelve_bytes}
use Rattle.record.specs.Record.{bytes_of, record_at}
use Rattle.record.specs.declared.Record.{Record}
use Rattle.script.proofs.Loops.{FieldsWithin}
use Rattle.script.specs.Nested.{Body, done, write, read, delay, repeat, if, if_else}
use Rattle.step.specs.Word.{image_words, word_at}
use Rattle.width.specs.Width.{all_ones, fits_width, is_width}
use Rattle.correct.proofs.Ports.{PortsWithin}

-- the image has these words, starting at this place
abbrev pub At : List ℕ → ℕ → List Record → Type 0
At image place [] = Unit {0}
At image place (w ∷ ws) = (word_at image place ≡ w) × At image (suc place) ws

-- the words that follow a body are at the place after it
pub lies_after : (image : List ℕ) (b : Body) (at : ℕ) (ws : List Record) → At image at (emit at b ws) → At image (place_after at b) ws
lies_after image done at ws h = h
lies_after image (write p w v rest) at ws h = lies_after image rest (suc at) ws h.1
lies_after image (read p w rest) at ws h = lies_after image rest (suc at) ws h.1
lies_after image (delay n rest) at ws h = lies_after image rest (suc at) ws h.1
lies_after image (repeat n b rest) at ws h =
    let past = suc (place_after (suc at) b) in
    let i = lies_after image b (suc at) (word 5 0 0 (suc at) 0 ∷ emit past rest ws) h.1 in
    lies_after image rest past ws i.1
lies_after image (if p w m b rest) at ws h =
    let past = place_after (suc at) b in
    lies_after image rest past ws (lies_after image b (suc at) (emit past rest ws) h.1)
lies_after image (if_else p w m b c rest) at ws h =
    let middle = suc (place_after (suc at) b) in
    let past = place_after middle c in
    let i = lies_after image b (suc at) (word 7 0 0 past 0 ∷ emit middle c (emit past rest ws)) h.1 in
    lies_after image rest past ws (lies_after image c middle (emit past rest ws) i.1)

-- ---- the fields of every word fit into their bytes
abbrev AllFit : List Record → Type 0
AllFit [] = Unit {0}
AllFit (w ∷ ws) = Fits w × AllFit ws

width_fits : (w : ℕ) → is_width w ≡ true → w < 256
width_fits w h = pick (eqb w 1) (eqb w 2) (eqb w 4) refl refl refl h
  where
    pick : (a b c : Bool) → eqb w 1 ≡ a → eqb w 2 ≡ b → eqb w 4 ≡ c → (a || (b || c)) ≡ true → w < 256
    pick true b c p q r z = omega (arith, eqb-true w 1 p)
    pick false true c p q r z = omega (arith, eqb-true w 2 q)
    pick false false true p q r z = omega (arith, eqb-true w 4 r)
    pick false false false p q r z = absurd (false≢true z)

value_fits : (w v : ℕ) → fits_width w v ≡ true → v < 0x1_0000_0000
value_fits w v h = pick (eqb w 1) (eqb w 2) (leb-true v (all_ones w) h)
  where
    pick : (a b : Bool) → v ≤ cond a 0xFF (cond b 0xFFFF 0xFFFF_FFFF) → v < 0x1_0000_0000
    pick true b l = omega arith
    pick false true l = omega arith
    pick false false l = omega arith

fit : (k w p t v : ℕ) → k < 256 → w < 256 → p < 65536 → t < 65536 → v < 0x1_0000_0000 → Fits (word k w p t v)
fit k w p t v hk hw hp ht hv =
    record { mark = omega arith; kind = hk; width = hw; port = hp; target = ht; value = hv }

-- a word that uses neither width nor port
bare : (k t v : ℕ) → k < 256 → t < 65536 → v ≤ 65535 → Fits (word k 0 0 t v)
bare k t v hk ht hv = fit k 0 0 t v hk (omega arith) (omega arith) ht (omega arith)

pub all_fit_lem : (b : Body) (at : ℕ) (ws : List Record) → FieldsWithin b → PortsWithin b → place_after at b < 65536 → AllFit ws
    → AllFit (emit at b ws)
all_fit_lem done at ws f p l h = h
all_fit_lem (write port w v rest) at ws f p l h = (
  fit 1 w port 0 v (omega arith) (width_fits w f.0) p.0 (omega arith) (value_fits w v f.1),
  all_fit_lem rest (suc at) ws f.2 p.1 l h,
)
all_fit_lem (read port w rest) at ws f p l h = (
  fit 2 w port 0 0 (omega arith) (width_fits w f.0) p.0 (omega arith) (omega arith),
  all_fit_lem rest (suc at) ws f.1 p.1 l h,
)
all_fit_lem (delay n rest) at ws f p l h = (bare 3 0 n (omega arith) (omega arith) f.0, all_fit_lem rest (suc at) ws f.1 p l h)
all_fit_lem (repeat n b rest) at ws f p l h =
    let past = suc (place_after (suc at) b) in
    let i = after_from b (suc at) in
    let j = after_from rest past in (
      bare 4 past n (omega arith) (omega arith) f.0,
      all_fit_lem b (suc at) (word 5 0 0 (suc at) 0 ∷ emit past rest ws) f.1 p.0 (omega arith)
          (bare 5 (suc at) 0 (omega arith) (omega arith) (omega arith), all_fit_lem rest past ws f.2 p.1 l h),
    )
all_fit_lem (if port w m b rest) at ws f p l h =
    let past = place_after (suc at) b in
    let j = after_from rest past in (
      fit 6 w port past m (omega arith) (width_fits w f.0) p.0 (omega arith) (value_fits w m f.1),
      all_fit_lem b (suc at) (emit past rest ws) f.2 p.1 (omega arith) (all_fit_lem rest past ws f.3 p.2 l h),
    )
all_fit_lem (if_else port w m b c rest) at ws f p l h =
    let middle = suc (place_after (suc at) b) in
    let past = place_after middle c in
    let i = after_from c middle in
    let j = after_from rest past in (
      fit 6 w port middle m (omega arith) (width_fits w f.0) p.0 (omega arith) (value_fits w m f.1),
      all_fit_lem b (suc at) (word 7 0 0 past 0 ∷ emit middle c (emit past rest ws)) f.2 p.1 (omega arith) (
        bare 7 past 0 (omega arith) (omega arith) (omega arith),
        all_fit_lem c middle (emit past rest ws) f.3 p.2 (omega arith) (all_fit_lem rest past ws f.4 p.3 l h),
      ),
    )

pub halt_fits : Fits halt
halt_fits = bare 8 0 0 (omega arith) (omega arith) (omega arith)

-- ---- the image
lies_from : (front : List ℕ) (place : ℕ) (ws : List Record) → length front ≡ 12 * place → AllFit ws
    → At (front ++ image_bytes ws) place ws
lies_from front place [] e h = tt
lies_from front place (w ∷ ws) e h =
    let more = front ++ bytes_of w in
    let l : length more ≡ 12 * suc place = omega (arith, length-append front (bytes_of w), twelve_bytes w) in
    let a : At (more ++ image_bytes ws) (suc place) ws = lies_from more (suc place) ws l h.1 in (
      ap (record_at (front ++ (bytes_of w ++ image_bytes ws))) (sym e) ∙ read_back_lem front (image_bytes ws) w h.0,
      rw append_assoc at a,
    )

pub lies : (ws : List Record) → AllFit ws → At (image_bytes ws) 0 ws
lies ws h = lies_from [] 0 ws refl h

pub image_words_lem : (ws : List Record) → image_words (image_bytes ws) ≡ length ws
image_words_lem ws = omega (arith, image_length ws)
