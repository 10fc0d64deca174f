-- The image while it is written: the words so far, then the rest of the buffer, unchanged. Writing one more word keeps this form.
use Prim.Native.Nat.{ℕ, ◌+◌, ◌-◌, ◌*◌}
use mathlib.Core.Path.{◌≡◌, refl, sym, ap, ◌∙◌}
use mathlib.Core.List.{List, [], ◌∷◌, ◌++◌, append_assoc, append-nil}
use native.Mathlib.Omega.{arith}
use borrow.Rule.Slice.PartMut.{put_mid}
use lib.ListN.{length, take, drop, length-append, length-drop}
use lib.Seq.{drop-drop, drop-length, take_all, take_at, drop_at}
use Rattle.record.proofs.ReadBack.{twelve_bytes}
use Rattle.record.specs.Record.{bytes_of, record_size}
use Rattle.record.specs.declared.Record.{Record}
use Rattle.compiler.specs.Words.{image_bytes}

-- overwriting the front of the part that starts at i changes only those bytes of the whole
pub put_part : (xs ys bs : List ℕ) (i n : ℕ) → n ≡ length xs - i → ys ≡ bs ++ drop record_size (take n (drop i xs))
    → put_mid i n xs ys ≡ take i xs ++ (bs ++ drop record_size (drop i xs))
put_part xs ys bs i n e h =
    let l : length (drop i xs) ≡ n = length-drop i xs ∙ sym e in
    let t : take n (drop i xs) ≡ drop i xs = take_all n (drop i xs) (omega arith) in
    let d : drop n (drop i xs) ≡ [] = ap (λ (m : ℕ). drop m (drop i xs)) (sym l) ∙ drop-length (drop i xs) in
    ap (λ (z : List ℕ). take i xs ++ (ys ++ z)) d
    ∙ ap (λ (z : List ℕ). take i xs ++ z) (append-nil ys ∙ h ∙ ap (λ (z : List ℕ). bs ++ drop record_size z) t)

-- an image has 12 bytes for each word
pub image_length : (ws : List Record) → length (image_bytes ws) ≡ record_size * length ws
image_length [] = refl
image_length (w ∷ ws) =
    let a = length-append (bytes_of w) (image_bytes ws) in
    let b = twelve_bytes w in
    let c = image_length ws in
    omega arith

image_append : (us ws : List Record) → image_bytes (us ++ ws) ≡ image_bytes us ++ image_bytes ws
image_append [] ws = refl
image_append (u ∷ us) ws =
    ap (λ (z : List ℕ). bytes_of u ++ z) (image_append us ws) ∙ sym (append_assoc (bytes_of u) (image_bytes us) (image_bytes ws))

-- n words are written; writing word n gives n + 1 words
pub one_more_word : (ws : List Record) (w : Record) (lent image : List ℕ) (n : ℕ) → length ws ≡ n
    → image ≡ image_bytes ws ++ drop (record_size * n) lent
    → take (record_size * n) image ++ (bytes_of w ++ drop record_size (drop (record_size * n) image))
    ≡ image_bytes (ws ++ (w ∷ [])) ++ drop (record_size * (n + 1)) lent
one_more_word ws w lent image n l e =
    let m : length (image_bytes ws) ≡ record_size * n = image_length ws ∙ ap (λ (k : ℕ). record_size * k) l in
    let t : take (record_size * n) image ≡ image_bytes ws = ap (take (record_size * n)) e ∙ take_at (image_bytes ws) (drop (record_size * n) lent) (record_size * n) m in
    let d : drop (record_size * n) image ≡ drop (record_size * n) lent = ap (drop (record_size * n)) e ∙ drop_at (image_bytes ws) (drop (record_size * n) lent) (record_size * n) m in
    let q : record_size * n + record_size ≡ record_size * (n + 1) = omega arith in
    let f : drop record_size (drop (record_size * n) image) ≡ drop (record_size * (n + 1)) lent =
    ap (drop record_size) d ∙ drop-drop record_size (record_size * n) lent ∙ ap (λ (k : ℕ). drop k lent) q in
    let g : image_bytes (ws ++ (w ∷ [])) ≡ image_bytes ws ++ bytes_of w =
    image_append ws (w ∷ []) ∙ ap (λ (z : List ℕ). image_bytes ws ++ z) (append-nil (bytes_of w)) in
    ap (λ (z : List ℕ). z ++ (bytes_of w ++ drop record_size (drop (record_size * n) image))) t
    ∙ ap (λ (z : List ℕ). image_bytes ws ++ (bytes_of w ++ z)) f
    ∙ sym (append_assoc (image_bytes ws) (bytes_of w) (drop (record_size * (n + 1)) lent))
    ∙ ap (λ (z : List ℕ). z ++ drop (record_size * (n + 1)) lent) (sym g)
