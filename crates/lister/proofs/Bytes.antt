-- The bytes of the records of a script are the script. Each record has twelve bytes, and a byte that is read into a field and written again is the
-- same, because it is less than 256.
use Prim.Native.Nat.{ℕ, zero, suc, ◌+◌, ◌*◌, ◌/◌, ◌%◌, ◌<◌}
use mathlib.Core.Path.{◌≡◌, refl, ap, ◌∙◌}
use mathlib.Core.List.{List, ◌∷◌, ◌++◌}
use lib.ListN.{get_or, length}
use native.Mathlib.Numerals.{towards_suc}
use native.Mathlib.Omega.{arith}
use Rattle.assembler.specs.Assemble.{record_bytes}
use Rattle.lists.specs.All.{All}
use Rattle.lists.specs.Slice.{slice}
use Rattle.lists.proofs.All.{at_any}
use Rattle.lists.proofs.Slice.{slice_whole}
use Rattle.record.specs.Record.{bytes_of, record_at}
use Rattle.script.specs.Records.{records_from, records_of}

abbrev pub AreBytes : List ℕ → Type 0
AreBytes = All (λ b. b < 256)

same : {x y : ℕ} {xs ys : List ℕ} → x ≡ y → xs ≡ ys → x ∷ xs ≡ y ∷ ys
same p q = rw (p, q)

module _ (bytes : List ℕ) (are : AreBytes bytes) where
  abbrev at : ℕ → ℕ
  at k = get_or bytes k 0

  below : (k : ℕ) → at k < 256
  below = at_any (λ b. b < 256) (omega arith) bytes are

  pub port_fits : (place : ℕ) → (record_at bytes place).port < 65536
  unfolding record_at
  port_fits place = omega (arith, below (place + 4), below (place + 4 + 1))

  -- ---- a field of one, two or four bytes, read and written, in front of other bytes
  module _ {xs ys : List ℕ} (e : xs ≡ ys) where
    one : (i : ℕ) → at i % 256 ∷ xs ≡ at i ∷ ys
    one i = let p = below i in same (omega arith) e

    two : (i j : ℕ) → (at i + at j * 256) % 256 ∷ (at i + at j * 256) / 256 % 256 ∷ xs ≡ at i ∷ at j ∷ ys
    two i j =
        let p = below i in
        let q = below j in
        same (omega arith) (same (omega arith) e)

    four : (i j k l n : ℕ) → n ≡ at i + at j * 256 + (at k + at l * 256) * 65536
        → n % 256 ∷ n / 256 % 256 ∷ n / 256 / 256 % 256 ∷ n / 256 / 256 / 256 % 256 ∷ xs ≡ at i ∷ at j ∷ at k ∷ at l ∷ ys
    four i j k l n h =
        let p = below i in
        let q = below j in
        let r = below k in
        let s = below l in
        same (omega arith) (same (omega arith) (same (omega arith) (same (omega arith) e)))

  one_record : (place : ℕ) → bytes_of (record_at bytes place) ≡ slice 0 12 place bytes
  unfolding record_at bytes_of
  one_record place = simp towards_suc (two (one (one (two (two (four refl _ _ _ _ _ refl) _ _) _ _) _) _) _ _)

-- ---- all records
-- two slices, one after the other
slices : (n k at : ℕ) (xs : List ℕ) → slice 0 n at xs ++ slice 0 k (n + at) xs ≡ slice 0 (n + k) at xs
slices zero k at xs =
    let e : 0 + at ≡ at = omega arith in
    let f : 0 + k ≡ k = omega arith in
    rw (e, f)
slices (suc n) k at xs =
    let e : suc n + at ≡ n + suc at = omega arith in
    let f : suc n + k ≡ suc (n + k) = omega arith in
    rw (e, f) (ap (◌∷◌ (get_or xs at 0)) (slices n k (suc at) xs))

module _ (bytes : List ℕ) (are : AreBytes bytes) where
  records_bytes : (n place : ℕ) → record_bytes (records_from n place bytes) ≡ slice 0 (12 * n) (12 * place) bytes
  records_bytes zero place = refl
  records_bytes (suc n) place =
      let e : 12 * suc n ≡ 12 + 12 * n = omega arith in
      let f : 12 * suc place ≡ 12 + 12 * place = omega arith in
      rw (one_record bytes are (12 * place), records_bytes n (suc place), e, f) (slices 12 (12 * n) (12 * place) bytes)

  pub script_bytes : length bytes % 12 ≡ 0 → record_bytes (records_of bytes) ≡ bytes
  unfolding records_of
  script_bytes e = records_bytes (length bytes / 12) 0 ∙ slice_whole 0 (12 * (length bytes / 12)) bytes (omega arith)
