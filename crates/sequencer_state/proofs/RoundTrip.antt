-- Loading what was saved returns the sequencer, and saving what was loaded returns the bytes.
use Prim.Native.Nat.{ℕ, ◌<◌}
use mathlib.Core.Path.{◌≡◌, refl, ap, ◌∙◌}
use mathlib.Core.List.{List}
use lib.ListN.{get_or, length}
use Rattle.lists.proofs.Slice.{slice_whole}
use Rattle.lists.specs.Slice.{slice}
use Rattle.little_endian.proofs.ReadBack.{byte0_four, byte1_four, byte2_four, byte3_four, four_back}
use Rattle.little_endian.specs.Bytes.{byte0, byte1, byte2, byte3, four}
use Rattle.outcome.specs.Refusal.{refusal}
use Rattle.step.specs.declared.Sequencer.{Sequencer}
use Rattle.sequencer_state.specs.State.{loaded, sequencer_bytes, sequencer_from, sequencer_size}
use Rattle.sequencer_state.specs.State.{LoadResult}

-- each field fits four bytes, and there are eight counters. The types of the code ensure this, except for `used`, which is at most 8 in a valid
-- sequencer
pub record Typed (s : Sequencer) : Type 0 where
  pub place : s.place < 0x1_0000_0000
  pub used : s.used < 0x1_0000_0000
  pub counter : (k : ℕ) → get_or s.counters k 0 < 0x1_0000_0000
  pub counters : length s.counters ≡ 8

-- ---- a sequencer, saved and loaded
pub bytes_length_lem : (s : Sequencer) → length (sequencer_bytes s) ≡ sequencer_size
bytes_length_lem s = refl

module _ (s : Sequencer) (t : Typed s) where
  pub sequencer_back_lem : sequencer_from (sequencer_bytes s) ≡ s
  unfolding sequencer_from
  sequencer_back_lem =
      let c : ℕ → ℕ = λ k. get_or s.counters k 0 in
      let b : (k : ℕ) → four (byte0 (c k)) (byte1 (c k)) (byte2 (c k)) (byte3 (c k)) ≡ c k = λ k. four_back (c k) (t.counter k) in
      rw (four_back s.place t.place, four_back s.used t.used, b 0, b 1, b 2, b 3, b 4, b 5, b 6, b 7, slice_whole 0 8 s.counters t.counters)

  -- the same for `load`, which also checks the length
  pub load_back : loaded (sequencer_bytes s) ≡ record { refusal = refusal 0 0; sequencer = s }
  unfolding loaded
  load_back = ap {B = LoadResult} (λ (x : Sequencer). record { refusal = refusal 0 0; sequencer = x }) sequencer_back_lem

-- ---- bytes, loaded and saved
module _ (bytes : List ℕ) (byte : (k : ℕ) → get_or bytes k 0 < 256) where
  abbrev b : ℕ → ℕ
  b k = get_or bytes k 0

  -- each byte of the number that four bytes stand for
  first : (i j k l : ℕ) → byte0 (four (b i) (b j) (b k) (b l)) ≡ b i
  first i j k l = byte0_four (b i) (b j) (b k) (b l) (byte i) (byte j) (byte k) (byte l)

  second : (i j k l : ℕ) → byte1 (four (b i) (b j) (b k) (b l)) ≡ b j
  second i j k l = byte1_four (b i) (b j) (b k) (b l) (byte i) (byte j) (byte k) (byte l)

  third : (i j k l : ℕ) → byte2 (four (b i) (b j) (b k) (b l)) ≡ b k
  third i j k l = byte2_four (b i) (b j) (b k) (b l) (byte i) (byte j) (byte k) (byte l)

  fourth : (i j k l : ℕ) → byte3 (four (b i) (b j) (b k) (b l)) ≡ b l
  fourth i j k l = byte3_four (b i) (b j) (b k) (b l) (byte i) (byte j) (byte k) (byte l)

  each_byte : sequencer_bytes (sequencer_from bytes) ≡ slice 0 sequencer_size 0 bytes
  unfolding sequencer_from
  each_byte = simp (first, second, third, fourth)

pub bytes_back :
    (bytes : List ℕ) → length bytes ≡ sequencer_size → ((k : ℕ) → get_or bytes k 0 < 256) → sequencer_bytes (sequencer_from bytes) ≡ bytes
bytes_back bytes n byte = each_byte bytes byte ∙ slice_whole 0 sequencer_size bytes n
