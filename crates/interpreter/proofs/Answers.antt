-- What `apply_answer` does for a write, a read and an if, by the kind of the record.
use Rattle.std.proofs.Common.{◌≡◌, ℕ, ◌+◌, ◌≤◌, Bool, true, false, cond, not, ◌⊎◌, inl, inr, List, length, drop, refl, sym, ap, ◌∙◌}
use mathlib.Core.Bool.{false≢true}
use lib.Dec.{eqb}
use lib.ListN.{set}
use Rattle.log_entry.specs.Entry.{log_entry}
use Rattle.mask.specs.Mask.{has_bit}
use Rattle.record.specs.WordKinds.{word_kind_number}
use Rattle.record.specs.declared.Record.{Record}
use Rattle.record.specs.declared.word_kind.WordKind.{WordKind}
use Rattle.script.specs.Kinds.{kind_number, word_kind_for}
use Rattle.script.specs.declared.kind.RecordKind.{RecordKind}
use Rattle.script.specs.declared.kind.RecordKind.TheVariants.{Delay, Else, End, If, Read, Repeat, Write}
use Rattle.semantics.specs.World.{events_after}
use Rattle.step.specs.Effects as step
use Rattle.step.specs.declared.execute.Position.{Position}
use Rattle.interpreter.specs.State.{is_access}

-- the next place: an if whose mask has no common 1 with the value read continues at its partner
abbrev pub answer_place : Record → (partner value place : ℕ) → ℕ
answer_place r partner value place =
    cond (eqb r.kind 2) (place + 1) (cond (eqb r.kind 1) (place + 1) (cond (has_bit r.value value) (place + 1) partner))

pub record AnswerEffect (r : Record) (partner owner value : ℕ) (events : List ℕ) (x : Position) (log : List ℕ) (y : Position) (log' : List ℕ)
    : Type 0 where
  pub used : y.used ≡ x.used
  pub place : y.place ≡ answer_place r partner value x.place
  pub inside : y.taken ≤ length events
  pub left : drop y.taken events ≡ events_after (drop x.taken events)
  pub logged : y.logged ≡ cond (eqb r.kind 2) (x.logged + 1) x.logged
  pub lines : log' ≡ cond (eqb r.kind 2) (set log x.logged (log_entry owner value)) log

swapped : (b : Bool) (m n : ℕ) → cond (not b) m n ≡ cond b n m
swapped true m n = refl
swapped false m n = refl

-- the kind is one of three
pub accesses :
    {n : ℕ} (kind : RecordKind) → kind_number kind ≡ n → (kind ≡ Write) ⊎ ((kind ≡ Read) ⊎ (kind ≡ If)) → is_access n ≡ true
accesses kind k (inl e) = rw (sym k ∙ ap kind_number e)
accesses kind k (inr (inl e)) = rw (sym k ∙ ap kind_number e)
accesses kind k (inr (inr e)) = rw (sym k ∙ ap kind_number e)

-- a word that reads is that of a read
pub read_kind :
    (kind : RecordKind) (word : WordKind) → word_kind_number word ≡ word_kind_for (kind_number kind) → step.is_read word ≡ true
    → kind_number kind ≡ 2
read_kind Read word w h = refl
read_kind Write word w h = absurd (false≢true (rw w at h))
read_kind Delay word w h = absurd (false≢true (rw w at h))
read_kind Repeat word w h = absurd (false≢true (rw w at h))
read_kind If word w h = absurd (false≢true (rw w at h))
read_kind Else word w h = absurd (false≢true (rw w at h))
read_kind End word w h = absurd (false≢true (rw w at h))

module _ {r : Record} {partner owner value : ℕ} {events : List ℕ} {x : Position} {log : List ℕ} {y : Position} {log' : List ℕ} (kind : RecordKind)
    (word : WordKind) (k : kind_number kind ≡ r.kind) (w : word_kind_number word ≡ word_kind_for (kind_number kind)) where
  pub answer_effect : (kind ≡ Write) ⊎ ((kind ≡ Read) ⊎ (kind ≡ If)) → step.AnswerEffect word r.value partner owner value events x log y log'
      → AnswerEffect r partner owner value events x log y log'
  answer_effect (inl e) h =
      let n = sym k ∙ ap kind_number e in
      let m = w ∙ ap (λ (j : RecordKind). word_kind_for (kind_number j)) e in
      record {
        used = h.used;
        place = rw n (rw m at h.place);
        inside = h.inside;
        left = h.left;
        logged = rw n (rw m at h.logged);
        lines = rw n (rw m at h.lines);
      }
  answer_effect (inr (inl e)) h =
      let n = sym k ∙ ap kind_number e in
      let m = w ∙ ap (λ (j : RecordKind). word_kind_for (kind_number j)) e in
      record {
        used = h.used;
        place = rw n (rw m at h.place);
        inside = h.inside;
        left = h.left;
        logged = rw n (rw m at h.logged);
        lines = rw n (rw m at h.lines);
      }
  answer_effect (inr (inr e)) h =
      let n = sym k ∙ ap kind_number e in
      let m = w ∙ ap (λ (j : RecordKind). word_kind_for (kind_number j)) e in
      let p = rw m at h.place in
      record {
        used = h.used;
        place = rw n (p ∙ swapped (has_bit r.value value) partner (x.place + 1));
        inside = h.inside;
        left = h.left;
        logged = rw n (rw m at h.logged);
        lines = rw n (rw m at h.lines);
      }
