-- Why the table of targets is right, over lists instead of arrays. Before each record, every earlier record has its target in
-- the table or is waiting for it. For a waiting record, looking ahead from here finds the same place as looking ahead from
-- that record did. At the else or the end of its block this place is known, and is written.
use Prim.Native.Nat.{ℕ, zero, suc, ◌+◌, ◌*◌, ◌≤◌, ◌<◌}
use mathlib.Core.Path.{◌≡◌, refl, ap, ◌∙◌}
use mathlib.Core.Bool.{Bool, true, false, cond, not, ◌||◌, false≢true}
use mathlib.Core.List.{List, [], ◌∷◌}
use native.Mathlib.Numerals.{add-one}
use native.Mathlib.Decide.{dec_lt}
use native.Mathlib.Omega.{arith}
use borrow.Author.Tests.{eq-eqb, eqb-true, eqb-false, ne_eqb}
use lib.Dec.{eqb}
use lib.ListN.{length, get_or, set, length-set}
use lib.Seq.{get_or-set_same, get_or-set_other}
use Rattle.record.specs.declared.Record.{Record}
use Rattle.record.specs.Record.{record_at, record_size}
use Rattle.script.specs.Records.{record_count, records_from, records_of}
use Rattle.script.specs.Refusals.{innermost, open_after, outer, script_refusal}
use Rattle.script.proofs.Flat.{
  Accepted,
  Block,
  accepted,
  accepts,
  delays,
  elses,
  ends,
  looped,
  numbers,
  over,
  reads,
  repeats,
  tests,
  unelsed,
  with_else,
  writes,
}
use Rattle.compiler.specs.Emit.{look_ahead, TargetsFrom, frames_after, place_after_record, target_for}
use Rattle.compiler.proofs.Ahead.{ahead_word}

-- ---- an accepted list of records without its first record is accepted too, with the blocks then open
pub record Next (bs : List Block) (r : Record) (rs : List Record) : Type 0 where
  pub blocks : List Block
  pub accepted : Accepted blocks rs
  pub opened : numbers blocks ≡ open_after (numbers bs) r.kind
  pub least : 1 ≤ r.kind
  pub most : r.kind ≤ 7
  pub room : (eqb r.kind 4 || eqb r.kind 5) ≡ true → length (numbers bs) < 16
  pub in_if : eqb r.kind 6 ≡ true → innermost (numbers bs) ≡ 5
  pub in_block : (eqb r.kind 6 || eqb r.kind 7) ≡ true → 0 < length (numbers bs)

never : {A : Type 0} → false ≡ true → A
never e = absurd (false≢true e)

pub next : {bs : List Block} {r : Record} {rs : List Record} → Accepted bs (r ∷ rs) → Next bs r rs
next (writes {bs = bs} a b x) = record { blocks = bs; accepted = x; opened = refl; least = omega arith; most = omega arith; room = never; in_if = never; in_block = never }
next (reads {bs = bs} a x) = record { blocks = bs; accepted = x; opened = refl; least = omega arith; most = omega arith; room = never; in_if = never; in_block = never }
next (delays {bs = bs} a x) = record { blocks = bs; accepted = x; opened = refl; least = omega arith; most = omega arith; room = never; in_if = never; in_block = never }
next (repeats {bs = bs} a l b x) = record { blocks = looped ∷ bs; accepted = x; opened = refl; least = omega arith; most = omega arith; room = λ e. l; in_if = never; in_block = never }
next (tests {bs = bs} a b l x) = record { blocks = unelsed ∷ bs; accepted = x; opened = refl; least = omega arith; most = omega arith; room = λ e. l; in_if = never; in_block = never }
next (elses {bs = bs} x) = record { blocks = with_else ∷ bs; accepted = x; opened = refl; least = omega arith; most = omega arith; room = never; in_if = λ e. refl; in_block = λ e. omega arith }
next (ends {bs = bs} x) = record { blocks = bs; accepted = x; opened = refl; least = omega arith; most = omega arith; room = never; in_if = never; in_block = λ e. omega arith }

-- every record of an accepted script has one of the seven kinds
module _ (bytes : List ℕ) (k : ℕ) where
  abbrev kind_at : ℕ
  kind_at = (record_at bytes (record_size * k)).kind

  known : (n place : ℕ) {bs : List Block} → Accepted bs (records_from n place bytes) → place ≤ k → k < place + n
      → (1 ≤ kind_at) × (kind_at ≤ 7)
  known zero place a l m = absurd (omega arith)
  known (suc n) place a l m =
      let x = next a in
      elim (dec_lt place k) [
        | yes y ↦ known n (suc place) x.accepted (omega arith) (omega arith)
        | no y ↦ let here : place ≡ k = omega arith in (rw here at x.least, rw here at x.most)
      ]

  pub kind_known : (script_refusal bytes).number ≡ 0 → k < record_count bytes → (1 ≤ kind_at) × (kind_at ≤ 7)
  unfolding records_of
  kind_known h l = known (record_count bytes) 0 (accepted (records_of bytes) [] 0 (accepts bytes h).faultless) (omega arith) (omega arith)

-- ---- the open blocks, innermost first, each with its frame and its waiting record
-- records of outer blocks have smaller numbers; the frame of an if without an else (5) is 0
pub data Waits : (blocks frames waiting : List ℕ) → ℕ → Type 0 where
  none : {k : ℕ} → Waits [] [] [] k
  more : {b f w k : ℕ} {bs fs ws : List ℕ} → w < k → (b ≡ 5 → f ≡ 0) → Waits bs fs ws w
      → Waits (b ∷ bs) (f ∷ fs) (w ∷ ws) k

longer : {bs fs ws : List ℕ} {k : ℕ} (n : ℕ) → k ≤ n → Waits bs fs ws k → Waits bs fs ws n
longer n h none = none
longer n h (more {w = w} l e x) = more {w = w} {k = n} (omega arith) e x

pub first_waits : {bs fs ws : List ℕ} {f w k : ℕ} → Waits bs (f ∷ fs) (w ∷ ws) k → w < k
first_waits (more l e x) = l

others_wait : {bs fs ws : List ℕ} {f w k : ℕ} → Waits bs (f ∷ fs) (w ∷ ws) k → Waits (outer bs) fs ws w
others_wait (more l e x) = x

pub if_frame : {bs fs ws : List ℕ} {f w k : ℕ} → Waits bs (f ∷ fs) (w ∷ ws) k → innermost bs ≡ 5 → f ≡ 0
if_frame (more l e x) i = e i

pub as_many : {bs fs ws : List ℕ} {k : ℕ} → Waits bs fs ws k → length fs ≡ length bs
as_many none = refl
as_many (more l e x) = ap suc (as_many x)

-- ---- entry j of the table once all open blocks are closed
-- `lead` is the place found by looking ahead, given the frames of the blocks inside; `own` is the entry now
abbrev pub aim : ℕ → ℕ → ℕ
aim frame lead = cond (eqb frame 0) lead (suc lead)

abbrev pub settled : (List ℕ → ℕ) → List ℕ → List ℕ → ℕ → ℕ → ℕ
settled lead [] ws j own = own
settled lead (f ∷ fs) [] j own = own
settled lead (f ∷ fs) (w ∷ ws) j own =
    cond (eqb j w) (aim f (lead [])) (settled (λ inner. lead (f ∷ inner)) fs ws j own)

agrees : (p q : List ℕ → ℕ) → ((inner : List ℕ) → p inner ≡ q inner) → (fs ws : List ℕ) (j own : ℕ)
    → settled p fs ws j own ≡ settled q fs ws j own
agrees p q h [] ws j own = refl
agrees p q h (f ∷ fs) [] j own = refl
agrees p q h (f ∷ fs) (w ∷ ws) j own =
    rw (h [], agrees (λ inner. p (f ∷ inner)) (λ inner. q (f ∷ inner)) (λ inner. h (f ∷ inner)) fs ws j own)

-- the entry of a record that does not wait is unchanged
keeps : {bs fs ws : List ℕ} {k : ℕ} (lead : List ℕ → ℕ) (j own : ℕ) → k ≤ j → Waits bs fs ws k
    → settled lead fs ws j own ≡ own
keeps lead j own h none = refl
keeps lead j own h (more {f = f} {w = w} l e x) =
    rw (ne_eqb j w (λ q. omega arith)) (keeps (λ inner. lead (f ∷ inner)) j own (omega arith) x)

-- writing the target of the innermost waiting record does not change the table as it will be once all blocks are closed
written : {bs fs ws : List ℕ} {w : ℕ} (f : ℕ) (p q : List ℕ → ℕ) (table : List ℕ) (v : ℕ) → w < length table
    → Waits bs fs ws w → v ≡ aim f (p []) → ((inner : List ℕ) → q inner ≡ p (f ∷ inner)) → (j : ℕ)
    → settled q fs ws j (get_or (set table w v) j 0) ≡ settled p (f ∷ fs) (w ∷ ws) j (get_or table j 0)
written {fs = fs} {ws = ws} {w = w} f p q table v l x e h j = pick (eqb j w) refl
  where
    pick : (b : Bool) → eqb j w ≡ b
        → settled q fs ws j (get_or (set table w v) j 0)
        ≡ cond b (aim f (p [])) (settled (λ inner. p (f ∷ inner)) fs ws j (get_or table j 0))
    pick true i =
        let j_is : j ≡ w = eqb-true j w i in
        keeps q j (get_or (set table w v) j 0) (omega arith) x ∙ (rw j_is (get_or-set_same table w v 0 l ∙ e))
    pick false i =
        rw (get_or-set_other table w j v 0 (eqb-false j w i)) (agrees q (λ inner. p (f ∷ inner)) h fs ws j (get_or table j 0))

-- ---- what holds before a record
pub record Aiming (all rs : List Record) (table frames waiting : List ℕ) (place k : ℕ) : Type 0 where
  pub blocks : List Block
  pub accepted : Accepted blocks rs
  pub waits : Waits (numbers blocks) frames waiting k
  pub fresh : (j : ℕ) → k ≤ j → get_or table j 0 ≡ 0
  -- a table with these entries below k, once all blocks are closed, and the targets from k on has all targets
  pub aims : (targets : List ℕ)
      → ((j : ℕ) → j < k → get_or targets j 0 ≡ settled (λ inner. look_ahead inner place rs) frames waiting j (get_or table j 0))
      → TargetsFrom targets k frames place rs → TargetsFrom targets 0 [] 0 all

module _ {all rs : List Record} {r : Record} {table frames waiting : List ℕ} {place k : ℕ}
    (g : Aiming all (r ∷ rs) table frames waiting place k) where
  after : Next g.blocks r rs
  after = next g.accepted

  -- one record further: entries below k are unchanged once all blocks are closed, and entry k is its target
  onward : (table₁ frames₁ waiting₁ : List ℕ) (place₁ : ℕ)
      → frames_after frames place r.kind ≡ frames₁ → place_after_record (innermost frames) place r.kind ≡ place₁
      → Waits (open_after (numbers g.blocks) r.kind) frames₁ waiting₁ (k + 1)
      → ((j : ℕ) → k < j → get_or table₁ j 0 ≡ 0)
      → ((j : ℕ) → j < k
      → settled (λ inner. look_ahead inner place₁ rs) frames₁ waiting₁ j (get_or table₁ j 0)
      ≡ settled (λ inner. look_ahead inner place (r ∷ rs)) frames waiting j (get_or table j 0))
      → settled (λ inner. look_ahead inner place₁ rs) frames₁ waiting₁ k (get_or table₁ k 0)
      ≡ target_for (innermost frames) (look_ahead [] (suc place) rs) r.kind
      → Aiming all rs table₁ frames₁ waiting₁ place₁ (k + 1)
  onward table₁ frames₁ waiting₁ place₁ f p w z below here = record {
    blocks = after.blocks;
    accepted = after.accepted;
    waits = rw after.opened w;
    fresh = λ j l. z j (omega arith);
    aims = λ targets t rest.
        g.aims targets (λ j l. t j (omega arith) ∙ below j l)
        (t k (omega arith) ∙ here, rw (f, p, ← (add-one k)) rest);
  }

  -- ---- a write, a read or a delay
  module _ (l : r.kind ≤ 3) where
    n4 : eqb r.kind 4 ≡ false
    n4 = ne_eqb r.kind 4 (λ e. omega arith)

    n5 : eqb r.kind 5 ≡ false
    n5 = ne_eqb r.kind 5 (λ e. omega arith)

    n6 : eqb r.kind 6 ≡ false
    n6 = ne_eqb r.kind 6 (λ e. omega arith)

    n7 : eqb r.kind 7 ≡ false
    n7 = ne_eqb r.kind 7 (λ e. omega arith)

    pub passes : Aiming all rs table frames waiting (place + 1) (k + 1)
    passes =
        onward table frames waiting (place + 1) (simp (n4, n5, n7)) (simp (n7, add-one))
        (simp (n4, n5, n6, n7) (longer (k + 1) (omega arith) g.waits))
        (λ j m. g.fresh j (omega arith))
        (λ j m. agrees (λ inner. look_ahead inner (place + 1) rs) (λ inner. look_ahead inner place (r ∷ rs))
        (λ inner. simp (ahead_word inner place r rs n6 n7, n4, n5, n7, add-one)) frames waiting j (get_or table j 0))
        (keeps (λ inner. look_ahead inner (place + 1) rs) k (get_or table k 0) (omega arith) g.waits
        ∙ g.fresh k (omega arith)
        ∙ (simp (n4, n5, n6, n7)))

  -- ---- a repeat or an if: its record waits
  module _ (start : ℕ) (n6 : eqb r.kind 6 ≡ false) (n7 : eqb r.kind 7 ≡ false)
      (framed : (inner : List ℕ) → frames_after inner place r.kind ≡ start ∷ inner)
      (aimed : (lead : ℕ) → aim start lead ≡ target_for (innermost frames) lead r.kind) where
    opens : (b : ℕ) → open_after (numbers g.blocks) r.kind ≡ b ∷ numbers g.blocks → (b ≡ 5 → start ≡ 0)
        → Aiming all rs table (start ∷ frames) (k ∷ waiting) (place + 1) (k + 1)
    opens b o e =
        onward table (start ∷ frames) (k ∷ waiting) (place + 1) (framed frames) (simp (n7, add-one))
        (rw o (more {w = k} {k = k + 1} (omega arith) e g.waits))
        (λ j m. g.fresh j (omega arith))
        (λ j m. rw (ne_eqb j k (λ q. omega arith))
        (agrees (λ inner. look_ahead (start ∷ inner) (place + 1) rs) (λ inner. look_ahead inner place (r ∷ rs))
        (λ inner. simp (ahead_word inner place r rs n6 n7, framed inner, add-one)) frames waiting j (get_or table j 0)))
        (rw (eq-eqb k k refl, add-one place) (aimed (look_ahead [] (suc place) rs)))

  pub repeats_open : r.kind ≡ 4 → Aiming all rs table ((place + 1) ∷ frames) (k ∷ waiting) (place + 1) (k + 1)
  repeats_open e =
      let z : eqb (place + 1) 0 ≡ false = ne_eqb (place + 1) 0 (λ q. omega arith) in
      opens (place + 1) (rw e) (rw e) (λ inner. rw (e, add-one place)) (λ lead. rw (e, z)) 4 (rw e) (λ q. absurd (omega arith))

  pub ifs_open : r.kind ≡ 5 → Aiming all rs table (0 ∷ frames) (k ∷ waiting) (place + 1) (k + 1)
  ifs_open e =
      opens 0 (rw e) (rw e) (λ inner. rw e) (λ lead. rw e) 5 (rw e) (λ q. refl)

-- ---- an else or an end, in a block with frame f and waiting record w
module _ {all rs : List Record} {r : Record} {table fs ws : List ℕ} {f w place k : ℕ}
    (g : Aiming all (r ∷ rs) table (f ∷ fs) (w ∷ ws) place k) (sized : k < length table) where
  -- the target of the test is the place after the jump of its else; the else now waits
  pub elses_wait : r.kind ≡ 6
      → Aiming all rs (set table w (place + 1)) (f ∷ fs) (k ∷ ws) (place + 1) (k + 1)
  elses_wait e =
      let l = first_waits g.waits in
      let f_is : f ≡ 0 = if_frame g.waits ((next g.accepted).in_if (rw e)) in
      let lead : List ℕ → ℕ = λ inner. look_ahead (f ∷ inner) (place + 1) rs in
      onward g (set table w (place + 1)) (f ∷ fs) (k ∷ ws) (place + 1) (rw e)
      (rw (e, add-one place)) (rw e (more {w = k} {k = k + 1} (omega arith) (λ q. f_is) (longer k (omega arith) (others_wait g.waits))))
      (λ j m. get_or-set_other table w j (place + 1) 0 (λ q. omega arith) ∙ g.fresh j (omega arith))
      (λ j m. rw (ne_eqb j k (λ q. omega arith))
      (written f (λ inner. look_ahead inner place (r ∷ rs)) lead table (place + 1) (omega arith) (others_wait g.waits)
      (rw (e, f_is, add-one place)) (λ inner. rw (e, add-one place)) j))
      (rw (eq-eqb k k refl, f_is, e, add-one place))

  -- the target of an enter is after its loop end, that of the loop end is the body, that of a test or a jump is here
  pub ends_close : (place₁ : ℕ) → r.kind ≡ 7 → place₁ ≡ place_after_record f place 7
      → Aiming all rs (set (set table k f) w place₁) fs ws place₁ (k + 1)
  ends_close place₁ e p =
      let l = first_waits g.waits in
      let other = others_wait g.waits in
      let lead : List ℕ → ℕ = λ inner. look_ahead inner place₁ rs in
      onward g (set (set table k f) w place₁) fs ws place₁ (rw e) (rw (e, p))
      (rw e (longer (k + 1) (omega arith) other))
      (λ j m. get_or-set_other (set table k f) w j place₁ 0 (λ q. omega arith)
      ∙ get_or-set_other table k j f 0 (λ q. omega arith)
      ∙ g.fresh j (omega arith))
      (λ j m. written f (λ inner. look_ahead inner place (r ∷ rs)) lead (set table k f) place₁ (simp length-set (omega arith)) other
      (rw (e, p) (aim_end f place)) (λ inner. rw (e, p)) j
      ∙ (rw (get_or-set_other table k j f 0 (λ q. omega arith))))
      (keeps lead k (get_or (set (set table k f) w place₁) k 0) (omega arith) other
      ∙ get_or-set_other (set table k f) w k place₁ 0 (λ q. omega arith)
      ∙ get_or-set_same table k f 0 sized
      ∙ (rw e))
    where
      aim_end : (f place : ℕ) → place_after_record f place 7 ≡ aim f place
      aim_end f place = pick (eqb f 0)
        where
          pick : (b : Bool) → cond (not b) (suc place) place ≡ cond b place (suc place)
          pick true = refl
          pick false = refl

-- ---- after the last record no block is open, and the table has all targets
pub completes : {all : List Record} {table frames waiting : List ℕ} {place k : ℕ} → Aiming all [] table frames waiting place k
    → TargetsFrom table 0 [] 0 all
completes {table = table} g = g.aims table (λ j l. settles _ g.accepted g.waits j) tt
  where
    settles : {blocks : List Block} {frames waiting : List ℕ} {k : ℕ} (lead : List ℕ → ℕ) → Accepted blocks []
        → Waits (numbers blocks) frames waiting k → (j : ℕ) → get_or table j 0 ≡ settled lead frames waiting j (get_or table j 0)
    settles lead over none j = refl
