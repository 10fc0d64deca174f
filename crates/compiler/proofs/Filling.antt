-- The loop invariant of `fill_targets`: what holds before record k, and that each kind of record keeps it. It restates
-- `Aiming` (Targets.antt) for the stack in which the code keeps the open blocks.
use Rattle.std.proofs.Common.{◌≡◌, ℕ, ◌+◌, ◌-◌, ◌*◌, ◌<◌, ◌≤◌, true, false, ◌||◌, ◌⊎◌, inl, inr, List, [], ◌∷◌, length, set, replicate, Some, None, refl, sym, ap, ◌∙◌, add-one, arith, eqb}
use Rattle.std.specs.Prelude.{Option, is_some, map, unwrap_or}
use Rattle.std.proofs.lemmas.List.{length-map, length-replicate, length-set}
use Rattle.std.proofs.lemmas.Option.{none-some, same_Some}
use borrow.Author.Tests.{ne_eqb}
use Rattle.lists.specs.All.{All}
use Rattle.lists.proofs.Replicate.{replicate_at}
use Rattle.record.specs.Record.{record_at, record_size}
use Rattle.record.specs.declared.Record.{Record}
use Rattle.script.specs.Kinds.{kind_number}
use Rattle.script.specs.declared.kind.RecordKind.{RecordKind}
use Rattle.script.specs.declared.kind.RecordKind.TheVariants.{Write, Read, Delay}
use Rattle.script.specs.Records.{record_count, records_from, records_of}
use Rattle.script.specs.Refusals.{script_refusal}
use Rattle.script.proofs.Flat.{accepted, accepts, numbers}
use Rattle.script.proofs.Records.{Counted, after_last_lem, counts, from_here}
use Rattle.compiler.specs.Emit.{TargetsFrom, place_after_record}
use Rattle.compiler.specs.declared.OpenBlock.{OpenBlock}
use Rattle.compiler.proofs.Targets.{Aiming, as_many, completes, elses_wait, ends_close, first_waits, if_frame, ifs_open, next, Next, none, passes, repeats_open}

-- ---- an open block as its frame, 0 for an if and the place of its body for a repeat, and its waiting record
abbrev pub frame_of : OpenBlock → ℕ
frame_of w = unwrap_or w.body 0

abbrev pub waiting_of : OpenBlock → ℕ
waiting_of w = w.waiting

-- no body is at place 0, where the word of the repeat itself is at the earliest
abbrev pub HasBody : OpenBlock → Type 0
HasBody w = (b : ℕ) → w.body ≡ Some b → 0 < b

some_of : (o : Option ℕ) → is_some o ≡ true → (b : ℕ) × (o ≡ Some b)
some_of None e = cc
some_of (Some b) e = (b, refl)

none_of : (o : Option ℕ) → is_some o ≡ false → o ≡ None
none_of None e = refl
none_of (Some b) e = cc

pub plain : (kind : RecordKind) → (kind ≡ Write) ⊎ ((kind ≡ Read) ⊎ (kind ≡ Delay)) → kind_number kind ≤ 3
plain kind (inl e) = rw e (omega arith)
plain kind (inr (inl e)) = rw e (omega arith)
plain kind (inr (inr e)) = rw e (omega arith)

-- ---- what holds before record k
pub record Filling (script table : List ℕ) (open_blocks : List OpenBlock) (place k : ℕ) : Type 0 where
  pub counted : Counted script (record_count script)
  pub near : place ≤ k
  pub long : length table ≡ 1024
  pub bodies : All HasBody open_blocks
  pub aiming :
      Aiming (records_of script) (records_from (record_count script - k) k script) table (map frame_of open_blocks)
      (map waiting_of open_blocks) place k

-- it holds at the start: no block is open and the table is all 0
pub begins : (script table : List ℕ) → (script_refusal script).number ≡ 0 → table ≡ replicate 1024 0
    → Filling script table [] 0 0
unfolding records_of
begins script table h t =
    let c : record_count script - 0 ≡ record_count script = omega arith in
    record {
      counted = counts script (record_count script) refl h;
      near = omega arith;
      long = ap length t ∙ length-replicate {A = ℕ} 1024 0;
      bodies = tt;
      aiming = record {
        blocks = [];
        accepted = rw c (accepted (records_of script) [] 0 (accepts script h).faultless);
        waits = none;
        fresh = λ j l. rw t (replicate_at 0 1024 j);
        aims = λ targets below rest. rw c at rest;
      };
    }

-- ---- record k
module _ {script table : List ℕ} {open_blocks : List OpenBlock} {place k : ℕ}
    (g : Filling script table open_blocks place k) (w : k < record_count script) where
  abbrev r : Record
  r = record_at script (record_size * k)

  abbrev rest : List Record
  rest = records_from (record_count script - (k + 1)) (k + 1) script

  pub here : Aiming (records_of script) (r ∷ rest) table (map frame_of open_blocks) (map waiting_of open_blocks) place k
  here = rw (from_here script (record_count script) k w) at g.aiming

  pub after : Next here.blocks r rest
  after = next here.accepted

  many : length (numbers here.blocks) ≡ length open_blocks
  many = sym (as_many here.waits) ∙ length-map open_blocks frame_of

  -- ---- a write, a read or a delay
  pub passed : r.kind ≤ 3 → Filling script table open_blocks (place + 1) (k + 1)
  passed l = record {
    counted = g.counted;
    near = omega (arith, g.near);
    long = g.long;
    bodies = g.bodies;
    aiming = passes here l;
  }

  -- ---- a repeat or an if
  pub room : (eqb r.kind 4 || eqb r.kind 5) ≡ true → length open_blocks < 16
  room e = rw many at (after.room e)

  pub repeated : r.kind ≡ 4 → Filling script table (record { waiting = k; body = Some (place + 1) } ∷ open_blocks) (place + 1) (k + 1)
  repeated e = record {
    counted = g.counted;
    near = omega (arith, g.near);
    long = g.long;
    bodies = (λ b q. let same = same_Some _ _ q in omega arith, g.bodies);
    aiming = repeats_open here e;
  }

  pub tested : r.kind ≡ 5 → Filling script table (record { waiting = k; body = None } ∷ open_blocks) (place + 1) (k + 1)
  tested e = record {
    counted = g.counted;
    near = omega (arith, g.near);
    long = g.long;
    bodies = (λ b q. absurd (none-some b q), g.bodies);
    aiming = ifs_open here e;
  }

  -- ---- an else or an end
  pub in_block : (eqb r.kind 6 || eqb r.kind 7) ≡ true → 0 < length open_blocks
  in_block e = rw many at (after.in_block e)

  sized : k < length table
  sized = let f = g.counted.few in omega (arith, g.long)

-- its block is the innermost
module _ {script table : List ℕ} {x : OpenBlock} {outer_blocks : List OpenBlock} {place k : ℕ}
    (g : Filling script table (x ∷ outer_blocks) place k) (w : k < record_count script) where
  pub waits_before : x.waiting < k
  waits_before = first_waits g.aiming.waits

  pub elsed : (record_at script (record_size * k)).kind ≡ 6
      → Filling script (set table x.waiting (place + 1)) (record { waiting = k; body = None } ∷ outer_blocks) (place + 1) (k + 1)
  elsed e =
      let f : frame_of x ≡ 0 = if_frame (here g w).waits ((after g w).in_if (rw e)) in
      record {
        counted = g.counted;
        near = omega (arith, g.near);
        long = simp length-set g.long;
        bodies = (λ b q. absurd (none-some b q), g.bodies.1);
        aiming = rw f at (elses_wait (here g w) (sized g w) e);
      }

  -- an end, after which the next word is at place n
  ended : (n : ℕ) → (record_at script (record_size * k)).kind ≡ 7 → n ≡ place_after_record (frame_of x) place 7
      → n ≤ place + 1 → Filling script (set (set table k (frame_of x)) x.waiting n) outer_blocks n (k + 1)
  ended n e p most = record {
    counted = g.counted;
    near = omega (arith, g.near);
    long = simp (length-set, length-set) g.long;
    bodies = g.bodies.1;
    aiming = ends_close (here g w) (sized g w) n e p;
  }

  -- the end of an if becomes no word
  pub if_ended : (record_at script (record_size * k)).kind ≡ 7 → is_some x.body ≡ false
      → Filling script (set (set table k (frame_of x)) x.waiting place) outer_blocks place (k + 1)
  if_ended e b = let n = none_of x.body b in ended place e (rw n) (omega arith)

  pub repeat_ended : (record_at script (record_size * k)).kind ≡ 7 → is_some x.body ≡ true
      → Filling script (set (set table k (frame_of x)) x.waiting (place + 1)) outer_blocks (place + 1) (k + 1)
  repeat_ended e b =
      let s = some_of x.body b in
      let above : 0 < s.0 = g.bodies.0 s.0 s.1 in
      ended (place + 1) e (rw (s.1, ne_eqb s.0 0 (λ z. omega arith), add-one)) (omega arith)

-- ---- after the last record
pub filled : {script table : List ℕ} {open_blocks : List OpenBlock} {place k : ℕ}
    → Filling script table open_blocks place k → record_count script ≤ k → TargetsFrom table 0 [] 0 (records_of script)
filled {script = script} {k = k} g h = completes (rw (after_last_lem script (record_count script) k h) at g.aiming)
