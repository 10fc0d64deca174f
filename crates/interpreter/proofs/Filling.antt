-- The loop invariant of `fill`: the arrays are those of the records from place k on. Each record keeps it, and at place 0 the table is that of
-- the script.
use Prim.Native.Nat.{ℕ, suc, ◌+◌, ◌-◌, ◌*◌, ◌/◌, ◌≤◌, ◌<◌}
use mathlib.Core.Path.{◌≡◌, sym, ap, ◌∙◌}
use mathlib.Core.List.{List, []}
use native.Mathlib.Omega.{arith}
use lib.ListN.{length, replicate}
use Rattle.record.specs.Record.{record_at}
use Rattle.script.proofs.Records.{after_last_lem, from_here}
use Rattle.script.specs.Records.{record_count, records_from, records_of}
use Rattle.script.specs.Refusals.{script_refusal}
use Rattle.interpreter.specs.Partners.{ArePlaces, Partners, RoomFor, added, partners, partners_from, script_partners}
use Rattle.interpreter.proofs.Waiting.{few_waiting, some_waiting}

-- the table and the waiting ends and elses of the records from place k on
abbrev from : List ℕ → (count k : ℕ) → Partners
from script count k = partners_from (records_from (count - k) k script) k

pub record Filling (script : List ℕ) (count : ℕ) (table closers : List ℕ) (k : ℕ) : Type 0 where
  pub same : partners table closers ≡ from script count k
  pub places : ArePlaces closers
  pub within : k ≤ count

pub begins : (script : List ℕ) (count : ℕ) (table : List ℕ) → table ≡ replicate 1024 0 → Filling script count table [] count
begins script count table e =
    record { same = rw (e, after_last_lem script count count (omega arith)); places = tt; within = omega arith }

-- the record before place k, added to those from place k on
before :
    (script : List ℕ) (count k : ℕ) → 0 < k → k ≤ count
    → from script count (k - 1) ≡ added (record_at script (12 * (k - 1))).kind (k - 1) (from script count k)
before script count k some within =
    let next : (k - 1) + 1 ≡ k = omega arith in
    let above : suc (k - 1) ≡ k = omega arith in
    rw (from_here script count (k - 1) (omega arith), next, above)

pub adds :
    {script : List ℕ} {count : ℕ} {table closers : List ℕ} {k : ℕ} (kind : ℕ) (table' closers' : List ℕ)
    → Filling script count table closers k → 0 < k → kind ≡ (record_at script (12 * (k - 1))).kind
    → partners table' closers' ≡ added kind (k - 1) (partners table closers) → ArePlaces closers'
    → Filling script count table' closers' (k - 1)
adds {script} {count} {table} {closers} {k} kind table' closers' f some e w places = record {
  same =
      w ∙ ap (λ (p : Partners). added kind (k - 1) p) f.same ∙ ap (λ (n : ℕ). added n (k - 1) (from script count k)) e
      ∙ sym (before script count k some f.within);
  places = places;
  within = omega (arith, f.within);
}

-- the record before place k can be added: as many ends and elses wait as blocks are open there
pub room :
    {script : List ℕ} {count : ℕ} {table closers : List ℕ} {k : ℕ} (kind : ℕ) → Filling script count table closers k
    → (script_refusal script).number ≡ 0 → count ≡ record_count script → 0 < k → kind ≡ (record_at script (12 * (k - 1))).kind
    → RoomFor kind closers
room {script} {count} {table} {closers} {k} kind f h c some e =
    let deep : length closers ≡ length (from script count k).closers = ap (λ (p : Partners). length p.closers) f.same in
    let around : length (from script count (k - 1)).closers ≤ 16 = rw c (few_waiting script h (k - 1) (omega (arith, f.within, c))) in
    let after = rw (before script count k some f.within, sym e) at around in
    let waiting = some_waiting script h (k - 1) (omega (arith, f.within, c)) in
    let above : suc (k - 1) ≡ k = omega arith in
    let one = rw (sym c, above, sym e) at waiting in
    record {
      places = f.places;
      fewer = λ is. let more = rw is at after in omega (arith, deep, more);
      some = λ other not. let m = one other not in omega (arith, deep, m);
    }

pub ends : {script : List ℕ} {count : ℕ} {table closers : List ℕ} {k : ℕ} → Filling script count table closers k
    → count ≡ length script / 12 → k ≤ 0 → table ≡ script_partners script
unfolding script_partners records_of
ends {script} {count} {table} {closers} {k} f c z =
    let n : k ≡ 0 = omega arith in
    let m : count - 0 ≡ length script / 12 = omega arith in
    ap (λ (p : Partners). p.table) f.same
    ∙ ap (λ (j : ℕ). (from script count j).table) n
    ∙ ap (λ (j : ℕ). (partners_from (records_from j 0 script) 0).table) m
