-- Every script that meets none of the refusals 1 to 4 has a listing, and reading the listing gives the script, byte for byte. The listing is a text
-- of the grammar, so it is read with the records that it lists, and their bytes are the script. The refusals are in `Refusing`, and the compiler's
-- in `Faults`.
use Prim.Native.Nat.{ℕ, zero, suc, ◌*◌, ◌/◌, ◌≤◌, ◌<◌}
use mathlib.Core.Path.{◌≡◌, ◌∙◌}
use mathlib.Core.Bool.{true}
use mathlib.Core.List.{List}
use borrow.Author.Tests.{le-ltb}
use lib.ListN.{length}
use native.Mathlib.Omega.{arith}
use Rattle.assembler.specs.Assemble.{lines_of, with_records}
use Rattle.assembler.specs.Grammar.{Text}
use Rattle.assembler.specs.TextCorrect.{NoRefusal}
use Rattle.assembler.proofs.TextCorrect.{text_correct}
use Rattle.lists.specs.All.{All}
use Rattle.record.specs.Record.{record_at}
use Rattle.record.specs.declared.Record.{Record}
use Rattle.script.specs.Records.{record_count, records_from, records_of}
use Rattle.script.specs.Scan.{shape_fault}
use Rattle.script.proofs.Grammar.{records_length}
use Rattle.statement.specs.Line.{fits_fields}
use Rattle.lister.specs.Listing.{list_refusal, list_result, listing, text_after, with_text}
use Rattle.lister.specs.ListingCorrect.{Listed, ListingCorrect, ListingsCorrect, NoneOf1To4, ReadBack}
use Rattle.lister.proofs.Bytes.{AreBytes, port_fits, script_bytes}
use Rattle.lister.proofs.Faults.{Faultless, as_the_compiler_lem, compiled, faultless, no_refusal_lem, whole}
use Rattle.lister.proofs.Lengths.{lines_most}
use Rattle.lister.proofs.ListingText.{listing_short, listing_text}
use Rattle.lister.proofs.Refusing.{accepted, same_refusal_lem, unchanged, why_refused}
use Rattle.lister.proofs.Shaped.{Shaped, fits, shaped}

-- ---- the records of a script
-- every port fits, so what follows from that and from no fault of its own holds for every record
each_record :
    (P : Record → Type 0) → ((r : Record) → shape_fault r ≡ 0 → r.port < 65536 → P r) → (bytes : List ℕ) → AreBytes bytes
    → (n place : ℕ) → Faultless (records_from n place bytes) → All P (records_from n place bytes)
each_record P f bytes h zero place t = tt
each_record P f bytes h (suc n) place t =
    (f (record_at bytes (12 * place)) t.0 (port_fits bytes h (12 * place)), each_record P f bytes h n (suc place) t.1)

module _ (script : List ℕ) (are : AreBytes script) (none : NoneOf1To4 script) where
  of_each : (P : Record → Type 0) → ((r : Record) → shape_fault r ≡ 0 → r.port < 65536 → P r) → All P (records_of script)
  unfolding records_of
  of_each P f = each_record P f script are (length script / 12) 0 (faultless (records_of script) none.good_records)

  count : length (records_of script) ≡ length script / 12
  count = records_length script

  -- ---- the listing is written
  listed : (buffer : List ℕ) → length (listing script) ≤ length buffer → Listed script buffer
  unfolding list_result list_refusal text_after with_text
  listed buffer l =
      let room = le-ltb (length buffer) (length (listing script)) l in
      record { answer = rw (no_refusal_lem script none, room); after = rw (no_refusal_lem script none, room) }

  -- ---- it is read back
  are_shaped : All Shaped (records_of script)
  are_shaped = of_each Shaped shaped

  in_grammar_lem : Text (listing script) (records_of script)
  unfolding listing
  in_grammar_lem = listing_text 0 (records_of script) are_shaped

  short_lines_lem : All (λ l. length l ≤ 120) (lines_of (listing script))
  unfolding listing
  short_lines_lem = listing_short 0 (records_of script) are_shaped

  read_back_lem : (buffer : List ℕ) → length script ≤ length buffer → ReadBack script buffer
  unfolding with_records
  read_back_lem buffer l =
      let whole = whole script none in
      let fit = of_each (λ r. fits_fields r ≡ true) fits in
      let room : 12 * length (records_of script) ≤ length buffer = rw count (omega arith) in
      let n : NoRefusal (listing script) (records_of script) buffer = record { short_lines = short_lines_lem; numbers_fit = fit; room = room } in
      let w = text_correct.accepts (listing script) buffer (records_of script) in_grammar_lem n in
      let all : 12 * (length script / 12) ≡ length script = omega arith in
      record { answer = w.answer ∙ rw count; after = w.after ∙ rw (script_bytes script are whole, count, all) }

listings : (script : List ℕ) → AreBytes script → NoneOf1To4 script → ListingCorrect script
listings script are none =
    record {
      listed = listed script are none;
      in_grammar = in_grammar_lem script are none;
      short_lines = short_lines_lem script are none;
      read_back = read_back_lem script are none;
    }

-- ---- its size
longest : (script : List ℕ) → length (listing script) ≤ 88 * record_count script
unfolding listing
longest script = let n = records_length script in let l = lines_most 0 (records_of script) in omega (arith, n, l)

-- ---- the theorem
pub listings_correct : ListingsCorrect
listings_correct =
    record {
      listings = listings;
      accepted = accepted;
      refused = λ script buffer n. (why_refused script buffer n, unchanged script buffer n);
      as_the_compiler = as_the_compiler_lem;
      same_refusal = same_refusal_lem;
      compiled = compiled;
      longest = longest;
    }
