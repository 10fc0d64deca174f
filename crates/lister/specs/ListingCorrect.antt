-- What is promised of a listing, of the refusals of the lister, and of the size of a listing. See docs/TEXT.md, "Listing".
use Rattle.std.specs.Prelude.{ℕ, suc, ◌*◌, ◌/◌, ◌≤◌, ◌<◌, ◌≡◌, true, false, List, ◌∷◌, ◌++◌, drop, length}
use Rattle.lists.specs.All.{All}
use Rattle.assembler.specs.Assemble.{assemble_result, lines_of, records_after}
use Rattle.assembler.specs.Grammar.{Text}
use Rattle.record.specs.declared.Record.{Record}
use Rattle.script.specs.Records.{record_count, records_of}
use Rattle.script.specs.Refusals.{bad_fields, bad_kind, bad_length, script_refusal, wrong_mark}
use Rattle.lister.specs.Listing.{ListResult, list_result, listing, refused_at, script_fault, text_after}

-- ---- refusals 1 to 4, in the words of the compiler's table

pub record GoodRecord (r : Record) : Type 0 where
  pub good_mark : wrong_mark r ≡ false
  pub good_kind : bad_kind r ≡ false
  pub good_fields : bad_fields r ≡ false

-- none of refusals 1 to 4
pub record NoneOf1To4 (script : List ℕ) : Type 0 where
  pub good_length : bad_length script ≡ false
  pub good_records : All GoodRecord (records_of script)

-- "least number first"
pub data WrongRecord (r : Record) : (number : ℕ) → Type 0 where
  mark : wrong_mark r ≡ true → WrongRecord r 2
  kind : wrong_mark r ≡ false → bad_kind r ≡ true → WrongRecord r 3
  fields : wrong_mark r ≡ false → bad_kind r ≡ false → bad_fields r ≡ true → WrongRecord r 4

-- the first record with a wrong mark, kind or field, counted from 0
pub data FirstWrongRecord : List Record → (number place : ℕ) → Type 0 where
  here : {r : Record} {rs : List Record} {n : ℕ} → WrongRecord r n → FirstWrongRecord (r ∷ rs) n 0
  later : {r : Record} {rs : List Record} {n p : ℕ} → GoodRecord r → FirstWrongRecord rs n p → FirstWrongRecord (r ∷ rs) n (suc p)

-- "Refusals, listing: 1 to 4, then 34 text buffer too short"; "33 and 34 have place 0"
pub data Refused (script buffer : List ℕ) : ListResult → Type 0 where
  wrong_length : bad_length script ≡ true → Refused script buffer (refused_at 1 0)
  wrong_record : {n p : ℕ} → bad_length script ≡ false → FirstWrongRecord (records_of script) n p → Refused script buffer (refused_at n p)
  no_room : NoneOf1To4 script → length buffer < length (listing script) → Refused script buffer (refused_at 34 0)

-- ---- the listing of a script

-- it exists: it is written to every buffer that is long enough; "success leaves the rest as lent"
pub record Listed (script buffer : List ℕ) : Type 0 where
  pub answer : list_result script buffer ≡ record { refusal = 0; place = 0; length = length (listing script) }
  pub after : text_after script buffer ≡ listing script ++ drop (length (listing script)) buffer

-- reading it gives the script, byte for byte
pub record ReadBack (script buffer : List ℕ) : Type 0 where
  pub answer : assemble_result (listing script) buffer ≡ record { refusal = 0; place = 0; records = length script / 12 }
  pub after : records_after (listing script) buffer ≡ script ++ drop (length script) buffer

pub record ListingCorrect (script : List ℕ) : Type 0 where
  pub listed : (buffer : List ℕ) → length (listing script) ≤ length buffer → Listed script buffer
  pub in_grammar : Text (listing script) (records_of script)
  pub short_lines : All (λ l. length l ≤ 120) (lines_of (listing script))
  pub read_back : (buffer : List ℕ) → length script ≤ length buffer → ReadBack script buffer

-- what the lister accepts
pub record Accepted (script buffer : List ℕ) : Type 0 where
  pub none_of1_to4 : NoneOf1To4 script
  pub room : length (listing script) ≤ length buffer

-- ---- the theorem

pub record ListingsCorrect : Type 0 where
  -- "A listing goes back for records that meet none of refusals 1 to 4, and reading a listing gives the same records."
  pub listings : (script : List ℕ) → All (λ b. b < 256) script → NoneOf1To4 script → ListingCorrect script
  -- what is accepted has none of the refusals
  pub accepted : (script buffer : List ℕ) → (list_result script buffer).refusal ≡ 0 → Accepted script buffer
  -- what is not accepted is refused for a reason; "a refusal writes to no lent buffer"
  pub refused : (script buffer : List ℕ) → ((list_result script buffer).refusal ≡ 0 → ⊥)
      → Refused script buffer (list_result script buffer) × (text_after script buffer ≡ buffer)
  -- if the compiler's refusal of a script is none or one of 1 to 4, the lister finds the same, at the same place
  pub as_the_compiler : (script : List ℕ) → (script_refusal script).number ≤ 4 → script_fault script ≡ script_refusal script
  -- so it answers with the compiler's refusal 1 to 4, whatever the buffer
  pub same_refusal : (script buffer : List ℕ) → ((script_refusal script).number ≡ 0 → ⊥) → (script_refusal script).number ≤ 4
      → list_result script buffer ≡ refused_at (script_refusal script).number (script_refusal script).place
  -- every script that the compiler accepts has a listing
  pub compiled : (script : List ℕ) → (script_refusal script).number ≡ 0 → NoneOf1To4 script
  -- how large a buffer has to be: a line has at most 64 spaces, the 23 bytes of a write at width 4, and the line feed
  pub longest : (script : List ℕ) → length (listing script) ≤ 88 * record_count script
