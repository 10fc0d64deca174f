-- What `list` writes to standard output, and which refusal it prints. See docs/TEXT.md, "Listing".
use Rattle.std.specs.Prelude.{ℕ, ◌≡◌, cond, List, [], eqb}
use Rattle.lister.specs.Listing.{ListResult, listing, script_fault}
use Rattle.refusal_text.specs.Refused.{Put}

-- the listing of the script; nothing if it is refused
unfoldable pub output : (script : List ℕ) → List ℕ
output script = cond (eqb (script_fault script).number 0) (listing script) []

-- the length of the text buffer: 1,024 lines of 64 spaces, the 23 bytes of a write at width 4, and the line feed
abbrev pub text_size : ℕ
text_size = 90112

-- one of refusals 1 to 4, and the output in the front of the buffer, `after` the call. There is no refusal 34
pub record Answered (script after : List ℕ) (r : ListResult) : Type 0 where
  pub number : r.refusal ≡ (script_fault script).number
  pub place : r.place ≡ (script_fault script).place
  pub written : Put (output script) after r.length
