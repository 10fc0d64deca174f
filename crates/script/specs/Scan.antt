-- Definitions for the contracts of src/: the result of the scan, and the checks of a record in the order of the code.
use Rattle.std.specs.Prelude.{ℕ, Bool, cond, ◌&&◌, ◌||◌, List, [], ◌∷◌, eqb, leb, length, Result, Ok, Err}
use Rattle.lists.specs.Tests.{first_from}
use Rattle.outcome.specs.Number as number
use Rattle.outcome.specs.Refused.{refusal_number}
use Rattle.outcome.specs.Refusal.{Refusal}
use Rattle.outcome.specs.declared.Refused.{Refused}
use Rattle.record.specs.declared.Record.{Record}
use Rattle.script.specs.Kind as kind
use Rattle.script.specs.Records.{records_of}
use Rattle.script.specs.Refusals.{bad_fields, bad_kind, first_fault, misplaced, most_blocks, script_refusal, words_in, wrong_mark}

-- the fault that a record has by itself: 2, 3 or 4, or 0
unfoldable pub shape_fault : Record → ℕ
shape_fault r = first_from number.wrong_mark (wrong_mark r ∷ bad_kind r ∷ bad_fields r ∷ [])

-- a part of refusal 6: a block opened inside 16 blocks
abbrev pub full : (depth kind : ℕ) → Bool
full depth k = (eqb k kind.repeat || eqb k kind.if) && leb most_blocks depth

-- the fault that a record has by its place, without counting repeats: 5 or 6, or 0
abbrev pub place_fault : List ℕ → ℕ → ℕ
place_fault blocks kind = first_from number.misplaced (misplaced blocks kind ∷ full (length blocks) kind ∷ [])

-- the result of a scan: a refusal with its place, or number 0 and the number of words
pub record ScanResult : Type 0 where
  pub number : ℕ
  pub place : ℕ
  pub words : ℕ

-- with a refusal, the number of words is 0
abbrev pub scan_result : Refusal → ℕ → ScanResult
scan_result f n = record { number = f.number; place = f.place; words = cond (eqb f.number 0) n 0 }

abbrev pub refusal_at : (number place : ℕ) → ScanResult
refusal_at n p = record { number = n; place = p; words = 0 }

-- the result of a call of `scan` as these numbers
abbrev pub scanned : Result ℕ Refused → ScanResult
scanned (Ok words) = record { number = 0; place = 0; words = words }
scanned (Err r) = refusal_at (refusal_number r.kind) r.place

-- refusals 2 to 7, or the number of words
unfoldable pub records_scan : List ℕ → ScanResult
records_scan bytes = scan_result (first_fault [] 0 (records_of bytes)) (words_in bytes)

-- refusals 1 to 8, or the number of words
unfoldable pub script_scan : List ℕ → ScanResult
script_scan bytes = scan_result (script_refusal bytes) (words_in bytes)
