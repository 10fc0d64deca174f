-- When the compiler accepts a script, and when it gives each refusal, by itself, and with which place. See docs/CHIP.md, "Scripts" and
-- "Refusals". `CompilerCorrect` says that the compiler does so.
use Rattle.std.specs.Prelude.{ℕ, ◌+◌, ◌*◌, ◌≤◌, ◌<◌, ◌≡◌, ◌↔◌, List, [], length}
use Rattle.script.specs.Grammar.{LegalScript, words_for}
use Rattle.script.specs.Faults.{FirstFaultAt, GoodLength, NoFault, open_at_end}
use Rattle.script.specs.Records.{record_count, records_of}
use Rattle.script.specs.Refusals.{words_in}
use Rattle.compiler.specs.Compile.{compile_result}

-- the script is legal, and the buffer has room for its words and the halt
pub record Accepts (script buffer : List ℕ) : Type 0 where
  pub legal : LegalScript script
  pub room : 12 * (1 + words_for legal.body) ≤ length buffer

-- whole records, at most 1,024 of them, none of which has one of the faults 2 to 6, and every block is closed
abbrev pub Closed : List ℕ → Type 0
Closed script = GoodLength script × NoFault [] (records_of script) × (open_at_end [] (records_of script) ≡ [])

-- refusal n with place p is given
abbrev pub Gives : (script buffer : List ℕ) (n p : ℕ) → Type 0
Gives script buffer n p = ((compile_result script buffer).refusal ≡ n) × ((compile_result script buffer).place ≡ p)

pub record RefusedExactly (script buffer : List ℕ) (p : ℕ) : Type 0 where
  pub bad_length : Gives script buffer 1 p ↔ ((p ≡ 0) × (GoodLength script → ⊥))
  -- 2 to 6: the record at p has this fault and none with a lower number, and no earlier record has any
  pub fault :
      (n : ℕ) → 2 ≤ n → n ≤ 6
      → Gives script buffer n p ↔ (GoodLength script × FirstFaultAt n [] (records_of script) p)
  pub still_open :
      Gives script buffer 7 p
      ↔ ((p ≡ record_count script) × GoodLength script × NoFault [] (records_of script)
      × (open_at_end [] (records_of script) ≡ [] → ⊥))
  pub too_many_words : Gives script buffer 8 p ↔ ((p ≡ record_count script) × Closed script × (1024 < words_in script))
  pub buffer_too_short :
      Gives script buffer 9 p
      ↔ ((p ≡ record_count script) × Closed script × (words_in script ≤ 1024) × (length buffer < 12 * words_in script))
