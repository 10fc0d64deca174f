-- The answer of the compiler, and every byte of the image buffer afterwards. See docs/CHIP.md, "Words" and "Refusals".
use Rattle.std.specs.Prelude.{ℕ, ◌*◌, Bool, cond, List, ◌++◌, eqb, ltb, drop, length, Result, Ok, Err}
use Rattle.record.specs.Record.{record_size}
use Rattle.script.specs.Records.{record_count}
use Rattle.script.specs.Refusals.{script_refusal, words_in}
use Rattle.outcome.specs.Number as number
use Rattle.outcome.specs.Refusal.{Refusal, refusal}
use Rattle.outcome.specs.Refused.{refusal_number}
use Rattle.outcome.specs.declared.Refused.{Refused}
use Rattle.compiler.specs.Words.{image_bytes, words_of}

-- refusal 9: "image buffer too short (record count)"
abbrev pub too_short : List ℕ → List ℕ → Bool
too_short script image = ltb (length image) (record_size * words_in script)

-- "1; then the first record with a fault, least number; then 7, 8, 9"
unfoldable pub compile_refusal : List ℕ → List ℕ → Refusal
compile_refusal script image =
    cond (eqb (script_refusal script).number 0)
    (cond (too_short script image) (refusal number.buffer_too_short (record_count script)) (refusal 0 0))
    (script_refusal script)

-- refusal 0 and the number of words written, or a refusal with its place
pub record CompileResult : Type 0 where
  pub refusal : ℕ
  pub place : ℕ
  pub words : ℕ

-- "else the word count"; "A refusal's other numbers are 0"
unfoldable pub compile_result : List ℕ → List ℕ → CompileResult
compile_result script image = record {
  refusal = (compile_refusal script image).number;
  place = (compile_refusal script image).place;
  words = cond (eqb (compile_refusal script image).number 0) (words_in script) 0;
}

-- the result of a call of `compile` as these numbers
abbrev pub compiled : Result ℕ Refused → CompileResult
compiled (Ok words) = record { refusal = 0; place = 0; words = words }
compiled (Err r) = record { refusal = refusal_number r.kind; place = r.place; words = 0 }

-- the image buffer after the call; a refusal leaves it unchanged. "Success leaves the image buffer's rest as lent."
unfoldable pub image_after : List ℕ → List ℕ → List ℕ
image_after script image =
    cond (eqb (compile_refusal script image).number 0)
    (image_bytes (words_of script) ++ drop (record_size * words_in script) image) image
