-- The grammar of legal scripts, stated by itself. See docs/CHIP.md, "Scripts". It does not use the definitions of the refusals, and
-- it writes every limit out: a compiler with another limit does not accept exactly the legal scripts.
use Rattle.std.specs.Prelude.{ℕ, suc, ◌+◌, ◌*◌, ◌^◌, ◌≤◌, ◌<◌, ◌⊎◌, ◌≡◌, List, [], length}
use Rattle.script.specs.Nested.{Body, done, write, read, delay, repeat, if, if_else, flat}
use Rattle.script.specs.Records.{records_of}

-- 1, 2 or 4 bytes
abbrev pub Width : ℕ → Type 0
Width width = (width ≡ 1) ⊎ ((width ≡ 2) ⊎ (width ≡ 4))

-- the records of a body inside `blocks` open blocks, of which `repeats` are repeats: each has a legal width and value, and no
-- block opens inside 16 blocks, no repeat inside 8 repeats
abbrev pub Legal : (blocks repeats : ℕ) → Body → Type 0
Legal blocks repeats done = Unit {0}
Legal blocks repeats (write port width value rest) = Width width × (value < 256 ^ width) × Legal blocks repeats rest
Legal blocks repeats (read port width rest) = Width width × Legal blocks repeats rest
Legal blocks repeats (delay ticks rest) = (ticks ≤ 65535) × Legal blocks repeats rest
Legal blocks repeats (repeat times body rest) =
    (times ≤ 65535) × (blocks < 16) × (repeats < 8) × Legal (suc blocks) (suc repeats) body × Legal blocks repeats rest
Legal blocks repeats (if port width mask body rest) =
    Width width × (mask < 256 ^ width) × (blocks < 16) × Legal (suc blocks) repeats body × Legal blocks repeats rest
Legal blocks repeats (if_else port width mask body other rest) =
    Width width × (mask < 256 ^ width) × (blocks < 16) × Legal (suc blocks) repeats body × Legal (suc blocks) repeats other
    × Legal blocks repeats rest

-- the words of a body: one for each record, except that the end of an if gives none
abbrev pub words_for : Body → ℕ
words_for done = 0
words_for (write port width value rest) = 1 + words_for rest
words_for (read port width rest) = 1 + words_for rest
words_for (delay ticks rest) = 1 + words_for rest
words_for (repeat times body rest) = 2 + (words_for body + words_for rest)
words_for (if port width mask body rest) = 1 + (words_for body + words_for rest)
words_for (if_else port width mask body other rest) = 2 + (words_for body + (words_for other + words_for rest))

-- a legal script: the records of a legal body, at most 1,024 of them, which need at most 1,024 words with the halt
pub record LegalScript (script : List ℕ) : Type 0 where
  pub body : Body
  pub records : records_of script ≡ flat body []
  pub whole_records : length script ≡ 12 * length (flat body [])
  pub few_records : length (flat body []) ≤ 1024
  pub legal : Legal 0 0 body
  pub few_words : 1 + words_for body ≤ 1024
