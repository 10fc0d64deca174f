-- The words of a script: `words_of`, and their bytes, `image_bytes`. See docs/CHIP.md, "Words".
-- "Word kinds: 1, 2, 3 as above; 4 enter [..]; 5 loop end [..]; 6 test [..]; 7 jump; 8 halt." "word mark C3 3C"
use Rattle.std.specs.Prelude.{ℕ, suc, List, [], ◌∷◌, ◌++◌}
use Rattle.record.specs.Record.{bytes_of}
use Rattle.record.specs.WordKind as wordKind
use Rattle.record.specs.declared.Record.{Record}
use Rattle.script.specs.Nested.{Body, done, write, read, delay, repeat, if, if_else, script_body}

abbrev pub word : (kind width port target value : ℕ) → Record
word k w p t v = record { mark = 0x3CC3; kind = k; width = w; port = p; target = t; value = v }

-- the place after the words of a body whose first word is at a place. "Records give one word in order, except that the end of
-- an if gives none"
abbrev pub place_after : ℕ → Body → ℕ
place_after at done = at
place_after at (write p w v rest) = place_after (suc at) rest
place_after at (read p w rest) = place_after (suc at) rest
place_after at (delay n rest) = place_after (suc at) rest
place_after at (repeat n b rest) = place_after (suc (place_after (suc at) b)) rest
place_after at (if p w m b rest) = place_after (place_after (suc at) b) rest
place_after at (if_else p w m b c rest) = place_after (place_after (suc (place_after (suc at) b)) c) rest

-- the words of a body whose first word is at a place, followed by ws. "Enter aims behind its loop end, loop end at its body,
-- test behind its else's jump or at its end, else at its end."
abbrev pub emit : ℕ → Body → List Record → List Record
emit at done ws = ws
emit at (write p w v rest) ws = word wordKind.write w p 0 v ∷ emit (suc at) rest ws
emit at (read p w rest) ws = word wordKind.read w p 0 0 ∷ emit (suc at) rest ws
emit at (delay n rest) ws = word wordKind.delay 0 0 0 n ∷ emit (suc at) rest ws
emit at (repeat n b rest) ws =
    word wordKind.enter 0 0 (suc (place_after (suc at) b)) n
    ∷ emit (suc at) b (word wordKind.loop_end 0 0 (suc at) 0 ∷ emit (suc (place_after (suc at) b)) rest ws)
emit at (if p w m b rest) ws =
    word wordKind.test w p (place_after (suc at) b) m ∷ emit (suc at) b (emit (place_after (suc at) b) rest ws)
emit at (if_else p w m b c rest) ws =
    word wordKind.test w p (suc (place_after (suc at) b)) m
    ∷ emit (suc at) b
    (word wordKind.jump 0 0 (place_after (suc (place_after (suc at) b)) c) 0
    ∷ emit (suc (place_after (suc at) b)) c (emit (place_after (suc (place_after (suc at) b)) c) rest ws))

-- "a halt follows"
abbrev pub halt : Record
halt = word wordKind.halt 0 0 0 0

unfoldable pub words_of : List ℕ → List Record
words_of script = emit 0 (script_body script) (halt ∷ [])

abbrev pub image_bytes : List Record → List ℕ
image_bytes [] = []
image_bytes (w ∷ ws) = bytes_of w ++ image_bytes ws
