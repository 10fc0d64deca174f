-- A script as a tree: the list of records is read as nested blocks. `script_body` is the tree of a script. The meaning of a script
-- (`semantics`) and the words of the compiler are defined on it. See docs/CHIP.md, "Scripts".
use Rattle.std.specs.Prelude.{ℕ, cond, List, [], ◌∷◌, eqb}
use Rattle.record.specs.declared.Record.{Record}
use Rattle.script.specs.Kind as kind
use Rattle.script.specs.Records.{records_of}

-- the records of one level, in order; the last argument is what follows on this level
pub data Body : Type 0 where
  done : Body
  write : (port width value : ℕ) → Body → Body
  read : (port width : ℕ) → Body → Body
  delay : (ticks : ℕ) → Body → Body
  repeat : (times : ℕ) → Body → Body → Body
  if : (port width mask : ℕ) → Body → Body → Body
  if_else : (port width mask : ℕ) → Body → Body → Body → Body

-- the result of reading the list from some record on: a body up to the end of the list (`top`), or a body up to an end or an else of a
-- block that was opened earlier, and what is read after that; `broken` if the blocks do not match
pub data Reading : Type 0 where
  top : Body → Reading
  closed_by_end : Body → Reading → Reading
  closed_by_else : Body → Reading → Reading
  broken : Reading

-- puts a record in front of what was read after it
abbrev pub prepend : (Body → Body) → Reading → Reading
prepend f (top b) = top (f b)
prepend f (closed_by_end b n) = closed_by_end (f b) n
prepend f (closed_by_else b n) = closed_by_else (f b) n
prepend f broken = broken

-- a repeat takes the body up to its end
abbrev pub read_repeat : ℕ → Reading → Reading
read_repeat times (closed_by_end b n) = prepend (repeat times b) n
read_repeat times (top b) = broken
read_repeat times (closed_by_else b n) = broken
read_repeat times broken = broken

-- after the else of an if, its second part is the body up to its end
abbrev pub read_else : ℕ → ℕ → ℕ → Body → Reading → Reading
read_else port width mask b (closed_by_end c n) = prepend (if_else port width mask b c) n
read_else port width mask b (top c) = broken
read_else port width mask b (closed_by_else c n) = broken
read_else port width mask b broken = broken

-- an if takes the body up to its end or its else
abbrev pub read_if : ℕ → ℕ → ℕ → Reading → Reading
read_if port width mask (closed_by_end b n) = prepend (if port width mask b) n
read_if port width mask (closed_by_else b n) = read_else port width mask b n
read_if port width mask (top b) = broken
read_if port width mask broken = broken

abbrev pub read_record : Record → Reading → Reading
read_record r n =
    cond (eqb r.kind kind.write) (prepend (write r.port r.width r.value) n)
    (cond (eqb r.kind kind.read) (prepend (read r.port r.width) n)
    (cond (eqb r.kind kind.delay) (prepend (delay r.value) n)
    (cond (eqb r.kind kind.repeat) (read_repeat r.value n)
    (cond (eqb r.kind kind.if) (read_if r.port r.width r.value n)
    (cond (eqb r.kind kind.else) (closed_by_else done n) (cond (eqb r.kind kind.end) (closed_by_end done n) broken))))))

abbrev pub reading_of : List Record → Reading
reading_of [] = top done
reading_of (r ∷ rs) = read_record r (reading_of rs)

-- the body of an accepted script; the other cases occur only in scripts that are refused
abbrev pub body_in : Reading → Body
body_in (top b) = b
body_in (closed_by_end b n) = done
body_in (closed_by_else b n) = done
body_in broken = done

unfoldable pub script_body : List ℕ → Body
script_body bytes = body_in (reading_of (records_of bytes))

-- ---- the way back: the records of a body as a list, followed by the list `tl`
abbrev pub script_record : (kind width port value : ℕ) → Record
script_record k w p v = record { mark = 0xA55A; kind = k; width = w; port = p; target = 0; value = v }

abbrev pub else_record : Record
else_record = script_record 6 0 0 0

abbrev pub end_record : Record
end_record = script_record 7 0 0 0

abbrev pub flat : Body → List Record → List Record
flat done tl = tl
flat (write p w v rest) tl = script_record 1 w p v ∷ flat rest tl
flat (read p w rest) tl = script_record 2 w p 0 ∷ flat rest tl
flat (delay n rest) tl = script_record 3 0 0 n ∷ flat rest tl
flat (repeat n b rest) tl = script_record 4 0 0 n ∷ flat b (end_record ∷ flat rest tl)
flat (if p w m b rest) tl = script_record 5 w p m ∷ flat b (end_record ∷ flat rest tl)
flat (if_else p w m b c rest) tl =
    script_record 5 w p m ∷ flat b (else_record ∷ flat c (end_record ∷ flat rest tl))
