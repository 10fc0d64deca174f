-- Which fields a kind of record or word uses, without the target. See docs/CHIP.md, "Scripts" and "Words".
-- "Unused fields are zero." "Values of kinds 3 and 4 are 0 to 65,535; of 1 and 5 they fit the width."
use Rattle.std.specs.Prelude.{ℕ, Bool, cond, ◌&&◌, ◌||◌, eqb, leb}
use Rattle.record.specs.Record.{most_turns}
use Rattle.record.specs.declared.Record.{Record}
use Rattle.script.specs.Kind as kind
use Rattle.width.specs.Width.{fits_width, is_width}

-- port, width and a value that fits the width: write, if; word 6 (test)
abbrev pub value_fields : Record → Bool
value_fields r = is_width r.width && fits_width r.width r.value

-- port and width: read
abbrev pub read_fields : Record → Bool
read_fields r = is_width r.width && eqb r.value 0

-- a count of at most 65,535: delay, repeat; word 4 (enter)
abbrev pub count_fields : Record → Bool
count_fields r = eqb r.width 0 && (eqb r.port 0 && leb r.value most_turns)

-- no field: else, end; words 5 (loop end), 7 (jump) and 8 (halt)
abbrev pub no_fields : Record → Bool
no_fields r = eqb r.width 0 && (eqb r.port 0 && eqb r.value 0)

-- the check by kind; `tests` is the kind that reads and tests: 5 (if) in a script, 6 (test) in an image
abbrev pub kind_fields : ℕ → Record → Bool
kind_fields tests r =
    cond (eqb r.kind kind.write || eqb r.kind tests) (value_fields r)
    (cond (eqb r.kind kind.read) (read_fields r) (cond (eqb r.kind kind.delay || eqb r.kind kind.repeat) (count_fields r) (no_fields r)))
