-- `read_number` reads the digits in the base that the last byte of the word names. In a hex number they are all bytes but the last.
use mathlib.Core.Path.{ap, sym, ◌∙◌}
use Rattle.statement.specs.Found.{number_found}
use Rattle.statement.proofs.Reading.{decimal_number, hex_inside, hex_number}
use Rattle.statement.proofs.read_number.Goals as goal

pub slice_bounds-number_of-count : goal.slice_bounds-number_of-count
slice_bounds-number_of-count c = hex_inside c.args.word.now (sym c.is_hex.ensures ∙ c.if-is_hex.true)

pub returns-then-is_hex : goal.returns-then-is_hex
returns-then-is_hex c =
    let w = c.args.word.now in
    c.number_of.ensures ∙ ap number_found (hex_number w (sym c.is_hex.ensures ∙ c.if-is_hex.true))

pub returns : goal.returns
returns c =
    let w = c.args.word.now in
    c.number_of-2.ensures ∙ ap number_found (decimal_number w (sym c.is_hex.ensures ∙ c.if-is_hex.false))
