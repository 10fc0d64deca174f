-- `put_statement` puts `statement_text`: each kind has its own words.
use Rattle.std.proofs.Common.{ap, sym, ◌∙◌}
use Rattle.script.specs.Kinds.{kind_number}
use Rattle.lister.proofs.Pieces.{if_put, read_put, write_put}
use Rattle.lister.proofs.put_statement.Goals as goal

pub returns-in-Write : goal.returns-in-Write
returns-in-Write c = rw (c.put_access_value.ensures, c.put_text.ensures) (write_put c.args.text.now c.args.s.fields (sym c.args.s.kind_of ∙ ap kind_number c.in-Write.is))

pub returns-in-Read : goal.returns-in-Read
returns-in-Read c = rw (c.put_access.ensures, c.put_text-in-Read.ensures) (read_put c.args.text.now c.args.s.fields (sym c.args.s.kind_of ∙ ap kind_number c.in-Read.is))

pub returns-in-If : goal.returns-in-If
returns-in-If c = rw (c.put_access_value-in-If.ensures, c.put_text-in-If.ensures) (if_put c.args.text.now c.args.s.fields (sym c.args.s.kind_of ∙ ap kind_number c.in-If.is))
