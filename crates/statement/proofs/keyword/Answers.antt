-- No keyword: the word is none of the seven.
use mathlib.Core.Path.{sym, ◌∙◌}
use Rattle.statement.proofs.Keywords.{no_keyword}
use Rattle.statement.proofs.Reading.{same_word_lem}
use Rattle.statement.proofs.keyword.Goals as goal

pub returns : goal.returns
returns c =
    let w = c.args.word.now in
    no_keyword w
    (sym (same_word_lem w _) ∙ rw (← c.as_slice.ensures) (sym c.eq.ensures ∙ c.if-eq.false))
    (sym (same_word_lem w _) ∙ rw (← c.as_slice-2.ensures) (sym c.eq-2.ensures ∙ c.if-eq-2.false))
    (sym (same_word_lem w _) ∙ rw (← c.as_slice-3.ensures) (sym c.eq-3.ensures ∙ c.if-eq-3.false))
    (sym (same_word_lem w _) ∙ rw (← c.as_slice-4.ensures) (sym c.eq-4.ensures ∙ c.if-eq-4.false))
    (sym (same_word_lem w _) ∙ rw (← c.as_slice-5.ensures) (sym c.eq-5.ensures ∙ c.if-eq-5.false))
    (sym (same_word_lem w _) ∙ rw (← c.as_slice-6.ensures) (sym c.eq-6.ensures ∙ c.if-eq-6.false))
    (sym (same_word_lem w _) ∙ rw (← c.as_slice-7.ensures) (sym c.eq-7.ensures ∙ c.if-eq-7.false))
