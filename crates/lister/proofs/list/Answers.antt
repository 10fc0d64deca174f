-- `list` returns `list_result` and leaves `text_after` in the buffer: the listing is put only if no fault was found and the buffer has room.
use Rattle.std.proofs.Common.{rules, ◌≡◌, ℕ, List, ap, refl, ◌∙◌}
use Rattle.std.proofs.lemmas.Result.{err_from_is_err_and}
use Rattle.digits.specs.Text.{Line, puts}
use Rattle.digits.specs.Written.{written}
use Rattle.digits.specs.declared.Writer.{Writer}
use Rattle.digits.proofs.Writes.{writes_same_line, writes_written}
use Rattle.outcome.proofs.Numbers.{refusal_number_above}
use Rattle.lister.specs.Listing.{listing}
use Rattle.lister.proofs.Answers.{listed, refused, room, too_short_lem}
use Rattle.lister.proofs.Pieces.{put_in_front}
use Rattle.lister.proofs.list.Goals as goal

written_back : {x y z : List ℕ} → y ≡ z → x ≡ y → x ≡ z
written_back p q = q ∙ p

pub returns-in_err-length : goal.returns-in_err-length
returns-in_err-length c =
    let p = err_from_is_err_and c.from_residual.result c.from_residual.ensures.1 in
    rw (p.1, p.2) (refused _ _ _ c.in_err-length.ensures (refusal_number_above _))

pub returns-then-text-length : goal.returns-then-text-length
returns-then-text-length c = too_short_lem _ _ _ c.in_ok-length.ensures refl c.if-text-length.true

pub put_listing-requires : goal.put_listing-requires
put_listing-requires c = (room _ c.args.text.now _ c.in_ok-length.ensures refl c.if-text-length.false).0

pub returns : goal.returns
returns c =
    let a = c.args in
    let text = listing a.script.now in
    let e = listed _ _ _ c.in_ok-length.ensures refl c.if-text-length.false in
    let fits = (room _ a.text.now _ c.in_ok-length.ensures refl c.if-text-length.false).1 in
    let put = ap written c.put_listing.ensures ∙ writes_written _ text ∙ ap (puts text) c.new-writer.ensures.empty in
    let front = ap (λ (l : Line). l.text) put ∙ put_in_front text a.text.now fits in
    -- the writer has kept its line: the search finds with this that the buffer after the call is that line
    let same_line =
    ap (λ (w : Writer). w.line.ghost_name) c.put_listing.ensures
    ∙ writes_same_line _ text
    ∙ c.new-writer.ensures.same_line
    in
    (e.0, written_back (front ∙ e.1) (search rules))
