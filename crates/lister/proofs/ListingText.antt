-- A listing is a text of the grammar with the records that it lists, and its lines have at most 120 bytes. This holds for each line, and each line
-- ends with a line feed.
use Prim.Native.Nat.{ℕ, ◌≤◌}
use mathlib.Core.List.{List, [], ◌∷◌}
use lib.ListN.{length}
use Rattle.assembler.specs.Assemble.{lines_of}
use Rattle.assembler.specs.Grammar.{Text}
use Rattle.assembler.proofs.TextLines.{line_of}
use Rattle.lists.specs.All.{All}
use Rattle.record.specs.declared.Record.{Record}
use Rattle.lister.specs.Listing.{depth_after, line_text, listing_from}
use Rattle.lister.proofs.LineGrammar.{clear, line, short}
use Rattle.lister.proofs.Shaped.{Shaped}

pub listing_text : (depth : ℕ) (rs : List Record) → All Shaped rs → Text (listing_from depth rs) rs
listing_text depth [] t = Text.end
listing_text depth (r ∷ rs) t =
    Text.line (line depth t.0) (clear depth t.0) (listing_text (depth_after depth r.kind) rs t.1)

pub listing_short : (depth : ℕ) (rs : List Record) → All Shaped rs → All (λ l. length l ≤ 120) (lines_of (listing_from depth rs))
listing_short depth [] t = tt
listing_short depth (r ∷ rs) t =
    let rest = listing_from (depth_after depth r.kind) rs in
    rw (line_of (line_text depth r) rest (clear depth t.0))
    (short depth t.0, listing_short (depth_after depth r.kind) rs t.1)
