-- A line of a listing is a line of the grammar with its one record, has no line feed in it and at most 120 bytes. Its statement is built with the
-- constructors of the grammar, from the numbers that are written and single spaces.
use Prim.Native.Nat.{ℕ, zero, suc, ◌≤◌}
use mathlib.Core.List.{[], ◌∷◌, append-nil}
use lib.ListN.{length, replicate}
use native.Mathlib.Omega.{arith}
use Rattle.assembler.specs.Grammar.{NoLineFeed}
use Rattle.record.specs.declared.Record.{Record}
use Rattle.statement.specs.Grammar.{Blank, Blanks, Comment, Gap, Line, Number, Return, Statement}
use Rattle.lister.specs.Listing.{line_text, margin_length, statement_text, value_text, width_text}
use Rattle.lister.proofs.Lengths.{line_most}
use Rattle.lister.proofs.LineFeeds.{no_line_feed}
use Rattle.lister.proofs.Numbers.{byte_number, count_number, four_number, pair_number, port_number, width_number}
use Rattle.lister.proofs.Shaped.{Shaped, Sized}

-- ---- the statement of a record
space : Gap (0x20 ∷ [])
space = Gap.gap Blank.space Blanks.none

width_text_lem : {w v : ℕ} → Sized w v → Number (width_text w) w
width_text_lem (Sized.one h) = width_number 1 (omega arith)
width_text_lem (Sized.two h) = width_number 2 (omega arith)
width_text_lem (Sized.four h) = width_number 4 (omega arith)

value_text_lem : {w v : ℕ} → Sized w v → Number (value_text w v) v
value_text_lem (Sized.one {v} h) = byte_number v h
value_text_lem (Sized.two {v} h) = pair_number v h
value_text_lem (Sized.four {v} h) = four_number v h

statement : {r : Record} → Shaped r → Statement (statement_text r) r
unfolding statement_text
statement (Shaped.write {p = p} s h) = Statement.write space (width_text_lem s) space (port_number p h) space (value_text_lem s)
statement (Shaped.read {p = p} s h) = Statement.read space (width_text_lem s) space (port_number p h)
statement (Shaped.delay {n} h) = Statement.delay space (count_number n h)
statement (Shaped.repeat {n} h) = Statement.repeat space (count_number n h)
statement (Shaped.if {p = p} s h) = Statement.if space (width_text_lem s) space (port_number p h) space (value_text_lem s)
statement Shaped.else = Statement.else
statement Shaped.end = Statement.end

-- ---- the margin
spaces : (n : ℕ) → Blanks (replicate n 0x20)
spaces zero = Blanks.none
spaces (suc n) = Blanks.more Blank.space (spaces n)

-- ---- the laws
module _ (depth : ℕ) {r : Record} (s : Shaped r) where
  pub line : Line (line_text depth r) (r ∷ [])
  unfolding line_text
  line =
      simp append-nil at
      (Line.statement (spaces (margin_length depth r.kind)) (statement s) Blanks.none Comment.none Return.none)

  pub clear : NoLineFeed (line_text depth r)
  unfolding line_text
  clear = no_line_feed (spaces (margin_length depth r.kind)) (statement s)

  pub short : length (line_text depth r) ≤ 120
  short = let l = line_most depth r in omega arith
