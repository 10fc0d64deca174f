-- The body of an accepted list has no repeat inside 8 repeats, and its widths, values and counts are those that the rules allow.
-- This is `Good`, as two separate properties.
use Prim.Native.Nat.{ℕ, suc, ◌≤◌, ◌<◌}
use mathlib.Core.Path.{◌≡◌}
use mathlib.Core.Bool.{true}
use mathlib.Core.List.{List, []}
use Rattle.record.specs.declared.Record.{Record}
use Rattle.width.specs.Width.{fits_width, is_width}
use Rattle.script.specs.Nested.{Body, done, write, read, delay, repeat, if, if_else, reading_of, body_in}
use Rattle.script.specs.Refusals.{first_fault}
use Rattle.script.proofs.Flat.{Good, good_done, good_write, good_read, good_delay, good_repeat, good_if, good_if_else, reading_good}

-- a body inside k repeats has no repeat inside more than 7 others
abbrev pub LoopsWithin : ℕ → Body → Type 0
LoopsWithin k done = Unit {0}
LoopsWithin k (write p w v rest) = LoopsWithin k rest
LoopsWithin k (read p w rest) = LoopsWithin k rest
LoopsWithin k (delay n rest) = LoopsWithin k rest
LoopsWithin k (repeat n b rest) = (k < 8) × LoopsWithin (suc k) b × LoopsWithin k rest
LoopsWithin k (if p w m b rest) = LoopsWithin k b × LoopsWithin k rest
LoopsWithin k (if_else p w m b c rest) = LoopsWithin k b × LoopsWithin k c × LoopsWithin k rest

-- every width is 1, 2 or 4, every value fits its width, and every count is at most 65,535
abbrev pub FieldsWithin : Body → Type 0
FieldsWithin done = Unit {0}
FieldsWithin (write p w v rest) = (is_width w ≡ true) × (fits_width w v ≡ true) × FieldsWithin rest
FieldsWithin (read p w rest) = (is_width w ≡ true) × FieldsWithin rest
FieldsWithin (delay n rest) = (n ≤ 65535) × FieldsWithin rest
FieldsWithin (repeat n b rest) = (n ≤ 65535) × FieldsWithin b × FieldsWithin rest
FieldsWithin (if p w m b rest) = (is_width w ≡ true) × (fits_width w m ≡ true) × FieldsWithin b × FieldsWithin rest
FieldsWithin (if_else p w m b c rest) =
    (is_width w ≡ true) × (fits_width w m ≡ true) × FieldsWithin b × FieldsWithin c × FieldsWithin rest

pub good_loops : {k : ℕ} {b : Body} → Good k b → LoopsWithin k b
good_loops good_done = tt
good_loops (good_write hw hv g) = good_loops g
good_loops (good_read hw g) = good_loops g
good_loops (good_delay hn g) = good_loops g
good_loops (good_repeat hn few g h) = (few, good_loops g, good_loops h)
good_loops (good_if hw hm g h) = (good_loops g, good_loops h)
good_loops (good_if_else hw hm g c h) = (good_loops g, good_loops c, good_loops h)

pub good_fields_lem : {k : ℕ} {b : Body} → Good k b → FieldsWithin b
good_fields_lem good_done = tt
good_fields_lem (good_write hw hv g) = (hw, hv, good_fields_lem g)
good_fields_lem (good_read hw g) = (hw, good_fields_lem g)
good_fields_lem (good_delay hn g) = (hn, good_fields_lem g)
good_fields_lem (good_repeat hn few g h) = (hn, good_fields_lem g, good_fields_lem h)
good_fields_lem (good_if hw hm g h) = (hw, hm, good_fields_lem g, good_fields_lem h)
good_fields_lem (good_if_else hw hm g c h) = (hw, hm, good_fields_lem g, good_fields_lem c, good_fields_lem h)

pub loops_within : (rs : List Record) → (first_fault [] 0 rs).number ≡ 0 → LoopsWithin 0 (body_in (reading_of rs))
loops_within rs h = good_loops (reading_good rs h)

pub fields_within : (rs : List Record) → (first_fault [] 0 rs).number ≡ 0 → FieldsWithin (body_in (reading_of rs))
fields_within rs h = good_fields_lem (reading_good rs h)
