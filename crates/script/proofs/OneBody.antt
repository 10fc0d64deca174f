-- A script has one reading: the records of a body are read back as that body. So two bodies with the same records are equal, and the
-- body of a legal script is `script_body`.
use Prim.Native.Nat.{ℕ}
use mathlib.Core.Path.{◌≡◌, refl, sym, ap, ◌∙◌}
use mathlib.Core.List.{List, [], ◌∷◌}
use Rattle.record.specs.declared.Record.{Record}
use Rattle.script.specs.Grammar.{LegalScript}
use Rattle.script.specs.Nested.{
  Body,
  done,
  write,
  read,
  delay,
  repeat,
  if,
  if_else,
  Reading,
  top,
  closed_by_end,
  closed_by_else,
  prepend,
  read_repeat,
  read_if,
  reading_of,
  body_in,
  script_body,
  else_record,
  end_record,
  flat,
}

-- the reading of the records of a body and of those that follow, if those that follow are read as n
abbrev before : Body → Reading → Reading
before done n = n
before (write p w v rest) n = prepend (write p w v) (before rest n)
before (read p w rest) n = prepend (read p w) (before rest n)
before (delay t rest) n = prepend (delay t) (before rest n)
before (repeat t b rest) n = read_repeat t (before b (closed_by_end done (before rest n)))
before (if p w m b rest) n = read_if p w m (before b (closed_by_end done (before rest n)))
before (if_else p w m b c rest) n = read_if p w m (before b (closed_by_else done (before c (closed_by_end done (before rest n)))))

reading_flat_before : (b : Body) (tl : List Record) → reading_of (flat b tl) ≡ before b (reading_of tl)
reading_flat_before done tl = refl
reading_flat_before (write p w v rest) tl = rw (reading_flat_before rest tl)
reading_flat_before (read p w rest) tl = rw (reading_flat_before rest tl)
reading_flat_before (delay t rest) tl = rw (reading_flat_before rest tl)
reading_flat_before (repeat t b rest) tl = rw (reading_flat_before b (end_record ∷ flat rest tl), reading_flat_before rest tl)
reading_flat_before (if p w m b rest) tl = rw (reading_flat_before b (end_record ∷ flat rest tl), reading_flat_before rest tl)
reading_flat_before (if_else p w m b c rest) tl =
    rw (
      reading_flat_before b (else_record ∷ flat c (end_record ∷ flat rest tl)),
      reading_flat_before c (end_record ∷ flat rest tl),
      reading_flat_before rest tl,
    )

-- if nothing of the body's level follows before the level is closed, the body is all that is read on that level
closed : (b : Body) (close : Body → Reading) → ((f : Body → Body) (c : Body) → prepend f (close c) ≡ close (f c))
    → before b (close done) ≡ close b
closed done close h = refl
closed (write p w v rest) close h = rw (closed rest close h) (h (write p w v) rest)
closed (read p w rest) close h = rw (closed rest close h) (h (read p w) rest)
closed (delay t rest) close h = rw (closed rest close h) (h (delay t) rest)
closed (repeat t b rest) close h =
    rw (closed rest close h, closed b (λ c. closed_by_end c (close rest)) (λ f c. refl)) (h (repeat t b) rest)
closed (if p w m b rest) close h =
    rw (closed rest close h, closed b (λ c. closed_by_end c (close rest)) (λ f c. refl)) (h (if p w m b) rest)
closed (if_else p w m b c rest) close h =
    rw (
      closed rest close h,
      closed c (λ d. closed_by_end d (close rest)) (λ f d. refl),
      closed b (λ d. closed_by_else d (closed_by_end c (close rest))) (λ f d. refl),
    )
    (h (if_else p w m b c) rest)

pub body_back : (b : Body) → reading_of (flat b []) ≡ top b
body_back b = reading_flat_before b [] ∙ closed b top (λ f c. refl)

pub one_body : (b c : Body) → flat b [] ≡ flat c [] → b ≡ c
one_body b c e = sym (ap body_in (body_back b)) ∙ (ap (λ (rs : List Record). body_in (reading_of rs)) e ∙ ap body_in (body_back c))

pub legal_body : (script : List ℕ) (l : LegalScript script) → script_body script ≡ l.body
unfolding script_body
legal_body script l = rw (l.records, body_back l.body)
