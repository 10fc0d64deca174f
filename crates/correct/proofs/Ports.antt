-- The ports in the body of a script are those of its records, so each is below 65,536.
use Prim.Native.Nat.{ℕ, zero, suc, ◌+◌, ◌*◌, ◌<◌}
use mathlib.Core.Path.{◌≡◌, subst}
use mathlib.Core.List.{List, [], ◌∷◌}
use native.Mathlib.Omega.{arith}
use Rattle.record.specs.Record.{record_at}
use Rattle.record.specs.declared.Record.{Record}
use Rattle.script.proofs.Flat.{reading_flat}
use Rattle.script.specs.Nested.{Body, done, write, read, delay, repeat, if, if_else, body_in, reading_of, else_record, end_record, flat}
use Rattle.script.specs.Records.{record_count, records_from, records_of}
use Rattle.script.specs.Refusals.{first_fault}
use Rattle.correct.specs.CompilerCorrect.{Bytes}

abbrev pub PortsWithin : Body → Type 0
PortsWithin done = Unit {0}
PortsWithin (write p w v rest) = (p < 65536) × PortsWithin rest
PortsWithin (read p w rest) = (p < 65536) × PortsWithin rest
PortsWithin (delay n rest) = PortsWithin rest
PortsWithin (repeat n b rest) = PortsWithin b × PortsWithin rest
PortsWithin (if p w m b rest) = (p < 65536) × PortsWithin b × PortsWithin rest
PortsWithin (if_else p w m b c rest) = (p < 65536) × PortsWithin b × PortsWithin c × PortsWithin rest

abbrev Ports : List Record → Type 0
Ports [] = Unit {0}
Ports (r ∷ rs) = (r.port < 65536) × Ports rs

record_port : (bytes : List ℕ) (at : ℕ) → Bytes bytes → (record_at bytes at).port < 65536
unfolding record_at
record_port bytes at h = omega (arith, h (at + 4), h (at + 4 + 1))

ports_from : (n place : ℕ) (bytes : List ℕ) → Bytes bytes → Ports (records_from n place bytes)
ports_from zero place bytes h = tt
ports_from (suc n) place bytes h = (record_port bytes (12 * place) h, ports_from n (suc place) bytes h)

-- the ports of the records of a body and of those after it
split : (b : Body) (rs : List Record) → Ports (flat b rs) → PortsWithin b × Ports rs
split done rs h = (tt, h)
split (write p w v rest) rs h = let i = split rest rs h.1 in ((h.0, i.0), i.1)
split (read p w rest) rs h = let i = split rest rs h.1 in ((h.0, i.0), i.1)
split (delay n rest) rs h = split rest rs h.1
split (repeat n b rest) rs h =
    let i = split b (end_record ∷ flat rest rs) h.1 in
    let j = split rest rs i.1.1 in
    ((i.0, j.0), j.1)
split (if p w m b rest) rs h =
    let i = split b (end_record ∷ flat rest rs) h.1 in
    let j = split rest rs i.1.1 in
    ((h.0, i.0, j.0), j.1)
split (if_else p w m b c rest) rs h =
    let i = split b (else_record ∷ flat c (end_record ∷ flat rest rs)) h.1 in
    let j = split c (end_record ∷ flat rest rs) i.1.1 in
    let k = split rest rs j.1.1 in
    ((h.0, i.0, j.0, k.0), k.1)

pub ports_within : (script : List ℕ) → Bytes script → (first_fault [] 0 (records_of script)).number ≡ 0
    → PortsWithin (body_in (reading_of (records_of script)))
ports_within script h e =
    let p : Ports (records_of script) = unfold records_of in (ports_from (record_count script) 0 script h) in
    let q : Ports (flat (body_in (reading_of (records_of script))) []) = subst Ports (reading_flat (records_of script) e) p in
    (split (body_in (reading_of (records_of script))) [] q).0
