-- Each access of a script takes one event from the list, as long as there are any, and only accesses take events. The
-- proof goes through the script record by record.
use Prim.Native.Nat.{ℕ, zero, suc}
use mathlib.Core.Path.{◌≡◌, refl, sym, ap, ◌∙◌}
use mathlib.Core.Bool.{Bool, true, false, cond}
use mathlib.Core.List.{List, [], ◌∷◌, ◌++◌}
use native.Mathlib.Omega.{arith}
use lib.ListN.{length, drop, length-append}
use Rattle.access.specs.declared.Access.{Access}
use Rattle.device.specs.declared.Device.{Device}
use Rattle.script.specs.Nested.{Body, done, write, read, delay, repeat, if, if_else, script_body}
use Rattle.semantics.specs.OwnRun.{Run, count_step, one_step, own_run, run, script_run, repeat_times}
use Rattle.semantics.specs.World.{
  AccessEntry,
  World,
  after_access,
  after_delay,
  entry_logged,
  events_after,
  after_read,
  read_of,
  shares_one,
  start_world,
  after_test,
  after_write,
}

-- the events left: the list without its first n events, for n accesses made
abbrev pub OneEach : List ℕ → World → Type 0
OneEach all w = w.events ≡ drop (length w.accesses) all

after_drop : (n : ℕ) (xs : List ℕ) → events_after (drop n xs) ≡ drop (suc n) xs
after_drop zero [] = refl
after_drop zero (x ∷ xs) = refl
after_drop (suc n) [] = refl
after_drop (suc n) (x ∷ xs) = after_drop n xs

one_more : (ms : List AccessEntry) (m : AccessEntry) → length (ms ++ (m ∷ [])) ≡ suc (length ms)
one_more ms m = let l = length-append ms (m ∷ []) in omega (arith, l)

after_access_one :
    (all : List ℕ) (w : World) (x : Access) (entries : List ℕ) → OneEach all w → OneEach all (after_access w x entries)
after_access_one all w x entries h =
    ap events_after h ∙ after_drop (length w.accesses) all
    ∙ ap (λ (n : ℕ). drop n all) (sym (one_more w.accesses _))

pub after_write_one : (all : List ℕ) (p wd v : ℕ) (w : World) → OneEach all w → OneEach all (after_write p wd v w)
unfolding after_write
after_write_one all p wd v w h = after_access_one all w _ [] h

pub read_one : (all : List ℕ) (p wd : ℕ) (w : World) → OneEach all w → OneEach all (after_read p wd w)
unfolding after_read
read_one all p wd w h = after_access_one all w (read_of p wd) (entry_logged p wd w ∷ []) h

pub after_test_one : (all : List ℕ) (p wd : ℕ) (w : World) → OneEach all w → OneEach all (after_test p wd w)
unfolding after_test
after_test_one all p wd w h = after_access_one all w _ [] h

pub after_delay_one : (all : List ℕ) (n : ℕ) (w : World) → OneEach all w → OneEach all (after_delay n w)
unfolding after_delay
after_delay_one all n w h = h

repeat_times_one :
    (all : List ℕ) (n : ℕ) (body : Run → Run) (r : Run)
    → ((q : Run) → OneEach all q.world → OneEach all (body q).world) → OneEach all r.world
    → OneEach all (repeat_times n body r).world
repeat_times_one all zero body r k h = h
repeat_times_one all (suc n) body r k h = repeat_times_one all n body (count_step (body r)) k (k r h)

either_one : (all : List ℕ) (t : Bool) (r q : Run) → OneEach all r.world → OneEach all q.world → OneEach all (cond t r q).world
either_one all true r q h k = h
either_one all false r q h k = k

own_one : (all : List ℕ) (b : Body) (r : Run) → OneEach all r.world → OneEach all (own_run b r).world
own_one all done r h = h
own_one all (write p w v rest) r h = own_one all rest _ (after_write_one all p w v r.world h)
own_one all (read p w rest) r h = own_one all rest _ (read_one all p w r.world h)
own_one all (delay n rest) r h = own_one all rest _ (after_delay_one all n r.world h)
own_one all (repeat n b rest) r h =
    own_one all rest _ (repeat_times_one all n (own_run b) (count_step r) (λ q k. own_one all b q k) h)
own_one all (if p w m b rest) r h =
    let t = one_step (after_test p w) r in
    let k = after_test_one all p w r.world h in
    own_one all rest _ (either_one all (shares_one p w m r.world) (own_run b t) t (own_one all b t k) k)
own_one all (if_else p w m b c rest) r h =
    let t = one_step (after_test p w) r in
    let k = after_test_one all p w r.world h in
    own_one all rest _
    (either_one all (shares_one p w m r.world) (count_step (own_run b t)) (own_run c t) (own_one all b t k) (own_one all c t k))

-- the law for a whole script
pub one_event_each :
    (script : List ℕ) (d : Device) (events : List ℕ) → OneEach events (script_run script d events).world
unfolding script_run
one_event_each script d events = own_one events (script_body script) (run (start_world d events) 0) refl
