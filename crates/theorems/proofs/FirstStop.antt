-- Where the walk stops: `stopped` is the first instant at which it does. Boundary `rounds` is a stop at the latest, so the search ends
-- there for any needs, any processors and any hyperperiod.
use mathlib.Core.Path.{◌≡◌, refl}
use mathlib.Core.Bool.{Bool, true, false, ◌&&◌, cond}
use mathlib.Core.Option.{Option, none, some}
use Prim.Native.Nat.{ℕ, zero, suc, ◌+◌, ◌-◌, ◌≤◌, ◌<◌, zero-le}
use native.Mathlib.Omega.{arith}
use lib.Dec.{eqb}
use borrow.Author.Tests.{eq-eqb}
use Rattle.schedule.specs.Servers.{Box}
use Rattle.schedule.specs.ServerJobs.{used}
use Rattle.schedule.specs.Links.{links}
use Rattle.schedule.specs.State.{same_state, state, state_at}
use Rattle.schedule.specs.Walk.{Stop, settled, unsettled, backlog, Stopped, backlogged, boundary, at_boundary, round_at, stop_with, stop_at}
use Rattle.schedule.specs.Walk.{first_stop, stopped}
use Rattle.theorems.proofs.Unique.{FirstStop}
use Rattle.schedule.proofs.Tests.{by_lt}

-- the second test passes
not_none : (a b : Bool) (x y : Stop) (z : Option Stop) → b ≡ true → cond a (some x) (cond b (some y) z) ≡ none → ⊥
not_none true b x y z e f = let w : ◌≡◌ {A = ℕ} 0 1 = cc in omega arith
not_none false true x y z e f = let w : ◌≡◌ {A = ℕ} 0 1 = cc in omega arith
not_none false false x y z e f = let w : ◌≡◌ {A = ℕ} 0 1 = cc in omega arith

module _ (X : Box) (need : ℕ → ℕ → ℕ) where
  abbrev last : ℕ
  last = boundary X need X.rounds

  ends : stop_at X need last ≡ none → ⊥
  unfolding stop_at stop_with
  ends e =
      let σ = used X.servers X.cap last in
      let ls = links X.servers X.cap need last in
      let same = same_state (state X.servers need σ ls last X.sinks) (state_at X need (last - X.hyper)) in
      not_none (at_boundary X need last && same) (eqb last last) (settled (round_at X need last)) unsettled
      (cond (backlogged X.servers need σ ls last X.sinks) (some backlog) none) (eq-eqb last last refl) e

  -- from t on
  record From (t : ℕ) (s : Stopped) : Type 0 where
    stops : stop_at X need s.ticks ≡ some s.how
    first : (u : ℕ) → t ≤ u → u < s.ticks → stop_at X need u ≡ none

  next : (t : ℕ) (s : Stopped) → stop_at X need t ≡ none → From (suc t) s → From t s
  next t s e w = record { stops = w.stops; first = λ u a b. by_lt t u (λ l. w.first u l b) (λ l. let q : u ≡ t = omega arith in rw q e) }

  step : (left t : ℕ) → t ≤ last → (suc t ≤ last → From (suc t) (first_stop X need left (suc t))) → (o : Option Stop) → stop_at X need t ≡ o
      → From t (first_stop X need (suc left) t)
  unfolding first_stop
  step left t a ih (some s) e = rw (e, first_stop) (record { stops = e; first = λ u b c. absurd (let x : ⊥ = omega arith in x) })
  step left t a ih none e =
      let before : t < last = by_lt t last (λ l. l) (λ l. let q : t ≡ last = omega arith in absurd (ends (rw q at e))) in
      rw (e, first_stop) (next t (first_stop X need left (suc t)) e (ih before))

  search_from : (left t : ℕ) → t ≤ last → last < t + left → From t (first_stop X need left t)
  search_from zero t a b = absurd (let x : ⊥ = omega arith in x)
  search_from (suc left) t a b = step left t a (λ c. search_from left (suc t) c (omega arith)) (stop_at X need t) refl

  pub stopped_is_first : FirstStop X need (stopped X need).how (stopped X need).ticks
  unfolding stopped
  stopped_is_first =
      let w = search_from (suc last) 0 zero-le (omega arith) in
      record { stops = w.stops; not_before = λ u l. w.first u zero-le l }

  -- the walk stops at the last boundary at the latest
  pub stops_in_time : (stopped X need).ticks ≤ boundary X need X.rounds
  stops_in_time =
      by_lt (boundary X need X.rounds) (stopped X need).ticks (λ l. absurd (ends (stopped_is_first.not_before (boundary X need X.rounds) l)))
      (λ l. l)
