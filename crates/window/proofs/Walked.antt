-- What the walk over windows gives: where the rules' walk stops at or before the instant asked, that stop; else the state after the releases
-- of the instant asked.
use mathlib.Core.Path.{◌≡◌, ap, subst, ◌∙◌}
use mathlib.Core.List.{List}
use mathlib.Core.Logic.{◌⊎◌, inl, inr}
use Prim.Native.Nat.{ℕ, ◌+◌, ◌*◌, ◌≤◌, ◌<◌}
use native.Mathlib.Omega.{arith}
use lib.ListN.{length, get_or}
use Rattle.schedule.specs.Servers.{Box, srv, whole}
use Rattle.schedule.specs.Walk.{Stopped, stopped}
use Rattle.schedule.proofs.Tests.{by_lt, either_way}
use Rattle.theorems.proofs.Unique.{first_stop_is_unique}
use Rattle.theorems.proofs.FirstStop.{stopped_is_first}
use Rattle.table.specs.declared.State.{State}
use Rattle.window.specs.declared.Plan.{Plan}
use Rattle.window.specs.Entries.{places}
use Rattle.window.proofs.Relation.{last_instant, Fits, InStep, Released}
use Rattle.window.proofs.Fresh.{fresh_in_step}
use Rattle.window.specs.declared.How.TheVariants.{Reached}
use Rattle.table.specs.declared.Seen.{Seen}
use Rattle.window.specs.declared.Walk.{Walk}
use Rattle.window.specs.Walking.{seen_of, walk_of}
use Rattle.window.proofs.Ends.{how_of, Stops, Comes, walk_ends}

module _ (X : Box) where
  abbrev pub stop : Stopped
  stop = stopped X (whole X.servers)

  -- the walk over windows stopped as and when the rules' walk does, and shows a state in step
  pub record AtStop (w : Walk Seen) : Type 0 where
    pub how : w.how ≡ how_of stop.how
    pub ticks : w.ticks ≡ stop.ticks
    pub state : State
    pub shows : w.state ≡ seen_of state
    pub in_step : InStep X stop.ticks state

  pub record BeforeStop (asked : ℕ) (w : Walk Seen) : Type 0 where
    pub how : w.how ≡ Reached
    pub state : State
    pub shows : w.state ≡ seen_of state
    pub released : Released X asked state

  at_stop : (asked : ℕ) (w : Walk Seen) → Stops X asked w → (stop.ticks ≤ asked) × AtStop w
  at_stop asked w e =
      let (same, how) = first_stop_is_unique X (whole X.servers) e.stop stop.how w.ticks stop.ticks e.first (stopped_is_first X (whole X.servers)) in (
        omega (arith, e.by),
        record {
          how = e.how ∙ ap how_of how;
          ticks = same;
          state = e.state;
          shows = e.shows;
          in_step = subst (λ (u : ℕ). InStep X u e.state) same e.in_step;
        },
      )

  before_stop : (asked : ℕ) (w : Walk Seen) → Comes X asked w → (asked < stop.ticks) × BeforeStop asked w
  before_stop asked w e = (later, record { how = e.how; state = e.state; shows = e.shows; released = e.released })
    where
      later : asked < stop.ticks
      later =
          by_lt asked stop.ticks (λ l. l)
          (λ l.
          let none-there = e.goes_on stop.ticks l in
          let stops-there = (stopped_is_first X (whole X.servers)).stops in
          let z : ◌≡◌ {A = ℕ} 0 1 = cc in
          absurd (let x : ⊥ = omega arith in x))

module _ (X : Box) (plan : Plan) (fits : Fits X plan) (some : 0 < X.hyper) (time : X.origin + X.rounds * X.hyper ≤ last_instant)
    (late : (i : ℕ) → i < length X.servers → (srv X.servers i).offset ≤ X.origin) (offsets : List ℕ) (all : length offsets ≡ places)
    (each : (i : ℕ) → i < length X.servers → get_or offsets i 0 ≡ (srv X.servers i).offset) (asked : ℕ) where
  abbrev w : Walk Seen
  w = walk_of plan offsets X.origin X.hyper X.rounds asked

  pub walked_is : (((stop X).ticks ≤ asked) × AtStop X w) ⊎ ((asked < (stop X).ticks) × BeforeStop X asked w)
  walked_is =
      either_way (walk_ends X plan fits some time late offsets (fresh_in_step X plan fits offsets all each) asked) (λ s. inl (at_stop X asked w s))
      (λ c. inr (before_stop X asked w c))
