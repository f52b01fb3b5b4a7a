-- What the plain walk gives: where the rules' walk stops at or before the instant asked, that stop and the figures; else the ledger after the
-- releases of the instant asked.
use mathlib.Core.Path.{◌≡◌, ap, ◌∙◌}
use mathlib.Core.List.{List}
use mathlib.Core.Logic.{◌⊎◌, inl, inr}
use Prim.Native.Nat.{ℕ, ◌+◌, ◌*◌, ◌≤◌, ◌<◌}
use native.Mathlib.Omega.{arith}
use lib.ListN.{length}
use Rattle.schedule.specs.Servers.{Box, whole}
use Rattle.schedule.specs.Walk.{Stopped, figure, stopped}
use Rattle.schedule.proofs.Tests.{by_lt, either_way}
use Rattle.theorems.proofs.Unique.{first_stop_is_unique}
use Rattle.theorems.proofs.FirstStop.{stopped_is_first}
use Rattle.window.specs.declared.Plan.{Plan}
use Rattle.window.proofs.Relation.{last_instant}
use Rattle.ledger.specs.Entries.{worst_at}
use Rattle.ledgerlaws.proofs.Relation.{Laid, Released}
use Rattle.window.specs.declared.How.TheVariants.{Reached}
use Rattle.ledger.specs.declared.Ledger.{Ledger}
use Rattle.window.specs.declared.Walk.{Walk}
use Rattle.ledger.specs.Walking.{walk_of}
use Rattle.window.proofs.Ends.{how_of}
use Rattle.ledgerlaws.proofs.Ends.{Stops, Comes, walk_ends}

module _ (X : Box) where
  abbrev pub stop : Stopped
  stop = stopped X (whole X.servers)

  -- it stopped as and when the rules' walk does, with the figures
  pub record AtStop (w : Walk Ledger) : Type 0 where
    pub how : w.how ≡ how_of stop.how
    pub ticks : w.ticks ≡ stop.ticks
    pub worst : (i : ℕ) → i < length X.servers → worst_at w.state i ≡ figure X (whole X.servers) i stop.ticks

  pub record BeforeStop (asked : ℕ) (w : Walk Ledger) : Type 0 where
    pub how : w.how ≡ Reached
    pub released : Released X asked w.state

  at_stop : (asked : ℕ) (w : Walk Ledger) → Stops X asked w → (stop.ticks ≤ asked) × AtStop w
  at_stop asked w e =
      let (same, how) = first_stop_is_unique X (whole X.servers) e.stop stop.how w.ticks stop.ticks e.first (stopped_is_first X (whole X.servers)) in (
        omega (arith, e.by),
        record {
          how = e.how ∙ ap how_of how;
          ticks = same;
          worst = λ i h. e.worst i h ∙ ap (figure X (whole X.servers) i) same;
        },
      )

  before_stop : (asked : ℕ) (w : Walk Ledger) → Comes X asked w → (asked < stop.ticks) × BeforeStop asked w
  before_stop asked w e = (later, record { how = e.how; released = e.released })
    where
      later : asked < stop.ticks
      later =
          by_lt asked stop.ticks (λ l. l)
          (λ l.
          let none-there = e.goes_on stop.ticks l in
          let stops-there = (stopped_is_first X (whole X.servers)).stops in
          let z : ◌≡◌ {A = ℕ} 0 1 = cc in
          absurd (let x : ⊥ = omega arith in x))

module _ (X : Box) (plan : Plan) (offsets : List ℕ) (laid : Laid X plan offsets) (some : 0 < X.hyper)
    (time : X.origin + X.rounds * X.hyper ≤ last_instant) (asked : ℕ) where
  abbrev w : Walk Ledger
  w = walk_of plan offsets X.origin X.hyper X.rounds asked

  pub walked_is : (((stop X).ticks ≤ asked) × AtStop X w) ⊎ ((asked < (stop X).ticks) × BeforeStop X asked w)
  walked_is =
      either_way (walk_ends X plan offsets laid some time asked) (λ s. inl (at_stop X asked w s)) (λ c. inr (before_stop X asked w c))
