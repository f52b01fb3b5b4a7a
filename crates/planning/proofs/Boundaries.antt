-- The boundaries of an admitted table: there is a tick between two of them, and the last is no later than `last_instant`.
use mathlib.Core.Path.{◌≡◌}
use mathlib.Core.Bool.{true}
use mathlib.Core.List.{List, [], ◌∷◌}
use Prim.Native.Nat.{◌+◌, ◌*◌, ◌≤◌, ◌<◌}
use native.Mathlib.Nat.{le_trans, mul-le-mul_left, mul-le-mul_right}
use native.Mathlib.Omega.{arith}
use lib.Dec.{T}
use Rattle.schedule.specs.Limits as Limits
use Rattle.schedule.specs.Lists.{largest, all?}
use Rattle.schedule.specs.Table as Rules
use Rattle.schedule.specs.Table.{hyperperiod, largest_offset}
use Rattle.schedule.specs.Servers.{box_of}
use Rattle.schedule.specs.WellFormed.{graph_formed, well_formed}
use Rattle.theorems.proofs.Formed.{first_of_lem, second_of, within_limits, graph_formed_lem, table_formed}
use Rattle.theorems.proofs.FormedGraphs.{formed}
use Rattle.theorems.proofs.Hyperperiod.{hyperperiod_some}
use Rattle.schedule.proofs.Tests.{T_true}
use Rattle.window.proofs.Relation.{last_instant}

offsets_most : (Gs : List Rules.Graph) → all? graph_formed Gs ≡ true → largest (λ (G : Rules.Graph). G.offset) Gs ≤ (Limits.offset).to
offsets_most [] e = omega arith
offsets_most (G ∷ Gs) e =
    let here = within_limits Limits.offset G.offset (graph_formed_lem G (first_of_lem (graph_formed G) (all? graph_formed Gs) e)).offset in
    omega (arith, here.1, offsets_most Gs (second_of (graph_formed G) (all? graph_formed Gs) e))

module _ (X : Rules.Table) (ok : T (well_formed X)) where
  pub hyper_some : 0 < (box_of X).hyper
  hyper_some = hyperperiod_some X (λ G m. (formed X ok G m).period_some)

  pub last_boundary : hyperperiod X ≤ (Limits.hyperperiod).to → (box_of X).origin + (box_of X).rounds * (box_of X).hyper ≤ last_instant
  unfolding largest_offset
  last_boundary h =
      let f = table_formed X (T_true ok) in
      let rounds = (within_limits Limits.rounds X.rounds f.rounds).1 in
      let most : X.rounds * hyperperiod X ≤ (Limits.rounds).to * (Limits.hyperperiod).to =
      le_trans (mul-le-mul_left X.rounds h) (mul-le-mul_right (Limits.hyperperiod).to rounds) in
      omega (arith, offsets_most X.graphs f.graphs)
