use mathlib.Core.Path.{◌≡◌}
use Prim.Native.Nat.{◌<◌}
use Rattle.schedule.specs.Limits as Limits
use Rattle.planning.specs.Graphs.{graph_to}
use Rattle.planning.specs.Plans.{plan_to}
use Rattle.planning.proofs.plans.plan_of.Given as goal

abbrev pub invariant-loop-i : goal.invariant-loop-i
invariant-loop-i l = (l.g < (Limits.graphs).to) × (l.g ≡ graph_to l.table l.i) × (l.p ≡ plan_to l.table l.i)
