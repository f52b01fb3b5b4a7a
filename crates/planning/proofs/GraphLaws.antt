-- The graph of a place is one of the table's entries, and one step of the loops over the places.
use mathlib.Core.Path.{◌≡◌}
use Prim.Native.Nat.{ℕ, zero, suc, ◌+◌, ◌-◌, ◌<◌}
use native.Mathlib.Numerals.{add-one}
use native.Mathlib.Omega.{arith}
use lib.Dec.{ltb}
use borrow.Author.Tests.{ltb-true}
use Rattle.schedule.specs.Limits as Limits
use Rattle.schedule.proofs.Tests.{by_test}
use Rattle.table.specs.declared.Table.{Table}
use Rattle.table.specs.declared.Graph.{Graph}
use Rattle.planning.specs.Graphs.{last_at, next_graph, graph_in, graph_to}

next_in : (y : Graph) (i g : ℕ) → g < (Limits.graphs).to → next_graph y i g < (Limits.graphs).to
next_in y i g h =
    by_test (last_at y i)
    (λ t. by_test (ltb g ((Limits.graphs).to - 1)) (λ u. rw (t, u) (let l = ltb-true g ((Limits.graphs).to - 1) u in omega arith)) (λ u. rw (t, u) h))
    (λ t. rw t h)

pub graph_in_lem : (t : Table) (i : ℕ) → graph_to t i < (Limits.graphs).to
unfolding graph_to
graph_in_lem t zero = omega arith
graph_in_lem t (suc i) = next_in (graph_in t (graph_to t i)) i (graph_to t i) (graph_in_lem t i)

pub graph_next : (t : Table) (i : ℕ) {g h : ℕ} → g ≡ graph_to t i → h ≡ next_graph (graph_in t g) i g → h ≡ graph_to t (i + 1)
unfolding graph_to
graph_next t i e f = rw (add-one i, ← e) f
