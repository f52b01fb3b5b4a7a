-- The graph of each place of a table in memory. For the proof, not for belief.
use Rattle.std.specs.Prelude.{Bool, ◌&&◌, cond, ℕ, zero, suc, ◌+◌, ◌-◌, min, ltb, eqb, get_or}
use Rattle.schedule.specs.Limits as Limits
use Rattle.table.specs.declared.Table.{Table}
use Rattle.table.specs.declared.Graph.{Graph}
use Rattle.table.specs.Fresh.{no_graph}
use Rattle.window.specs.Entries.{places}

-- the place of a graph's node 1, but none behind place i; and the number of the node at i
abbrev pub first_for : Graph → ℕ → ℕ
first_for y i = min y.first i

abbrev pub number_in : Graph → ℕ → ℕ
number_in y i = i + 1 - first_for y i

abbrev pub last_at : Graph → ℕ → Bool
last_at y i = eqb (number_in y i) y.nodes

abbrev pub next_graph : Graph → ℕ → ℕ → ℕ
next_graph y i g = cond (last_at y i && ltb g ((Limits.graphs).to - 1)) (g + 1) g

module _ (t : Table) where
  abbrev pub graph_in : ℕ → Graph
  graph_in g = get_or t.graph g no_graph

  -- the graph of place i, from 0
  unfoldable pub graph_to : ℕ → ℕ
  graph_to zero = 0
  graph_to (suc i) = next_graph (graph_in (graph_to i)) i (graph_to i)

  abbrev pub graph_at : ℕ → Graph
  graph_at i = graph_in (graph_to i)

  -- how many places count
  abbrev pub places_of : ℕ
  places_of = min t.nodes places
