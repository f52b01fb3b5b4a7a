-- What a table in memory says as a table of the rules (R-4). Any content says one: entries past an array's end are all zeros, and a node's place
-- comes from the counts before it. What stands past the counts says nothing.
use Rattle.std.specs.Prelude.{List, [], ◌∷◌, ℕ, zero, suc, ◌+◌, ◌-◌, get_or, replicate}
use Rattle.schedule.specs.Lists.{keep, tab, up_to}
use Rattle.schedule.specs.Limits as Limits
use Rattle.schedule.specs.Table as Rules
use Rattle.numbers.specs.Masks.{width, bit}
use Rattle.memory.specs.declared.plain.PhalandrixNode.{PhalandrixNode}
use Rattle.memory.specs.declared.plain.PhalandrixGraph.{PhalandrixGraph}
use Rattle.memory.specs.declared.plain.PhalandrixTable.{PhalandrixTable}

abbrev pub no_node : PhalandrixNode
no_node = record { budget = 0; level = 0; after = 0 }

abbrev pub no_graph : PhalandrixGraph
no_graph = record { period = 0; offset = 0; nodes = 0 }

-- all zeros
abbrev pub no_table : PhalandrixTable
no_table =
    record {
      processors = 0;
      rounds = 0;
      graphs = 0;
      graph = replicate (Limits.graphs).to no_graph;
      node = replicate (Limits.all_nodes).to no_node;
    }

-- the numbers in a mask, rising: p where bit p - 1 is set, any bit of the mask
unfoldable pub numbers_in : ℕ → List ℕ
numbers_in m = keep (λ (p : ℕ). bit m (p - 1)) (up_to width)

abbrev pub node_in : PhalandrixNode → Rules.Node
node_in x = record { budget = x.budget; level = x.level; after = numbers_in x.after }

-- n nodes from the entry `first` on
abbrev pub nodes_in : List PhalandrixNode → ℕ → ℕ → List Rules.Node
nodes_in nodes first n = tab (λ (i : ℕ). node_in (get_or nodes i no_node)) first n

abbrev pub graph_in : List PhalandrixNode → ℕ → PhalandrixGraph → Rules.Graph
graph_in nodes first G = record { period = G.period; offset = G.offset; nodes = nodes_in nodes first G.nodes }

-- as many graphs as are left, from entry g on; their nodes begin at `first`, and those of the next graph behind them
unfoldable pub graphs_in : List PhalandrixGraph → List PhalandrixNode → ℕ → ℕ → ℕ → List Rules.Graph
graphs_in graph nodes g first zero = []
graphs_in graph nodes g first (suc left) =
    graph_in nodes first (get_or graph g no_graph) ∷ graphs_in graph nodes (suc g) (first + (get_or graph g no_graph).nodes) left

abbrev pub table_in : PhalandrixTable → Rules.Table
table_in t = record { processors = t.processors; rounds = t.rounds; graphs = graphs_in t.graph t.node 0 0 t.graphs }
