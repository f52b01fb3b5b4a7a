-- A table that was read, in the form without derived fields: each graph and each node as it stands, and the counts.
use Rattle.std.specs.Prelude.{List, ℕ, ◌-◌, ◌^◌, min, get_or, replicate}
use Rattle.schedule.specs.Limits as Limits
use Rattle.table.specs.declared.Table.{Table}
use Rattle.table.specs.declared.Graph.{Graph}
use Rattle.table.specs.declared.Node.{Node}
use Rattle.table.specs.Fresh as Fresh
use Rattle.window.specs.Loops.{replaced}
use Rattle.memory.specs.declared.plain.PhalandrixNode.{PhalandrixNode}
use Rattle.memory.specs.declared.plain.PhalandrixGraph.{PhalandrixGraph}
use Rattle.memory.specs.declared.plain.PhalandrixTable.{PhalandrixTable}
use Rattle.memory.specs.Plain.{no_node, no_graph}

-- in 32 bits; no count of a table that was read is larger
abbrev pub count_of : ℕ → ℕ
count_of n = min n (2 ^ 32 - 1)

abbrev pub plain_graph : Graph → PhalandrixGraph
plain_graph G = record { period = G.period; offset = G.offset; nodes = count_of G.nodes }

abbrev pub plain_node : Node → PhalandrixNode
plain_node x = record { budget = x.budget; level = x.level; after = x.after }

abbrev pub plain_graphs : List Graph → List PhalandrixGraph
plain_graphs graphs = replaced (λ (g : ℕ). plain_graph (get_or graphs g Fresh.no_graph)) (replicate (Limits.graphs).to no_graph) (Limits.graphs).to

abbrev pub plain_nodes : List Node → List PhalandrixNode
plain_nodes nodes = replaced (λ (i : ℕ). plain_node (get_or nodes i Fresh.no_node)) (replicate (Limits.all_nodes).to no_node) (Limits.all_nodes).to

abbrev pub plain_of : Table → PhalandrixTable
plain_of t =
    record { processors = t.processors; rounds = t.rounds; graphs = count_of t.graphs; graph = plain_graphs t.graph; node = plain_nodes t.node }
