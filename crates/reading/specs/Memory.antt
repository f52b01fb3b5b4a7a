-- A table of the rules as the code's struct, and what the struct says as a table of the rules.
use Rattle.std.specs.Prelude.{List, [], ◌∷◌, map, ℕ, ◌+◌, length, get_or, set}
use Rattle.std.proofs.lemmas.List.Edits.{sets}
use Rattle.schedule.specs.Lists.{tab}
use Rattle.schedule.specs.Table as Rules
use Rattle.table.specs.declared.Table.{Table}
use Rattle.table.specs.declared.Graph.{Graph}
use Rattle.table.specs.declared.Node.{Node}
use Rattle.table.specs.Fresh.{no_graph, no_node, empty_table}
use Rattle.scanning.specs.Masks.{mask_of, list_of}

abbrev pub coded_node : Rules.Node → Node
coded_node x = record { budget = x.budget; level = x.level; after = mask_of x.after }

-- nodes in the entries from i on
abbrev pub filled : List Node → ℕ → List Rules.Node → List Node
filled nodes i xs = sets nodes i (map coded_node xs)

-- one more graph, and more of them
abbrev pub with_graph : Table → Rules.Graph → Table
with_graph t G =
    record {
      processors = t.processors;
      rounds = t.rounds;
      graphs = t.graphs + 1;
      nodes = t.nodes + length G.nodes;
      graph = set t.graph t.graphs (record { period = G.period; offset = G.offset; first = t.nodes; nodes = length G.nodes });
      node = filled t.node t.nodes G.nodes;
    }

unfoldable pub with_graphs : Table → List Rules.Graph → Table
with_graphs t [] = t
with_graphs t (G ∷ Gs) = with_graphs (with_graph t G) Gs

-- a table in memory: what no graph and no node of it stands in is all zeros
abbrev pub memory_of : Rules.Table → Table
memory_of T = with_graphs (empty_table T.processors T.rounds) T.graphs

-- and back
abbrev pub node_of : Node → Rules.Node
node_of x = record { budget = x.budget; level = x.level; after = list_of x.after }

abbrev pub graph_of : List Node → Graph → Rules.Graph
graph_of nodes G =
    record { period = G.period; offset = G.offset; nodes = tab (λ (i : ℕ). node_of (get_or nodes i no_node)) G.first G.nodes }

abbrev pub table_of : Table → Rules.Table
table_of t =
    record { processors = t.processors; rounds = t.rounds; graphs = tab (λ (g : ℕ). graph_of t.node (get_or t.graph g no_graph)) 0 t.graphs }
