-- The texts of the parts of a table in memory, each without bytes behind it: those of writer/specs/Writing.antt.
use Rattle.std.specs.Prelude.{List, [], ◌∷◌, ℕ, length}
use Rattle.schedule.specs.Lists.{sum}
use Rattle.schedule.specs.Table.{Graph}
use Rattle.format.specs.Bytes.{line_feed}
use Rattle.writer.specs.Writing.{list_text, heading_text, number_text, after_text, node_text, nodes_text, graph_text, graphs_text, written_of}
use Rattle.memory.specs.declared.plain.PhalandrixNode.{PhalandrixNode}
use Rattle.memory.specs.declared.plain.PhalandrixGraph.{PhalandrixGraph}
use Rattle.memory.specs.declared.plain.PhalandrixTable.{PhalandrixTable}
use Rattle.memory.specs.Plain.{numbers_in, node_in, nodes_in, graph_in, graphs_in, table_in}

abbrev pub heading : ℕ → List ℕ
heading k = heading_text k []

abbrev pub number_line : ℕ → ℕ → List ℕ
number_line k v = number_text k v []

-- of a key and its number each
abbrev pub two_lines : ℕ → ℕ → ℕ → ℕ → List ℕ
two_lines i a j b = number_text i a (number_text j b [])

abbrev pub three_lines : ℕ → ℕ → ℕ → ℕ → ℕ → ℕ → List ℕ
three_lines i a j b k c = number_text i a (number_text j b (number_text k c []))

-- what stands behind `after=`, with LF
abbrev pub list_ended : ℕ → List ℕ
list_ended mask = list_text (numbers_in mask) (line_feed ∷ [])

abbrev pub after_line : ℕ → List ℕ
after_line mask = after_text (numbers_in mask) []

abbrev pub node_lines : PhalandrixNode → List ℕ
node_lines x = node_text (node_in x) []

abbrev pub nodes_lines : List PhalandrixNode → ℕ → ℕ → List ℕ
nodes_lines nodes first n = nodes_text (nodes_in nodes first n) []

abbrev pub graph_lines : PhalandrixGraph → List PhalandrixNode → ℕ → List ℕ
graph_lines g nodes first = graph_text (graph_in nodes first g) []

abbrev pub graphs_lines : List PhalandrixGraph → List PhalandrixNode → ℕ → List ℕ
graphs_lines graph nodes n = graphs_text (graphs_in graph nodes 0 0 n) []

abbrev pub table_lines : PhalandrixTable → List ℕ
table_lines t = written_of (table_in t)

abbrev pub all_nodes : List Graph → ℕ
all_nodes Gs = sum (λ (G : Graph). length G.nodes) Gs
