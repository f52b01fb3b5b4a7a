-- Writing a table (R-4): the bytes of document 01, line after line, from the same nine keys as the reader. Each text is followed by the
-- bytes `rest`, as a scanner leaves them.
use Rattle.std.specs.Prelude.{List, [], ◌∷◌, ◌++◌, ℕ, length}
use Rattle.format.specs.Bytes.{bytes, line_feed, equals, comma, decimal}
use Rattle.format.specs.Keys as Keys
use Rattle.format.specs.Keys.{key_at}
use Rattle.schedule.specs.Table.{Node, Graph, Table}

-- one or more numbers parted by single commas
unfoldable pub numbers_text : ℕ → List ℕ → List ℕ → List ℕ
numbers_text v [] rest = decimal v ++ rest
numbers_text v (w ∷ ws) rest = decimal v ++ (comma ∷ numbers_text w ws rest)

-- what stands after `after=`: `none`, or the numbers
unfoldable pub list_text : List ℕ → List ℕ → List ℕ
list_text [] rest = bytes "none" ++ rest
list_text (v ∷ vs) rest = numbers_text v vs rest

-- how the line of key k begins
unfoldable pub heading_text : ℕ → List ℕ → List ℕ
heading_text k rest = (key_at k).name ++ (equals ∷ rest)

-- the line of key k with a number, and the `after` line
unfoldable pub number_text : ℕ → ℕ → List ℕ → List ℕ
number_text k v rest = heading_text k (decimal v ++ (line_feed ∷ rest))

unfoldable pub after_text : List ℕ → List ℕ → List ℕ
after_text vs rest = heading_text Keys.after (list_text vs (line_feed ∷ rest))

unfoldable pub node_text : Node → List ℕ → List ℕ
node_text x rest = number_text Keys.budget x.budget (number_text Keys.level x.level (after_text x.after rest))

unfoldable pub nodes_text : List Node → List ℕ → List ℕ
nodes_text [] rest = rest
nodes_text (x ∷ xs) rest = node_text x (nodes_text xs rest)

-- the three lines before a graph's nodes, and the graph
unfoldable pub graph_head : ℕ → ℕ → ℕ → List ℕ → List ℕ
graph_head period offset n rest = number_text Keys.period period (number_text Keys.offset offset (number_text Keys.nodes n rest))

unfoldable pub graph_text : Graph → List ℕ → List ℕ
graph_text G rest = graph_head G.period G.offset (length G.nodes) (nodes_text G.nodes rest)

unfoldable pub graphs_text : List Graph → List ℕ → List ℕ
graphs_text [] rest = rest
graphs_text (G ∷ Gs) rest = graph_text G (graphs_text Gs rest)

-- the three lines before the graphs, and the table
unfoldable pub table_head : ℕ → ℕ → ℕ → List ℕ → List ℕ
table_head processors rounds n rest = number_text Keys.processors processors (number_text Keys.rounds rounds (number_text Keys.graphs n rest))

unfoldable pub written_of : Table → List ℕ
written_of T = table_head T.processors T.rounds (length T.graphs) (graphs_text T.graphs [])
