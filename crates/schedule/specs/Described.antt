-- Tables in memory described by their numbers, for the worked cases.
use Rattle.std.specs.Prelude.{List, [], ◌∷◌, ℕ}
use Rattle.schedule.specs.Table.{Node, Graph, Table}

-- processors, rounds, graphs; of a graph its period, offset and nodes; of a node its budget, level and predecessors
abbrev pub table : ℕ → ℕ → List Graph → Table
table p r gs = record { processors = p; rounds = r; graphs = gs }

abbrev pub graph : ℕ → ℕ → List Node → Graph
graph p o xs = record { period = p; offset = o; nodes = xs }

abbrev pub node : ℕ → ℕ → List ℕ → Node
node b l ps = record { budget = b; level = l; after = ps }

-- processors, rounds, and one graph with its period and nodes, offset 0
abbrev pub alone : ℕ → ℕ → ℕ → List Node → Table
alone p r period xs = table p r (graph period 0 xs ∷ [])

-- one node with its budget and level; a chain of two with their budgets, level 1
abbrev pub one : ℕ → ℕ → List Node
one b l = node b l [] ∷ []

abbrev pub chain : ℕ → ℕ → List Node
chain a b = node a 1 [] ∷ node b 1 (1 ∷ []) ∷ []
