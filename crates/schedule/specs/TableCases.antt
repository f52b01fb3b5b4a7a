-- Worked cases of tables: both sides of every limit, tables that are well-formed and such that are not, hyperperiods and loads, nodes that keep
-- up and such that do not, and a box.
-- They are computed in proofs/Cases.antt.
use Rattle.std.specs.Prelude.{Bool, true, false, cond, not, ◌&&◌, List, [], ◌∷◌, ◌++◌, ℕ, ◌-◌, eqb, replicate}
use Rattle.schedule.specs.Limits as Limits
use Rattle.schedule.specs.Limits.{Range}
use Rattle.schedule.specs.Lists.{all?, tab, up_to}
use Rattle.schedule.specs.Table.{Node, Graph, Table}
use Rattle.schedule.specs.WellFormed.{within}
use Rattle.schedule.specs.Servers.{Server, Box}
use Rattle.schedule.specs.Described.{table, graph, node, alone, one, chain}

-- numbers within a limit, and numbers that are not
pub record Sides : Type 0 where
  pub range : Range
  pub inside : List ℕ
  pub outside : List ℕ

abbrev pub sides : Range → List ℕ → List ℕ → Sides
sides r xs ys = record { range = r; inside = xs; outside = ys }

abbrev pub sided : Sides → Bool
sided s = all? (within s.range) s.inside && all? (λ (v : ℕ). not (within s.range v)) s.outside

unfoldable pub limits : List Sides
limits =
    sides Limits.table_bytes (0 ∷ 4096 ∷ []) (4097 ∷ [])
    ∷ sides Limits.processors (1 ∷ 8 ∷ []) (0 ∷ 9 ∷ [])
    ∷ sides Limits.rounds (1 ∷ 64 ∷ []) (0 ∷ 65 ∷ [])
    ∷ sides Limits.graphs (1 ∷ 8 ∷ []) (0 ∷ 9 ∷ [])
    ∷ sides Limits.period (1 ∷ 10000 ∷ []) (0 ∷ 10001 ∷ [])
    ∷ sides Limits.budget (1 ∷ 10000 ∷ []) (0 ∷ 10001 ∷ [])
    ∷ sides Limits.offset (0 ∷ 10000 ∷ []) (10001 ∷ [])
    ∷ sides Limits.nodes (1 ∷ 16 ∷ []) (0 ∷ 17 ∷ [])
    ∷ sides Limits.all_nodes (1 ∷ 32 ∷ []) (0 ∷ 33 ∷ [])
    ∷ sides Limits.level (1 ∷ 4 ∷ []) (0 ∷ 5 ∷ [])
    ∷ sides Limits.hyperperiod (1 ∷ 20000 ∷ []) (0 ∷ 20001 ∷ [])
    ∷ sides Limits.instant (0 ∷ 4000000000 ∷ []) (4000000001 ∷ [])
    ∷ sides Limits.predecessor (1 ∷ 15 ∷ []) (0 ∷ 16 ∷ [])
    ∷ sides Limits.tables (1 ∷ 16 ∷ []) (0 ∷ 17 ∷ [])
    ∷ []

-- a chain of n nodes; n graphs of a node each
abbrev pub chain_of : ℕ → List Node
chain_of n = tab (λ (v : ℕ). node 1 1 (cond (eqb v 1) [] ((v - 1) ∷ []))) 1 n

abbrev pub singles : ℕ → List Graph
singles n = replicate n (graph 100 0 (one 1 1))

unfoldable pub formed : List Table
formed =
    alone 1 1 1 (one 1 1)
    ∷ alone 8 64 10000 (one 10000 4)
    ∷ table 1 1 (graph 4 10000 (one 1 1) ∷ [])
    ∷ table 1 1 (singles 8)
    ∷ alone 1 1 100 (chain_of 16)
    ∷ table 1 1 (graph 100 0 (chain_of 16) ∷ graph 100 0 (chain_of 16) ∷ [])
    -- a node after several; the last after all 15
    ∷ alone 1 1 100 (node 1 1 [] ∷ node 1 1 (1 ∷ []) ∷ node 1 1 (1 ∷ []) ∷ node 1 1 (2 ∷ 3 ∷ []) ∷ [])
    ∷ alone 1 1 100 (chain_of 15 ++ (node 1 1 (up_to 15) ∷ []))
    ∷ []

unfoldable pub misformed : List Table
misformed =
    alone 0 1 4 (one 1 1)
    ∷ alone 9 1 4 (one 1 1)
    ∷ alone 1 0 4 (one 1 1)
    ∷ alone 1 65 4 (one 1 1)
    ∷ table 1 1 []
    ∷ table 1 1 (singles 9)
    ∷ alone 1 1 0 (one 1 1)
    ∷ alone 1 1 10001 (one 1 1)
    ∷ table 1 1 (graph 4 10001 (one 1 1) ∷ [])
    ∷ alone 1 1 4 []
    ∷ alone 1 1 100 (chain_of 17)
    ∷ table 1 1 (graph 100 0 (chain_of 16) ∷ graph 100 0 (chain_of 16) ∷ graph 100 0 (one 1 1) ∷ [])
    ∷ alone 1 1 4 (one 0 1)
    ∷ alone 1 1 4 (one 10001 1)
    ∷ alone 1 1 4 (one 1 0)
    ∷ alone 1 1 4 (one 1 5)
    -- node 1 has a predecessor; another node has none
    ∷ alone 1 1 4 (node 1 1 (1 ∷ []) ∷ [])
    ∷ alone 1 1 4 (node 1 1 [] ∷ node 1 1 [] ∷ node 1 1 (1 ∷ 2 ∷ []) ∷ [])
    -- a list falls; repeats a number; has 0; the node's own number; a later one
    ∷ alone 1 1 4 (node 1 1 [] ∷ node 1 1 (1 ∷ []) ∷ node 1 1 (2 ∷ 1 ∷ []) ∷ [])
    ∷ alone 1 1 4 (node 1 1 [] ∷ node 1 1 (1 ∷ 1 ∷ []) ∷ [])
    ∷ alone 1 1 4 (node 1 1 [] ∷ node 1 1 (0 ∷ 1 ∷ []) ∷ [])
    ∷ alone 1 1 4 (node 1 1 [] ∷ node 1 1 (1 ∷ 2 ∷ []) ∷ [])
    ∷ alone 1 1 4 (node 1 1 [] ∷ node 1 1 (1 ∷ 3 ∷ []) ∷ node 1 1 (2 ∷ []) ∷ [])
    -- the last but one, and one further from the end, have no successor
    ∷ alone 1 1 4 (node 1 1 [] ∷ node 1 1 (1 ∷ []) ∷ node 1 1 (1 ∷ []) ∷ [])
    ∷ alone 1 1 4 (node 1 1 [] ∷ node 1 1 (1 ∷ []) ∷ node 1 1 (1 ∷ []) ∷ node 1 1 (3 ∷ []) ∷ [])
    ∷ []

-- hyperperiod, load, and whether the table is loadable
pub record LoadCase : Type 0 where
  pub table : Table
  pub hyper : ℕ
  pub load : ℕ
  pub fits : Bool

abbrev pub loads : Table → ℕ → ℕ → Bool → LoadCase
loads T h l b = record { table = T; hyper = h; load = l; fits = b }

unfoldable pub load_cases : List LoadCase
load_cases =
    loads (alone 1 1 4 (chain 2 2)) 4 4 true
    ∷ loads (alone 1 1 4 (chain 3 2)) 4 5 false
    ∷ loads (alone 2 1 4 (chain 4 4)) 4 8 true
    ∷ loads (alone 2 1 4 (chain 5 4)) 4 9 false
    ∷ loads (table 1 1 (graph 4 0 (one 2 1) ∷ graph 8 1 (one 3 1) ∷ [])) 8 7 true
    ∷ loads (table 1 1 (graph 6 0 (one 2 1) ∷ graph 4 0 (one 3 1) ∷ [])) 12 13 false
    ∷ loads (table 1 1 (graph 4 0 (one 1 1) ∷ graph 6 0 (one 1 1) ∷ graph 9 0 (one 1 1) ∷ [])) 36 19 true
    ∷ loads (table 1 1 (graph 10000 0 (one 1 1) ∷ graph 6667 0 (one 1 1) ∷ [])) 66670000 16667 true
    ∷ []

-- tables whose nodes all keep up: the budget is at most level × period
unfoldable pub keeping_up : List Table
keeping_up =
    alone 1 1 4 (one 4 1)
    ∷ alone 2 1 2 (one 3 2)
    ∷ alone 8 1 2500 (one 10000 4)
    -- each node by the period of its own graph
    ∷ table 3 1 (graph 4 0 (chain 4 4) ∷ graph 2 0 (one 2 1) ∷ [])
    ∷ []

-- and tables with one that does not: one tick more, at each level; the last node; a node of the last graph; more processors are no help
unfoldable pub falling_behind : List Table
falling_behind =
    alone 2 1 4 (one 5 1)
    ∷ alone 2 1 2 (one 3 1)
    ∷ alone 3 1 2 (one 5 2)
    ∷ alone 8 1 2499 (one 9997 4)
    ∷ alone 8 1 4 (chain 4 5)
    ∷ alone 8 1 4 (chain 5 4)
    ∷ table 8 1 (graph 4 0 (one 4 1) ∷ graph 2 0 (one 3 1) ∷ [])
    ∷ []

-- what is walked of a table of two graphs: a server for each node, by graph and node; predecessors and sinks are places from 0
abbrev pub server : ℕ → ℕ → ℕ → ℕ → ℕ → ℕ → List ℕ → Server
server g v period offset budget level ps =
    record { graph = g; node = v; period = period; offset = offset; point = period; budget = budget; level = level; predecessors = ps }

abbrev pub two_graphs : Table
two_graphs = table 3 5 (graph 4 1 (chain 1 2) ∷ graph 6 3 (node 2 3 [] ∷ node 1 4 (1 ∷ []) ∷ node 5 1 (1 ∷ 2 ∷ []) ∷ []) ∷ [])

unfoldable pub box_of_two_graphs : Box
box_of_two_graphs =
    record {
      servers = server 1 1 4 1 1 1 [] ∷ server 1 2 4 1 2 1 (0 ∷ []) ∷ server 2 1 6 3 2 3 [] ∷ server 2 2 6 3 1 4 (2 ∷ []) ∷ server 2 3 6 3 5 1 (2 ∷ 3 ∷ []) ∷ [];
      sinks = 1 ∷ 4 ∷ [];
      cap = λ (t : ℕ). 3;
      origin = 3;
      hyper = 12;
      rounds = 5;
    }
