-- The servers of a table in one list, and what is walked of it.
use Rattle.std.specs.Prelude.{List, [], ◌∷◌, ◌++◌, map, ℕ, suc, ◌+◌, ◌-◌, length, get_or}
use Rattle.schedule.specs.Table.{Node, Graph, Table, hyperperiod, largest_offset}

-- a node's server has the graph's period and the node's budget. Server jobs are ordered by release plus `point`: a point that equals
-- the period makes that the deadline. `predecessors` are places in the list of servers, from 0
pub record Server : Type 0 where
  pub graph : ℕ
  pub node : ℕ
  pub period : ℕ
  pub offset : ℕ
  pub point : ℕ
  pub budget : ℕ
  pub level : ℕ
  pub predecessors : List ℕ

-- what stands at a place outside of the list: it has no budget, so none of its server jobs is ever pending
abbrev pub no_server : Server
no_server = record { graph = 0; node = 0; period = 1; offset = 0; point = 0; budget = 0; level = 1; predecessors = [] }

-- the server of node number v of graph number g, whose node 1 has the place `base`
abbrev pub server_of : ℕ → ℕ → ℕ → Graph → Node → Server
server_of base g v G x =
    record {
      graph = g;
      node = v;
      period = G.period;
      offset = G.offset;
      point = G.period;
      budget = x.budget;
      level = x.level;
      predecessors = map (λ (p : ℕ). base + (p - 1)) x.after;
    }

-- the servers of nodes v and on of graph number g, whose node 1 has the place `base`
unfoldable pub of_nodes : ℕ → ℕ → ℕ → Graph → List Node → List Server
of_nodes base g v G [] = []
of_nodes base g v G (x ∷ xs) = server_of base g v G x ∷ of_nodes base g (suc v) G xs

-- by graph number, then node number: rule 5's order of servers
unfoldable pub of_graphs : ℕ → ℕ → List Graph → List Server
of_graphs base g [] = []
of_graphs base g (G ∷ Gs) = of_nodes base g 1 G G.nodes ++ of_graphs (base + length G.nodes) (suc g) Gs

-- the place of each graph's sink: its last node
unfoldable pub sinks_of : ℕ → List Graph → List ℕ
sinks_of base [] = []
sinks_of base (G ∷ Gs) = (base + length G.nodes - 1) ∷ sinks_of (base + length G.nodes) Gs

-- what is walked. `cap t` is the number of processors in the tick that starts at t; boundary k is `origin` + k × `hyper`
pub record Box : Type 0 where
  pub servers : List Server
  pub sinks : List ℕ
  pub cap : ℕ → ℕ
  pub origin : ℕ
  pub hyper : ℕ
  pub rounds : ℕ

-- document 01's case: each tick has all processors
abbrev pub box_of : Table → Box
box_of T =
    record {
      servers = of_graphs 0 1 T.graphs;
      sinks = sinks_of 0 T.graphs;
      cap = λ (t : ℕ). T.processors;
      origin = largest_offset T;
      hyper = hyperperiod T;
      rounds = T.rounds;
    }

module _ (S : List Server) where
  -- the server at place i
  abbrev pub srv : ℕ → Server
  srv i = get_or S i no_server

  -- in the walk each job needs its node's whole budget (rule 6)
  unfoldable pub whole : ℕ → ℕ → ℕ
  whole i j = (srv i).budget
