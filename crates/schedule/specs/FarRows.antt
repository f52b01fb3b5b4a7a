-- R-10: the row at or past the stop of a settled walk, as document 02 says it: that of the matching instant of the last round walked, with
-- server job numbers and linked invocations moved on by the periods passed. That this is the schedule's own row is proved in `theorems`.
use Rattle.std.specs.Prelude.{cond, List, [], map, ℕ, ◌+◌, ◌*◌, ◌-◌, ◌/◌, ◌%◌, ltb, get_or}
use Rattle.schedule.specs.Table.{Graph, Table, hyperperiod}
use Rattle.schedule.specs.Servers.{box_of, whole}
use Rattle.schedule.specs.Walk.{Running, row_at}

module _ (hyper stop : ℕ) where
  -- the last round walked begins a hyperperiod before the stop
  abbrev pub last_round : ℕ
  last_round = stop - hyper

  -- the instant of that round which lies whole hyperperiods before t, and how many
  unfoldable pub matching : ℕ → ℕ
  matching t = last_round + (t - last_round) % hyper

  unfoldable pub passed : ℕ → ℕ
  passed t = (t - last_round) / hyper

-- a number moved on by n; 0 stays 0
abbrev pub moved : ℕ → ℕ → ℕ
moved n v = cond (ltb 0 v) (v + n) 0

-- an entry of a row m hyperperiods later, where a hyperperiod has `periods g` periods of graph g
abbrev pub moved_on : (ℕ → ℕ) → ℕ → Running → Running
moved_on periods m x =
    record {
      graph = x.graph;
      node = x.node;
      server_job = x.server_job + m * periods x.graph;
      invocation = moved (m * periods x.graph) x.invocation;
    }

-- what stands at a place outside of the list of graphs
abbrev pub no_graph : Graph
no_graph = record { period = 1; offset = 0; nodes = [] }

-- how many periods of graph number g a hyperperiod has
abbrev pub periods_in : Table → ℕ → ℕ
periods_in T g = hyperperiod T / (get_or T.graphs (g - 1) no_graph).period

-- the row at t of a table whose walk settled at `stop`, each job with its whole budget
unfoldable pub far_row : Table → ℕ → ℕ → List Running
far_row T stop t =
    map (moved_on (periods_in T) (passed (hyperperiod T) stop t)) (row_at (box_of T) (whole (box_of T).servers) (matching (hyperperiod T) stop t))
