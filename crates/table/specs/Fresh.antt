-- A table with no graph, an empty server, and the state at instant 0, in the form of the code's structs.
use Rattle.std.specs.Prelude.{None, List, ℕ, ◌*◌, ◌-◌, ◌^◌, replicate}
use Rattle.table.specs.declared.Pending.{Pending}
use Rattle.schedule.specs.Limits as Rules
use Rattle.table.specs.declared.Table.{Table}
use Rattle.table.specs.declared.Graph.{Graph}
use Rattle.table.specs.declared.Node.{Node}
use Rattle.table.specs.declared.Server.{Server}
use Rattle.table.specs.declared.State.{State}

-- what stands in the arrays past the last graph and node
abbrev pub no_graph : Graph
no_graph = record { period = 0; offset = 0; first = 0; nodes = 0 }

abbrev pub no_node : Node
no_node = record { budget = 0; level = 0; after = 0 }

abbrev pub empty_table : ℕ → ℕ → Table
empty_table p r =
    record {
      processors = p;
      rounds = r;
      graphs = 0;
      nodes = 0;
      graph = replicate (Rules.graphs).to no_graph;
      node = replicate (Rules.all_nodes).to no_node;
    }

abbrev pub no_job : Pending
no_job = record { behind = None }

abbrev pub empty_server : Server
empty_server = record { jobs = replicate Rules.pending no_job }

-- the slots of all windows
abbrev pub slots : ℕ
slots = (Rules.all_nodes).to * Rules.pending

-- no server job has this key
abbrev pub no_key : ℕ
no_key = 2 ^ 32 - 1

-- each server's first release is at its offset
abbrev pub fresh_state : List ℕ → State
fresh_state offsets =
    record {
      servers = replicate (Rules.all_nodes).to empty_server;
      left = replicate slots 0;
      first = replicate (Rules.all_nodes).to no_key;
      count = replicate (Rules.all_nodes).to 0;
      unfinished = replicate (Rules.all_nodes).to 0;
      unlinked = replicate (Rules.all_nodes).to 0;
      worst = replicate (Rules.all_nodes).to 0;
      next = offsets;
    }
