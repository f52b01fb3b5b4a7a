use Rattle.std.proofs.Common.{◌≡◌, ℕ, ◌-◌, ◌*◌, ◌/◌, get_or}
use Rattle.schedule.specs.Lists.{sum, tab}
use Rattle.schedule.specs.Table as Rules
use Rattle.table.specs.Fresh.{no_graph}
use Rattle.admission.specs.Loads.{room_after, graph_load, graphs_load}
use Rattle.reading.specs.Memory.{graph_of, table_of}
use Rattle.admission.proofs.loads.load_room.Given as goal

abbrev pub invariant-loop-g : goal.invariant-loop-g
invariant-loop-g l = room_after (l.t.processors * l.h) (graphs_load l.h (table_of l.t).graphs)
    ≡ room_after l.left (sum (λ (G : Rules.Graph). graph_load (l.h / G.period) G) (tab (λ (i : ℕ). graph_of l.t.node (get_or l.t.graph i no_graph)) l.g (l.t.graphs - l.g)))
