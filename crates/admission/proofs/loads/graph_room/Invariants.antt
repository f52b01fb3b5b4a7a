use Rattle.std.proofs.Common.{◌≡◌, ℕ, ◌+◌, ◌-◌, ◌*◌, get_or}
use Rattle.schedule.specs.Lists.{sum, tab}
use Rattle.schedule.specs.Table as Rules
use Rattle.table.specs.Fresh.{no_node}
use Rattle.admission.specs.Loads.{room_after, graph_load}
use Rattle.reading.specs.Memory.{node_of, graph_of}
use Rattle.admission.proofs.loads.graph_room.Given as goal

abbrev pub invariant-loop-k : goal.invariant-loop-k
invariant-loop-k l = room_after l.room (graph_load l.times (graph_of l.t.node l.x))
    ≡ room_after l.left (sum (λ (y : Rules.Node). y.budget * l.times) (tab (λ (i : ℕ). node_of (get_or l.t.node i no_node)) (l.x.first + l.k) (l.x.nodes - l.k)))
