use Rattle.std.proofs.Common.{◌≡◌, ℕ, ◌-◌, get_or}
use Rattle.schedule.specs.Limits as Limits
use Rattle.schedule.specs.Lists.{tab}
use Rattle.table.specs.Fresh.{no_graph}
use Rattle.admission.specs.Loads.{hyperperiod_within}
use Rattle.reading.specs.Memory.{graph_of, table_of}
use Rattle.admission.proofs.loads.hyperperiod_of.Given as goal

abbrev pub invariant-loop-g : goal.invariant-loop-g
invariant-loop-g l = hyperperiod_within (Limits.hyperperiod).to 1 (table_of l.t).graphs
    ≡ hyperperiod_within (Limits.hyperperiod).to l.h (tab (λ (i : ℕ). graph_of l.t.node (get_or l.t.graph i no_graph)) l.g (l.t.graphs - l.g))
