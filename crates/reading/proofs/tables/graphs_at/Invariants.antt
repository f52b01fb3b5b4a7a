use Rattle.std.proofs.Common.{◌≡◌, ◌+◌, ◌-◌, ◌≤◌}
use Rattle.schedule.specs.Limits as Limits
use Rattle.format.specs.Reading.{graphs_from}
use Rattle.reading.specs.Memory.{with_graphs}
use Rattle.lines.specs.Numbered.{map_outcome, stands}
use Rattle.reading.proofs.tables.graphs_at.Given as goal

abbrev pub invariant-loop : goal.invariant-loop
invariant-loop l =
    (l.u.graphs ≡ l.initial.u.graphs + l.counter) × (l.u.nodes ≤ (Limits.all_nodes).to) × (l.lines.text ≡ l.initial.lines.text)
    × (map_outcome (with_graphs l.initial.u) (graphs_from l.initial.u.nodes l.n (stands l.initial.lines)) ≡ map_outcome (with_graphs l.u) (graphs_from l.u.nodes (l.n - l.counter) (stands l.lines)))
