use Rattle.std.proofs.Common.{◌≡◌, ◌+◌, ◌-◌}
use Rattle.format.specs.Reading.{nodes_from}
use Rattle.lines.specs.Numbered.{map_outcome, stands}
use Rattle.reading.specs.Outcomes.{taken}
use Rattle.reading.proofs.tables.nodes_at.Given as goal

abbrev pub invariant-loop-i : goal.invariant-loop-i
invariant-loop-i l =
    (l.lines.text ≡ l.initial.lines.text)
    × (map_outcome (taken l.initial.list l.first 0) (nodes_from 1 l.n (stands l.initial.lines)) ≡ map_outcome (taken l.list (l.first + l.i) l.named) (nodes_from (l.i + 1) (l.n - l.i) (stands l.lines)))
