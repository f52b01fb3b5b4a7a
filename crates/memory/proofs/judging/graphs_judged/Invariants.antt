use Rattle.std.proofs.Common.{◌≡◌, ◌+◌, ◌-◌, ◌*◌, ◌≤◌, length}
use Rattle.schedule.specs.Limits as Limits
use Rattle.writer.specs.Judging.{graphs_at}
use Rattle.memory.specs.Plain.{graphs_in}
use Rattle.memory.proofs.judging.graphs_judged.Given as goal

abbrev pub invariant-loop-g : goal.invariant-loop-g
invariant-loop-g l = record {
  few : l.total ≤ (Limits.all_nodes).to;
  near : l.line ≤ 4 + l.g-index * (3 + 3 * (Limits.nodes).to);
  left : graphs_at 0 (graphs_in l.graphs l.nodes 0 0 (length l.graphs)) 4
      ≡ graphs_at l.total (graphs_in l.graphs l.nodes l.g-index l.total (length l.graphs - l.g-index)) l.line;
}
