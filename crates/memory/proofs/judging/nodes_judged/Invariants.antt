use Rattle.std.proofs.Common.{◌≡◌, ◌+◌, ◌*◌, drop, map}
use Rattle.writer.specs.Judging.{nodes_at}
use Rattle.memory.specs.Plain.{node_in}
use Rattle.memory.proofs.judging.nodes_judged.Given as goal

abbrev pub invariant-loop-i : goal.invariant-loop-i
invariant-loop-i l = nodes_at 1 (map node_in l.nodes) l.line ≡ nodes_at (l.i + 1) (map node_in (drop l.i l.nodes)) (l.line + 3 * l.i)
