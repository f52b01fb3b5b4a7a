use Prim.Native.Nat.{◌-◌}
use lib.ListN.{length}
use Rattle.putting.specs.Texts.{nodes_lines}
use Rattle.putting.proofs.Halfway.{Halfway}
use Rattle.putting.proofs.tables.put_nodes.Given as goal

abbrev pub invariant-loop-node : goal.invariant-loop-node
invariant-loop-node l =
    Halfway (nodes_lines l.nodes 0 (length l.nodes)) l.initial.part l.part l.at (nodes_lines l.nodes l.node-index (length l.nodes - l.node-index))
