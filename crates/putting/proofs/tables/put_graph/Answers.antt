-- `put_graph` meets its contract: the nodes begin where the head ended.
use mathlib.Core.Path.{sym, subst}
use mathlib.Core.List.{List}
use Prim.Native.Nat.{ℕ, ◌+◌, ◌≤◌}
use native.Mathlib.Omega.{arith}
use lib.ListN.{length}
use Rattle.format.specs.Keys as Keys
use Rattle.memory.specs.declared.plain.PhalandrixNode.{PhalandrixNode}
use Rattle.memory.specs.declared.plain.PhalandrixGraph.{PhalandrixGraph}
use Rattle.putting.specs.Texts.{three_lines, nodes_lines, graph_lines}
use Rattle.putting.proofs.TextLaws.{graph_parts}
use Rattle.writing.proofs.Writing.{apart, named, room, both}
use Rattle.putting.proofs.tables.put_graph.Goals as goal

fit : (g : PhalandrixGraph) (nodes : List PhalandrixNode) (part : List ℕ) → length (graph_lines g nodes 0) ≤ length part
    → length (three_lines Keys.period g.period Keys.offset g.offset Keys.nodes g.nodes) + length (nodes_lines nodes 0 g.nodes) ≤ length part
fit g nodes part h =
    apart (three_lines Keys.period g.period Keys.offset g.offset Keys.nodes g.nodes) (nodes_lines nodes 0 g.nodes) part
    (subst (λ (l : List ℕ). length l ≤ length part) (sym (graph_parts g nodes 0)) h)

pub put_three-at-requires : goal.put_three-at-requires
put_three-at-requires c = omega (arith, fit c.args.g c.args.nodes.now c.args.part.now c.requires.1)

pub put_nodes-requires : goal.put_nodes-requires
put_nodes-requires c =
    rw c.requires.0 (room (nodes_lines c.args.nodes.now 0 c.args.g.nodes) c.put_three-at.ensures (fit c.args.g c.args.nodes.now c.args.part.now c.requires.1))

pub returns : goal.returns
returns c =
    named (graph_parts c.args.g c.args.nodes.now 0)
    (both (nodes_lines c.args.nodes.now 0 c.args.g.nodes) c.put_three-at.ensures (fit c.args.g c.args.nodes.now c.args.part.now c.requires.1) (rw c.requires.0 at c.put_nodes.ensures))
