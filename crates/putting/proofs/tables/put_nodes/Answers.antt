-- `put_nodes` meets its contract: at each turn the nodes from this one on are left to be written.
use mathlib.Core.Path.{◌≡◌}
use Prim.Native.Nat.{◌+◌, ◌-◌}
use native.Mathlib.Omega.{arith}
use lib.ListN.{length, get_or}
use Rattle.memory.specs.Plain.{no_node}
use Rattle.putting.specs.Texts.{node_lines, nodes_lines}
use Rattle.putting.proofs.Halfway.{has_room, goes_on, at_end_lem}
use Rattle.putting.proofs.Steps.{node_step, no_node_lem}
use Rattle.putting.proofs.tables.put_nodes.Goals as goal

pub put_node-at-requires : goal.put_node-at-requires
put_node-at-requires c =
    let l = c.loop-node in
    let xs = c.args.nodes.now in
    let left = length xs - l.node-index in
    has_room l.invariant (node_lines (get_or xs l.node-index no_node)) (nodes_lines xs (l.node-index + 1) (left - 1)) (node_step xs l.node-index left (omega arith)) c.requires

pub loop-node-preserved : goal.loop-node-preserved
loop-node-preserved c =
    let l = c.loop-node in
    let xs = c.args.nodes.now in
    let left = length xs - l.node-index in
    let fewer : length xs - (l.node-index + 1) ≡ left - 1 = omega arith in
    rw fewer (goes_on l.invariant (node_lines (get_or xs l.node-index no_node)) (nodes_lines xs (l.node-index + 1) (left - 1)) (node_step xs l.node-index left (omega arith)) c.requires c.put_node-at.ensures)

pub returns : goal.returns
returns c =
    let l = c.loop-node in
    let none : length c.args.nodes.now - l.node-index ≡ 0 = omega arith in
    at_end_lem l.invariant (rw none (no_node_lem c.args.nodes.now l.node-index))
