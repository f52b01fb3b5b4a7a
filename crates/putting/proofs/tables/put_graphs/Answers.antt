-- `put_graphs` meets its contract: at each turn the graphs from this one on are left to be written, their nodes from `first` on.
use mathlib.Core.Path.{◌≡◌}
use mathlib.Core.List.{[]}
use Prim.Native.Nat.{◌+◌, ◌-◌}
use native.Mathlib.Omega.{arith}
use lib.ListN.{length, get_or}
use Rattle.writer.specs.Writing.{graphs_text}
use Rattle.memory.specs.Plain.{no_graph, graphs_in}
use Rattle.putting.specs.Texts.{graph_lines}
use Rattle.putting.proofs.Halfway.{has_room, goes_on, at_end_lem}
use Rattle.putting.proofs.Steps.{graph_step, nodes_step, no_graph_lem, cut_size, graph_cut}
use Rattle.putting.proofs.tables.put_graphs.Goals as goal

pub slice_bounds-own-end : goal.slice_bounds-own-end
slice_bounds-own-end c =
    let l = c.loop-g in
    let gs = c.args.graphs.now in
    omega (arith, nodes_step gs c.args.nodes.now l.g-index l.first (length gs - l.g-index) (omega arith), l.invariant.0)

pub put_graph-at-requires : goal.put_graph-at-requires
put_graph-at-requires c =
    let l = c.loop-g in
    let gs = c.args.graphs.now in
    let ns = c.args.nodes.now in
    let left = length gs - l.g-index in
    let x = get_or gs l.g-index no_graph in
    let rest = graphs_text (graphs_in gs ns (l.g-index + 1) (l.first + x.nodes) (left - 1)) [] in (
      cut_size ns l.first x.nodes (omega (arith, nodes_step gs ns l.g-index l.first left (omega arith), l.invariant.0)),
      rw (graph_cut x ns l.first) (has_room l.invariant.1 (graph_lines x ns l.first) rest (graph_step gs ns l.g-index l.first left (omega arith)) c.requires.1),
    )

pub loop-g-preserved : goal.loop-g-preserved
loop-g-preserved c =
    let l = c.loop-g in
    let gs = c.args.graphs.now in
    let ns = c.args.nodes.now in
    let left = length gs - l.g-index in
    let x = get_or gs l.g-index no_graph in
    let rest = graphs_text (graphs_in gs ns (l.g-index + 1) (l.first + x.nodes) (left - 1)) [] in
    let fewer : length gs - (l.g-index + 1) ≡ left - 1 = omega arith in
    rw fewer (
      omega (arith, nodes_step gs ns l.g-index l.first left (omega arith), l.invariant.0),
      goes_on l.invariant.1 (graph_lines x ns l.first) rest (graph_step gs ns l.g-index l.first left (omega arith)) c.requires.1 (rw (graph_cut x ns l.first) at c.put_graph-at.ensures),
    )

pub returns : goal.returns
returns c =
    let l = c.loop-g in
    let none : length c.args.graphs.now - l.g-index ≡ 0 = omega arith in
    at_end_lem l.invariant.1 (rw none (no_graph_lem c.args.graphs.now c.args.nodes.now l.g-index l.first))
