use mathlib.Core.List.{[]}
use Prim.Native.Nat.{◌+◌, ◌-◌, ◌≤◌}
use lib.ListN.{length}
use Rattle.writer.specs.Writing.{graphs_text}
use Rattle.memory.specs.Plain.{graphs_in}
use Rattle.putting.specs.Texts.{graphs_lines, all_nodes}
use Rattle.putting.proofs.Halfway.{Halfway}
use Rattle.putting.proofs.tables.put_graphs.Given as goal

abbrev pub invariant-loop-g : goal.invariant-loop-g
invariant-loop-g l =
    (l.first + all_nodes (graphs_in l.graphs l.nodes l.g-index l.first (length l.graphs - l.g-index)) ≤ length l.nodes)
    × Halfway (graphs_lines l.graphs l.nodes (length l.graphs)) l.initial.part l.part l.at (graphs_text (graphs_in l.graphs l.nodes l.g-index l.first (length l.graphs - l.g-index)) [])
