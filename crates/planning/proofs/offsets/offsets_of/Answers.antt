-- `offsets_of` meets its contract. The loop's invariant: the first i offsets are at their places, and g is the graph of place i.
use mathlib.Core.Path.{refl}
use Prim.Native.Nat.{◌+◌}
use native.Mathlib.Numerals.{add-one}
use native.Mathlib.Omega.{arith}
use Rattle.window.specs.Loops.{replaced}
use Rattle.planning.specs.Graphs.{graph_to}
use Rattle.planning.proofs.GraphLaws.{graph_in_lem, graph_next}
use Rattle.planning.proofs.offsets.offsets_of.Goals as goal

pub loop-i-init : goal.loop-i-init
unfolding graph_to replaced
loop-i-init c = (omega arith, refl, refl)

pub loop-i-preserved : goal.loop-i-preserved
unfolding replaced
loop-i-preserved c =
    let l = c.loop-i in
    let t = c.args.table in
    let next = graph_next t l.i l.invariant.1 c.next_graph-g.ensures in
    (rw next (graph_in_lem t (l.i + 1)), next, rw (add-one l.i, ← l.invariant.2, ← l.invariant.1))
