-- `largest_offset` meets its contract. The loop's invariant: the largest offset of the first graphs.
use mathlib.Core.Path.{◌≡◌, refl, ap, ◌∙◌}
use Prim.Native.Nat.{ℕ, ◌+◌, ◌<◌, max}
use native.Mathlib.Numerals.{add-one}
use native.Mathlib.Omega.{arith}
use lib.ListN.{get_or, length, take}
use Rattle.std.proofs.lemmas.List.{length-take}
use Rattle.table.specs.declared.Table.{Table}
use Rattle.table.specs.Fresh.{no_graph}
use Rattle.window.proofs.LoopLaws.{first_item}
use Rattle.planning.specs.Offsets.{largest_to}
use Rattle.planning.proofs.offsets.largest_offset.Goals as goal

-- one graph more
largest_more : (t : Table) (n i : ℕ) {most u : ℕ} → i < length (take n t.graph) → most ≡ largest_to t i
    → u ≡ max most (get_or (take n t.graph) i no_graph).offset → u ≡ largest_to t (i + 1)
unfolding largest_to
largest_more t n i h e f = rw (add-one i, ← e, ← first_item n t.graph i no_graph h) f

pub loop-y-init : goal.loop-y-init
unfolding largest_to
loop-y-init c = refl

pub loop-y-preserved : goal.loop-y-preserved
loop-y-preserved c = largest_more c.args.table c.min-graphs.result c.loop-y.y-index c.loop-y-test.true c.loop-y.invariant c.max-most.ensures

pub returns : goal.returns
returns c =
    let all : length c.args.table.graph ≡ 8 = omega arith in
    let e : c.loop-y.y-index ≡ c.min-graphs.result = omega (arith, length-take c.min-graphs.result c.args.table.graph) in
    c.loop-y.invariant ∙ ap (largest_to c.args.table) (e ∙ c.min-graphs.ensures)
