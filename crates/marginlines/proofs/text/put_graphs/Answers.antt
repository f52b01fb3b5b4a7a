-- `put_graphs` meets its contract. The loop's invariant: the lines of the graphs passed are written.
use mathlib.Core.Path.{◌≡◌, ap}
use mathlib.Core.List.{List}
use Prim.Native.Nat.{ℕ, ◌+◌, ◌≤◌, ◌<◌}
use native.Mathlib.Omega.{arith}
use lib.ListN.{length, take, get_or}
use Rattle.margins.specs.Margins.{margin_lines}
use Rattle.writing.proofs.Writing.{nothing, named, room, both}
use Rattle.marginlines.specs.Lines.{graph_lines}
use Rattle.marginlines.proofs.Margins.{graph_more, graph_fits}
use Rattle.marginlines.proofs.text.put_graphs.Goals as goal

fit : (fs ls part : List ℕ) (g limit : ℕ) → g < length fs → limit ≡ get_or ls g 0
    → length (margin_lines fs ls) ≤ length part → length (margin_lines (take g fs) ls) + length (graph_lines limit (get_or fs g 0)) ≤ length part
fit fs ls part g limit inside same h = omega (arith, graph_fits fs ls g inside, ap (λ (l : ℕ). length (graph_lines l (get_or fs g 0))) same)

pub loop-g-init : goal.loop-g-init
unfolding margin_lines
loop-g-init c = nothing c.args.part.now

pub put_lines-at-requires : goal.put_lines-at-requires
put_lines-at-requires c =
    let l = c.loop-g in
    room (graph_lines c.limit_at.result (get_or c.args.figures.now l.g 0)) l.invariant
    (fit c.args.figures.now c.args.limits.now c.args.part.now l.g c.limit_at.result (omega arith) c.limit_at.ensures c.requires)

pub loop-g-preserved : goal.loop-g-preserved
loop-g-preserved c =
    let l = c.loop-g in
    let fs = c.args.figures.now in
    let ls = c.args.limits.now in
    let f = fit fs ls c.args.part.now l.g c.limit_at.result (omega arith) c.limit_at.ensures c.requires in
    named (graph_more fs ls l.g (omega arith))
    (rw c.limit_at.ensures at (both (graph_lines c.limit_at.result (get_or fs l.g 0)) l.invariant f c.put_lines-at.ensures))
