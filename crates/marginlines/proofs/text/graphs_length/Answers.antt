-- `graphs_length` meets its contract. The loop's invariant: `n` is the length of the lines of the graphs passed, which are at most the longest.
use mathlib.Core.Path.{◌≡◌, refl, sym, ap}
use native.Mathlib.Omega.{arith}
use lib.ListN.{length, take, get_or, length-append}
use lib.Seq.{take_all}
use Rattle.margins.specs.Margins.{margin_lines}
use Rattle.marginlines.specs.Lines.{graph_lines}
use Rattle.marginlines.proofs.Margins.{graph_more}
use Rattle.marginlines.proofs.text.graphs_length.Goals as goal

pub loop-g-init : goal.loop-g-init
unfolding margin_lines
loop-g-init c = (refl, omega arith)

pub loop-g-preserved : goal.loop-g-preserved
loop-g-preserved c =
    let l = c.loop-g in
    let fs = c.args.figures.now in
    let ls = c.args.limits.now in
    let lines : length (graph_lines c.limit_at.result (get_or fs l.g 0)) ≡ length (graph_lines (get_or ls l.g 0) (get_or fs l.g 0)) = rw c.limit_at.ensures refl in (
      omega (
        arith,
        l.invariant.0,
        c.lines_length-n.ensures.size,
        lines,
        length-append (margin_lines (take l.g fs) ls) (graph_lines (get_or ls l.g 0) (get_or fs l.g 0)),
        ap length (graph_more fs ls l.g (omega arith)),
      ),
      omega (arith, c.lines_length-n.ensures.within),
    )
