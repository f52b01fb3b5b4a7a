-- `figures_of` meets its contract. The loop keeps: the first g figures are taken over.
use mathlib.Core.Path.{refl, ap, ◌∙◌}
use lib.ListN.{replicate}
use Rattle.schedule.specs.Limits as Limits
use Rattle.window.specs.Loops.{replaced}
use Rattle.window.proofs.LoopLaws.{replaced_more}
use Rattle.sheet.specs.Figures.{worst_at, figure_in}
use Rattle.sheet.proofs.figures.figures_of.Goals as goal

pub loop-g-init : goal.loop-g-init
unfolding replaced
loop-g-init c = refl

pub loop-g-preserved : goal.loop-g-preserved
loop-g-preserved c =
    replaced_more (figure_in c.args.graph c.args.worst) (replicate (Limits.graphs).to 0) c.loop-g.g c.loop-g.invariant
    (c.worst_at.ensures ∙ ap (worst_at c.args.worst) c.sink_of.ensures)
