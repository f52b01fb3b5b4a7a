use mathlib.Core.Path.{◌≡◌}
use lib.ListN.{replicate}
use Rattle.schedule.specs.Limits as Limits
use Rattle.window.specs.Loops.{replaced}
use Rattle.sheet.specs.Figures.{figure_in}
use Rattle.sheet.proofs.figures.figures_of.Given as goal

abbrev pub invariant-loop-g : goal.invariant-loop-g
invariant-loop-g l = l.f ≡ replaced (figure_in l.graph l.worst) (replicate (Limits.graphs).to 0) l.g
