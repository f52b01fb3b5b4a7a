use mathlib.Core.Path.{◌≡◌}
use Rattle.window.specs.Spending.{least_left}
use Rattle.spending.proofs.least_left.Given as goal

abbrev pub invariant-loop-place : goal.invariant-loop-place
invariant-loop-place l = l.least ≡ least_left l.left l.at l.most l.place-index
