use mathlib.Core.Path.{◌≡◌}
use Rattle.window.specs.Spending.{spent}
use Rattle.spending.proofs.spend.Given as goal

abbrev pub invariant-loop-place : goal.invariant-loop-place
invariant-loop-place l = l.left ≡ spent l.initial.left l.at l.d l.place-index
