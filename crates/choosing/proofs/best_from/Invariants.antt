use mathlib.Core.Path.{◌≡◌}
use Rattle.window.specs.Choosing.{best_from}
use Rattle.choosing.proofs.best_from.Given as goal

abbrev pub invariant-loop-head : goal.invariant-loop-head
invariant-loop-head l = l.best ≡ best_from l.heads l.from l.head-index
