use mathlib.Core.Path.{◌≡◌}
use Rattle.window.specs.Releasing.{earliest}
use Rattle.releasing.proofs.instants.earliest.Given as goal

abbrev pub invariant-loop-instant : goal.invariant-loop-instant
invariant-loop-instant l = l.least ≡ earliest l.next l.instant-index
