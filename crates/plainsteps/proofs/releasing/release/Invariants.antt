use mathlib.Core.Path.{◌≡◌}
use Rattle.ledger.specs.Releasing.{release_to}
use Rattle.plainsteps.proofs.releasing.release.Given as goal

abbrev pub invariant-loop-i : goal.invariant-loop-i
invariant-loop-i l = l.next ≡ release_to l.plan l.offsets l.l l.t l.i
