use mathlib.Core.Path.{◌≡◌}
use Rattle.ledger.specs.Finishing.{finish_to}
use Rattle.plainsteps.proofs.finishing.finish.Given as goal

abbrev pub invariant-loop-i : goal.invariant-loop-i
invariant-loop-i l = l.next ≡ finish_to l.plan l.offsets l.l l.t l.i
