use mathlib.Core.Path.{◌≡◌}
use Rattle.ledger.specs.Forming.{form_to}
use Rattle.plainstates.proofs.forming.form.Given as goal

abbrev pub invariant-loop-i : goal.invariant-loop-i
invariant-loop-i l = l.f ≡ form_to l.plan l.offsets l.l l.t l.i
