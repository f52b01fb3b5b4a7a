use mathlib.Core.Path.{◌≡◌}
use lib.ListN.{get_or}
use Rattle.ledger.specs.Forming.{left_by}
use Rattle.plainstates.proofs.forming.form_left.Given as goal

abbrev pub invariant-loop-d : goal.invariant-loop-d
invariant-loop-d l = l.left ≡ left_by l.l.used l.i (get_or l.l.complete l.i 0) (get_or l.plan.budget l.i 0) l.initial.left l.d
