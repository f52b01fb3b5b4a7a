use mathlib.Core.Path.{◌≡◌}
use lib.ListN.{get_or}
use Rattle.ledger.specs.Forming.{behind_by}
use Rattle.plainstates.proofs.forming.form_behind.Given as goal

abbrev pub invariant-loop-d : goal.invariant-loop-d
invariant-loop-d l = l.behind ≡ behind_by l.l.link l.i (get_or l.l.complete l.i 0) l.initial.behind l.d
