use mathlib.Core.Path.{◌≡◌}
use Rattle.repeating.specs.Moving.{moved_to}
use Rattle.repeating.proofs.moving.moved_row.Given as goal

abbrev pub invariant-loop-r : goal.invariant-loop-r
invariant-loop-r l = l.moved ≡ moved_to l.periods l.passed l.row l.r
