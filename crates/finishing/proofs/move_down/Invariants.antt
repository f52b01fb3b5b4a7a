use mathlib.Core.Path.{◌≡◌}
use Rattle.window.specs.Loops.{in_turn}
use Rattle.finishing.proofs.FinishLaws.{moved}
use Rattle.finishing.proofs.move_down.Given as goal

abbrev pub invariant-loop-d : goal.invariant-loop-d
invariant-loop-d l = l.left ≡ in_turn (moved l.base) l.initial.left l.d
