use mathlib.Core.Path.{◌≡◌}
use Prim.Native.Nat.{◌^◌, ◌<◌}
use Rattle.numbers.specs.Masks.{width, ones}
use Rattle.ledger.specs.Releasing.{all_finished}
use Rattle.plainsteps.proofs.releasing.all_finished.Given as goal

abbrev pub invariant-loop-left : goal.invariant-loop-left
invariant-loop-left l = (l.left < 2 ^ width) × (all_finished l.finished l.after l.j ≡ all_finished l.finished l.left l.j)

abbrev pub decreases-loop-left : goal.decreases-loop-left
decreases-loop-left l = ones l.left
