use mathlib.Core.Path.{◌≡◌}
use Prim.Native.Nat.{◌+◌, ◌^◌, ◌<◌}
use Rattle.numbers.specs.Masks.{width, ones}
use Rattle.window.specs.Releasing.{all_fewer}
use Rattle.releasing.proofs.due.all_fewer.Given as goal

abbrev pub invariant-loop-turn : goal.invariant-loop-turn
invariant-loop-turn l =
    (l.rest < 2 ^ width) × (ones l.rest + l._turn ≡ ones l.after) × (all_fewer l.unfinished l.after l.unlinked ≡ all_fewer l.unfinished l.rest l.unlinked)
