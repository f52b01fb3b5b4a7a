use mathlib.Core.Path.{◌≡◌}
use Rattle.planning.specs.Offsets.{largest_to}
use Rattle.planning.proofs.offsets.largest_offset.Given as goal

abbrev pub invariant-loop-y : goal.invariant-loop-y
invariant-loop-y l = l.most ≡ largest_to l.fn.table l.y-index
