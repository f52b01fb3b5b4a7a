use mathlib.Core.Path.{◌≡◌}
use Prim.Native.Nat.{◌-◌}
use lib.ListN.{length, drop}
use Rattle.format.specs.Spelling.{numbers}
use Rattle.scanning.specs.Masks.{entries}
use Rattle.scanning.specs.Positions.{map_scan}
use Rattle.scanning.proofs.lists.numbers_at.Given as goal

abbrev pub invariant-loop-v : goal.invariant-loop-v
invariant-loop-v l = map_scan (entries l.range l.own l.initial.l) (numbers (drop l.initial.p l.s)) ≡ map_scan (entries l.range l.own l.l) (numbers (drop l.p l.s))

abbrev pub decreases-loop-v : goal.decreases-loop-v
decreases-loop-v l = length l.s - l.p
