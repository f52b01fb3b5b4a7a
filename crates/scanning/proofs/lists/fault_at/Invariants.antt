use mathlib.Core.Path.{◌≡◌}
use Prim.Native.Nat.{ℕ, ◌-◌, ◌<◌}
use lib.ListN.{length, drop}
use Rattle.format.specs.Reading.{offending_by, offending}
use Rattle.scanning.proofs.lists.fault_at.Given as goal

abbrev pub invariant-loop-v : goal.invariant-loop-v
invariant-loop-v l = (n : ℕ) × (length (drop l.p l.s) < n) × (offending l.own (drop l.at l.s) ≡ offending_by n l.own l.last (drop l.p l.s))

abbrev pub decreases-loop-v : goal.decreases-loop-v
decreases-loop-v l = length l.s - l.p
