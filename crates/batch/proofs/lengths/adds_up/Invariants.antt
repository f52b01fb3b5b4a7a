use mathlib.Core.Path.{◌≡◌}
use Prim.Native.Nat.{◌+◌}
use lib.ListN.{drop}
use Rattle.rules.specs.Batch.{total}
use Rattle.batch.proofs.lengths.adds_up.Given as goal

abbrev pub invariant-loop-length : goal.invariant-loop-length
invariant-loop-length l = total l.lengths + l.left ≡ total (drop l.length-index l.lengths) + l.bytes
