use mathlib.Core.Path.{◌≡◌}
use Prim.Native.Nat.{◌≤◌}
use Rattle.ledger.specs.Showing.{row_to}
use Rattle.plainranks.proofs.row.row_of.Given as goal

abbrev pub invariant-loop-r : goal.invariant-loop-r
invariant-loop-r l = (l.row.count ≤ l.r) × (l.row ≡ row_to l.plan l.offsets l.l l.r)
