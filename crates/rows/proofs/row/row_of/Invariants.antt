use mathlib.Core.Path.{◌≡◌}
use Prim.Native.Nat.{◌≤◌}
use Rattle.schedule.specs.Limits as Limits
use Rattle.rows.proofs.Entries.{filled}
use Rattle.rows.proofs.row.row_of.Given as goal

abbrev pub invariant-loop-r : goal.invariant-loop-r
invariant-loop-r l = (l.m ≤ (Limits.processors).to) × (l.row ≡ filled l.plan l.offsets l.servers l.run l.at l.m l.r)
