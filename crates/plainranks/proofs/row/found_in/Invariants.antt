use mathlib.Core.Path.{◌≡◌}
use Prim.Native.Nat.{◌-◌}
use lib.ListN.{get_or}
use Rattle.window.specs.Entries.{nodes_of}
use Rattle.ledger.specs.Ranks.{found_by, found_in}
use Rattle.plainranks.proofs.row.found_in.Given as goal

abbrev pub invariant-loop-k : goal.invariant-loop-k
invariant-loop-k l =
    found_by l.offsets l.plan.period l.plan.level l.l.complete l.l.released (nodes_of l.plan) l.i l.r (l.k - get_or l.l.complete l.i 0)
    ≡ found_in l.offsets l.plan.period l.plan.level l.l.complete l.l.released (nodes_of l.plan) l.i l.r
