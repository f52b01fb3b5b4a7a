use mathlib.Core.Path.{◌≡◌}
use Prim.Native.Nat.{◌-◌, ◌≤◌}
use lib.Dec.{ltb}
use lib.ListN.{get_or}
use Rattle.ledger.specs.Ranks.{ready_count, before_by}
use Rattle.plainranks.proofs.ranks.before_at.Given as goal

abbrev pub invariant-loop-k : goal.invariant-loop-k
invariant-loop-k l =
    (l.k - get_or l.l.complete l.m 0 ≤ ready_count l.offsets l.plan.period l.plan.level l.l.complete l.l.released l.m)
    × (l.count ≡ before_by (get_or l.offsets l.m 0) (get_or l.plan.period l.m 0) (get_or l.l.complete l.m 0) l.deadline (ltb l.m l.i) (l.k - get_or l.l.complete l.m 0))
