use mathlib.Core.Path.{◌≡◌}
use Prim.Native.Nat.{◌-◌, ◌≤◌}
use lib.ListN.{get_or}
use Rattle.window.specs.Entries.{nodes_of}
use Rattle.ledger.specs.Ranks.{ready_count, ran_by}
use Rattle.plainranks.proofs.running.run_server.Given as goal

abbrev pub invariant-loop-k : goal.invariant-loop-k
invariant-loop-k l =
    (l.k - get_or l.l.complete l.i 0 ≤ ready_count l.offsets l.plan.period l.plan.level l.l.complete l.l.released l.i)
    × (l.used ≡ ran_by l.offsets l.plan.period l.plan.level l.l.complete l.l.released l.l.used (nodes_of l.plan) l.plan.processors l.i l.initial.used (l.k - get_or l.l.complete l.i 0))
