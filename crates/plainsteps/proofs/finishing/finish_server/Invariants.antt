use mathlib.Core.Path.{◌≡◌}
use Prim.Native.Nat.{◌-◌, ◌≤◌}
use lib.ListN.{get_or}
use Rattle.ledger.specs.Entries.{complete_at, released_at}
use Rattle.ledger.specs.Finishing.{from_at, done_by}
use Rattle.plainsteps.proofs.finishing.finish_server.Given as goal

abbrev pub invariant-loop-k : goal.invariant-loop-k
invariant-loop-k l =
    (l.k - complete_at l.l l.i ≤ released_at l.l l.i - complete_at l.l l.i)
    × (l.done ≡ done_by l.l.used l.l.link l.i (from_at l.l l.i) (get_or l.plan.budget l.i 0) (get_or l.offsets l.i 0) (get_or l.plan.period l.i 0) l.t (l.k - complete_at l.l l.i))
