use mathlib.Core.Path.{◌≡◌}
use Rattle.window.specs.Entries.{nodes_of}
use Rattle.ledger.specs.Ranks.{found_to, found}
use Rattle.plainranks.proofs.row.found.Given as goal

abbrev pub invariant-loop-place : goal.invariant-loop-place
invariant-loop-place l =
    found_to l.offsets l.plan.period l.plan.level l.l.complete l.l.released (nodes_of l.plan) l.r l.place
    ≡ found l.offsets l.plan.period l.plan.level l.l.complete l.l.released (nodes_of l.plan) l.r
