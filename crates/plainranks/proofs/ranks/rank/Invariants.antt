use mathlib.Core.Path.{◌≡◌}
use Rattle.ledger.specs.Ranks.{rank_by}
use Rattle.plainranks.proofs.ranks.rank.Given as goal

abbrev pub invariant-loop-m : goal.invariant-loop-m
invariant-loop-m l = l.count ≡ rank_by l.offsets l.plan.period l.plan.level l.l.complete l.l.released l.i l.deadline l.m
