use mathlib.Core.Path.{◌≡◌}
use Rattle.plainranks.proofs.RankLaws.{ran_at}
use Rattle.plainranks.proofs.running.run.Given as goal

abbrev pub invariant-loop-i : goal.invariant-loop-i
invariant-loop-i l = l.next ≡ ran_at l.plan l.offsets l.l l.i
