-- `rank` meets its contract. The loop keeps: how many of the first m places' ready server jobs stand before.
use Rattle.plainranks.proofs.RankLaws.{rank_start, rank_more}
use Rattle.plainranks.proofs.ranks.rank.Goals as goal

pub loop-m-init : goal.loop-m-init
loop-m-init c =
    let plan = c.args.plan.now in
    let o = c.args.offsets.now in
    let l = c.args.l.now in
    rank_start o plan.period plan.level l.complete l.released c.args.i c.instant_after-deadline.result

pub loop-m-preserved : goal.loop-m-preserved
loop-m-preserved c =
    let plan = c.args.plan.now in
    let o = c.args.offsets.now in
    let l = c.args.l.now in
    rank_more o plan.period plan.level l.complete l.released c.args.i c.instant_after-deadline.result c.loop-m.m c.loop-m.invariant c.before_at.ensures c.saturating_add-count.ensures
