-- `before_at` meets its contract. The loop keeps: how many of the server jobs up to k stand before.
use mathlib.Core.Path.{◌∙◌}
use native.Mathlib.Omega.{arith}
use lib.Dec.{ltb}
use lib.ListN.{get_or}
use Rattle.plainranks.proofs.RankLaws.{before_start, before_yes, before_no}
use Rattle.plainranks.proofs.ranks.before_at.Goals as goal
use Rattle.plainranks.proofs.ranks.before_at.Goals.{then-is_before, else-is_before}

pub loop-k-init : goal.loop-k-init
loop-k-init c =
    let plan = c.args.plan.now in
    let o = c.args.offsets.now in
    let l = c.args.l.now in
    let m = c.args.m in
    (omega arith, before_start (get_or o m 0) (get_or plan.period m 0) (get_or l.complete m 0) c.args.deadline (ltb m c.args.i))

pub loop-k-preserved : goal.loop-k-preserved
loop-k-preserved c =
    let plan = c.args.plan.now in
    let o = c.args.offsets.now in
    let l = c.args.l.now in
    let m = c.args.m in (
      omega (arith, c.last_ready-k-end.ensures),
      elim c.if-is_before.branch [
        | then-is_before w ↦ w.count-is ∙ before_yes (get_or o m 0) (get_or plan.period m 0) (get_or l.complete m 0) c.args.deadline (ltb m c.args.i) c.loop-k.k c.loop-k.auto.k c.instant_after-d.ensures c.is_before.ensures c.loop-k.invariant.1 w.if-is_before.true w.saturating_add-count.ensures
        | else-is_before w ↦ w.count-is ∙ before_no (get_or o m 0) (get_or plan.period m 0) (get_or l.complete m 0) c.args.deadline (ltb m c.args.i) c.loop-k.k c.loop-k.auto.k c.instant_after-d.ensures c.is_before.ensures c.loop-k.invariant.1 w.if-is_before.false
      ],
    )
