-- `release` meets its contract. The loop keeps: the first i places have released.
use mathlib.Core.Path.{◌∙◌}
use Rattle.plainsteps.proofs.StepLaws.{release_yes, release_no, release_none, release_all}
use Rattle.plainsteps.proofs.releasing.release.Goals as goal
use Rattle.plainsteps.proofs.releasing.release.Goals.{then-releases, else-releases}

pub loop-i-init : goal.loop-i-init
loop-i-init c = release_none c.args.plan.now c.args.offsets.now c.args.l.now c.args.t

pub loop-i-preserved : goal.loop-i-preserved
loop-i-preserved c =
    let plan = c.args.plan.now in
    let o = c.args.offsets.now in
    let l = c.args.l.now in
    let t = c.args.t in
    let i = c.loop-i.i in
    elim c.if-releases.branch [
      | then-releases w ↦ release_yes plan o l t i c.loop-i.invariant c.releases.ensures w.if-releases.true w.saturating_add-k.ensures w.saturating_add-j.ensures w.link_now-new.ensures w.slot-s.ensures.0 w.unwrap_or-linked.ensures w.unwrap_or-link.ensures w.next-is
      | else-releases w ↦ w.next-is ∙ release_no plan o l t i c.loop-i.invariant c.releases.ensures w.if-releases.false
    ]

pub returns : goal.returns
returns c =
    release_all c.args.plan.now c.args.offsets.now c.args.l.now c.args.t c.min-i-end.result c.loop-i.i c.min-i-end.ensures c.loop-i.invariant c.loop-i.auto.i-end c.loop-i-test.false
