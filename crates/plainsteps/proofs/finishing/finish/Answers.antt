-- `finish` meets its contract. The loop keeps: the first i places are finished.
use Rattle.plainsteps.proofs.StepLaws.{finish_more, finish_none, finish_all}
use Rattle.plainsteps.proofs.finishing.finish.Goals as goal

pub loop-i-init : goal.loop-i-init
loop-i-init c = finish_none c.args.plan.now c.args.offsets.now c.args.l.now c.args.t

pub loop-i-preserved : goal.loop-i-preserved
loop-i-preserved c =
    finish_more c.args.plan.now c.args.offsets.now c.args.l.now c.args.t c.loop-i.i c.loop-i.invariant c.finish_server-done.ensures

pub returns : goal.returns
returns c =
    finish_all c.args.plan.now c.args.offsets.now c.args.l.now c.args.t c.min-i-end.result c.loop-i.i c.min-i-end.ensures c.loop-i.invariant c.loop-i.auto.i-end c.loop-i-test.false
