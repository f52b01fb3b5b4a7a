-- `run` meets its contract. The loop keeps: the first i places have run.
use Rattle.plainranks.proofs.RankLaws.{ran_start, ran_more, ran_all}
use Rattle.plainranks.proofs.running.run.Goals as goal

pub loop-i-init : goal.loop-i-init
loop-i-init c = ran_start c.args.plan.now c.args.offsets.now c.args.l.now

pub loop-i-preserved : goal.loop-i-preserved
loop-i-preserved c =
    let plan = c.args.plan.now in
    let o = c.args.offsets.now in
    let l = c.args.l.now in
    ran_more plan o l c.loop-i.i c.loop-i.invariant c.run_server.ensures

pub returns : goal.returns
returns c =
    let plan = c.args.plan.now in
    let o = c.args.offsets.now in
    let l = c.args.l.now in
    ran_all plan o l c.min-i-end.result c.loop-i.i c.min-i-end.ensures c.loop-i.invariant c.loop-i.auto.i-end c.loop-i-test.false
