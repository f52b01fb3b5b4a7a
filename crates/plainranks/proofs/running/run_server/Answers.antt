-- `run_server` meets its contract. The loop keeps: the ticks used, after the ready server jobs up to k.
use mathlib.Core.Path.{◌∙◌}
use native.Mathlib.Omega.{arith}
use Rattle.window.specs.Entries.{nodes_of}
use Rattle.plainranks.proofs.RankLaws.{run_start, run_yes, run_no}
use Rattle.plainranks.proofs.running.run_server.Goals as goal
use Rattle.plainranks.proofs.running.run_server.Goals.{then-rank-plan, else-rank-plan}

pub loop-k-init : goal.loop-k-init
loop-k-init c =
    let plan = c.args.plan.now in
    let o = c.args.offsets.now in
    let l = c.args.l.now in
    (omega arith, run_start o plan.period plan.level l.complete l.released l.used (nodes_of plan) plan.processors c.args.i c.args.used.now)

pub loop-k-preserved : goal.loop-k-preserved
loop-k-preserved c =
    let plan = c.args.plan.now in
    let o = c.args.offsets.now in
    let l = c.args.l.now in (
      omega (arith, c.last_ready-k-end.ensures),
      elim c.if-rank-plan.branch [
        | then-rank-plan w ↦ w.used-is ∙ run_yes o plan.period plan.level l.complete l.released l.used (nodes_of plan) plan.processors c.args.i c.args.used.now c.loop-k.k c.loop-k.auto.k c.rank.ensures c.loop-k.invariant.1 w.if-rank-plan.true w.slot-s.ensures.0 w.saturating_add.ensures
        | else-rank-plan w ↦ w.used-is ∙ run_no o plan.period plan.level l.complete l.released l.used (nodes_of plan) plan.processors c.args.i c.args.used.now c.loop-k.k c.loop-k.auto.k c.rank.ensures c.loop-k.invariant.1 w.if-rank-plan.false
      ],
    )
