-- `finish_server` meets its contract. The loop keeps: `done` is what the pending server jobs up to k come to.
use mathlib.Core.Path.{◌∙◌}
use native.Mathlib.Omega.{arith}
use lib.ListN.{get_or}
use Rattle.ledger.specs.Finishing.{from_at}
use Rattle.plainsteps.proofs.StepLaws.{done_start, done_full, done_same}
use Rattle.plainsteps.proofs.finishing.finish_server.Goals as goal
use Rattle.plainsteps.proofs.finishing.finish_server.Goals.{then-budget-l, else-budget-l}

pub loop-k-init : goal.loop-k-init
loop-k-init c =
    let plan = c.args.plan.now in
    let o = c.args.offsets.now in
    let l = c.args.l.now in
    let i = c.args.i in
    (omega arith, done_start l.used l.link i (from_at l i) (get_or plan.budget i 0) (get_or o i 0) (get_or plan.period i 0) c.args.t)

pub loop-k-preserved : goal.loop-k-preserved
loop-k-preserved c =
    let plan = c.args.plan.now in
    let o = c.args.offsets.now in
    let l = c.args.l.now in
    let i = c.args.i in (
      omega arith,
      elim c.if-budget-l.branch [
        | then-budget-l w ↦ w.done-is ∙ done_full l.used l.link i (from_at l i) (get_or plan.budget i 0) (get_or o i 0) (get_or plan.period i 0) c.args.t c.loop-k.k c.loop-k.auto.k c.slot-s.ensures.0 c.loop-k.invariant.1 (omega (arith, w.if-budget-l.true, c.from-budget.ensures)) w.with_one-done.ensures
        | else-budget-l w ↦ w.done-is ∙ done_same l.used l.link i (from_at l i) (get_or plan.budget i 0) (get_or o i 0) (get_or plan.period i 0) c.args.t c.loop-k.k c.loop-k.auto.k c.slot-s.ensures.0 c.loop-k.invariant.1 (omega (arith, w.if-budget-l.false, c.from-budget.ensures))
      ],
    )
