-- `least_left` meets its contract. The loop keeps: `least` is that of the first ones that run.
use mathlib.Core.Path.{refl}
use Rattle.window.specs.Spending.{least_left}
use Rattle.spending.proofs.SpendLaws.{least_more, least_same}
use Rattle.spending.proofs.least_left.Goals as goal
use Rattle.spending.proofs.least_left.Goals.{then-x-gt0, else-x-gt0}

pub loop-place-init : goal.loop-place-init
unfolding least_left
loop-place-init c = refl

pub loop-place-preserved : goal.loop-place-preserved
loop-place-preserved c =
    let a = c.args in
    let l = c.loop-place in
    elim c.if-x-gt0.branch [
      | then-x-gt0 w ↦ least_more a.left.now a.at.now l.place-index _ c.place_at.ensures a.most l.invariant w.least-is w.min-least.ensures w.from.ensures w.if-x-gt0.true
      | else-x-gt0 w ↦ least_same a.left.now a.at.now l.place-index _ c.place_at.ensures a.most l.invariant w.least-is w.if-x-gt0.false
    ]
