-- `spend` meets its contract. The loop keeps: the first ones that run have used their ticks.
use mathlib.Core.Path.{refl}
use Rattle.window.specs.Spending.{spent}
use Rattle.spending.proofs.SpendLaws.{spent_more}
use Rattle.spending.proofs.spend.Goals as goal

pub loop-place-init : goal.loop-place-init
unfolding spent
loop-place-init c = refl

pub loop-place-preserved : goal.loop-place-preserved
loop-place-preserved c =
    let a = c.args in
    let l = c.loop-place in
    spent_more a.left.now a.at.now l.place-index _ c.place_at-k.ensures a.d l.invariant c.from.ensures c.saturating_sub.ensures
