-- `best_from` meets its contract. The loop keeps: `best` is the best of the first heads.
use mathlib.Core.Path.{◌≡◌, refl}
use Rattle.window.specs.Choosing.{best_from, head_from}
use Rattle.choosing.proofs.ChooseLaws.{head_below, head_at, best_more}
use Rattle.choosing.proofs.best_from.Goals as goal
use Rattle.choosing.proofs.best_from.Goals.{then-head-from, else-head-from}

pub loop-head-init : goal.loop-head-init
unfolding best_from
loop-head-init c = refl

pub loop-head-preserved : goal.loop-head-preserved
loop-head-preserved c =
    let a = c.args in
    let i = c.loop-head.head-index in
    let head : c.if-head-from.k ≡ head_from a.heads.now a.from i =
    elim c.if-head-from.branch [
      | then-head-from w ↦ head_below a.heads.now a.from a.n i c.loop-head-test.true w.if-head-from.true w.k-is
      | else-head-from w ↦ head_at a.heads.now a.from a.n i c.loop-head-test.true w.if-head-from.false w.k-is
    ] in
    best_more a.heads.now a.from i c.loop-head.invariant head c.min-best.ensures
