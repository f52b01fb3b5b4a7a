-- `earliest` meets its contract. The loop keeps: `least` is the earliest of the first instants.
use mathlib.Core.Path.{refl}
use Rattle.window.specs.Releasing.{earliest}
use Rattle.releasing.proofs.ReleaseLaws.{earliest_more}
use Rattle.releasing.proofs.instants.earliest.Goals as goal

pub loop-instant-init : goal.loop-instant-init
unfolding earliest
loop-instant-init c = refl

pub loop-instant-preserved : goal.loop-instant-preserved
loop-instant-preserved c =
    let l = c.loop-instant in
    earliest_more c.args.next.now c.args.n l.instant-index c.loop-instant-test.true l.invariant c.min-least.ensures
