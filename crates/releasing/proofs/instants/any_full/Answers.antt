-- `any_full` meets its contract. The loop keeps: the answer for the first i servers.
use mathlib.Core.Path.{refl}
use Rattle.window.specs.Loops.{some_below}
use Rattle.window.specs.Releasing.{full_at}
use Rattle.window.proofs.LoopLaws.{some_more}
use Rattle.releasing.proofs.instants.any_full.Goals as goal

pub loop-i-init : goal.loop-i-init
unfolding some_below
loop-i-init c = refl

pub loop-i-preserved : goal.loop-i-preserved
loop-i-preserved c =
    let st = c.args.state.now in
    some_more (full_at st.next st.count st.unfinished c.args.room.now c.args.t) c.loop-i.i c.loop-i.invariant c.is_full-any.ensures
