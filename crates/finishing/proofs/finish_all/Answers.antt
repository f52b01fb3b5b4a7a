-- `finish_all` meets its contract. The loop keeps: the state is that after the turns of the first ones that ran.
use mathlib.Core.Path.{refl}
use Prim.Native.Nat.{ℕ}
use lib.ListN.{get_or}
use Rattle.table.specs.declared.State.{State}
use Rattle.window.specs.Loops.{in_turn}
use Rattle.window.specs.Choosing.{place_of}
use Rattle.window.specs.Finishing.{finish_at}
use Rattle.window.proofs.LoopLaws.{turn_more}
use Rattle.finishing.proofs.finish_all.Goals as goal

pub loop-key-init : goal.loop-key-init
unfolding in_turn
loop-key-init c = refl

pub loop-key-preserved : goal.loop-key-preserved
loop-key-preserved c =
    let a = c.args in
    turn_more (λ (u : State) (r : ℕ). finish_at a.plan.now a.now u (place_of (get_or a.run.now r 0))) a.state.now c.loop-key.key-index c.loop-key.invariant c.finish.ensures
