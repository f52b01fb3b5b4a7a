-- `release` meets its contract. The loop keeps: the state is that after the turns of the first i servers.
use mathlib.Core.Path.{◌≡◌, refl, ap, ◌∙◌}
use native.Mathlib.Omega.{arith}
use Rattle.window.specs.Entries.{nodes_of}
use Rattle.window.specs.Loops.{in_turn}
use Rattle.window.specs.Releasing.{release_one, released}
use Rattle.window.proofs.LoopLaws.{turn_more}
use Rattle.releasing.proofs.entering.release.Goals as goal

pub loop-i-init : goal.loop-i-init
unfolding in_turn
loop-i-init c = refl

pub loop-i-preserved : goal.loop-i-preserved
loop-i-preserved c =
    let st = c.args.state.now in
    turn_more (release_one c.args.plan.now c.args.t st.unfinished) st c.loop-i.i c.loop-i.invariant c.release_one.ensures

pub returns : goal.returns
unfolding released
returns c =
    let n : c.loop-i.i ≡ nodes_of c.args.plan.now = omega (arith, c.min-i-end.ensures) in
    let st = c.args.state.now in
    c.loop-i.invariant ∙ ap (in_turn (release_one c.args.plan.now c.args.t st.unfinished) st) n
