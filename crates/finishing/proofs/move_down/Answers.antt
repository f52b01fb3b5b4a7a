-- `move_down` meets its contract. The loop keeps: the first d budgets are moved.
use mathlib.Core.Path.{◌≡◌, refl, ap}
use Prim.Native.Nat.{ℕ, suc, ◌+◌}
use native.Mathlib.Omega.{arith}
use lib.ListN.{get_or, set}
use Rattle.window.specs.Loops.{in_turn}
use Rattle.window.proofs.LoopLaws.{turn_more}
use Rattle.finishing.proofs.FinishLaws.{moved}
use Rattle.finishing.proofs.move_down.Goals as goal

pub loop-d-init : goal.loop-d-init
unfolding in_turn
loop-d-init c = refl

pub loop-d-preserved : goal.loop-d-preserved
loop-d-preserved c =
    let a = c.args in
    let d = c.loop-d.d in
    let q : a.base + d + 1 ≡ a.base + suc d = omega arith in
    turn_more (moved a.base) a.left.now d c.loop-d.invariant (ap (λ (i : ℕ). set c.loop-d.left (a.base + d) (get_or c.loop-d.left i 0)) q)
