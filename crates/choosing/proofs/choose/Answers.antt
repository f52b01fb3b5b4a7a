-- `choose` meets its contract. The loop keeps: the lists, the heads and the slots taken are those of the first m choices.
use mathlib.Core.Path.{refl, sym, ◌∙◌}
use Rattle.window.specs.Choosing.{picks}
use Rattle.choosing.proofs.ChooseLaws.{all_picked, picked_of, picked_next, picked_last}
use Rattle.choosing.proofs.choose.Goals as goal
use Rattle.choosing.proofs.choose.Goals.{then-d-min, else-d-min}

pub loop-m-init : goal.loop-m-init
unfolding picks
loop-m-init c = refl

pub returns-then-key : goal.returns-then-key
returns-then-key c =
    let none = sym c.best_from-key.ensures ∙ c.if-key.true in
    picked_of (all_picked _ _ _ _ _ _ _ _ none _ _ c.loop-m.invariant c.loop-m.auto.m-end)

pub loop-m-preserved : goal.loop-m-preserved
loop-m-preserved c =
    let a = c.args in
    elim c.if-d-min.branch [
      | then-d-min w ↦
          rw (w.heads-is, w.taken-is)
          (picked_next a.first.now a.count.now a.level.now a.step.now a.n a.run.now a.at.now c.loop-m.m c.best_from-key.result
          c.min.result c.loop-m.invariant c.best_from-key.ensures c.if-key.false c.min.ensures w.if-d-min.true w.saturating_add.ensures)
      | else-d-min w ↦
          rw (w.heads-is, w.taken-is)
          (picked_last a.first.now a.count.now a.level.now a.step.now a.n a.run.now a.at.now c.loop-m.m c.best_from-key.result
          c.min.result c.loop-m.invariant c.best_from-key.ensures c.if-key.false c.min.ensures w.if-d-min.false)
    ]
