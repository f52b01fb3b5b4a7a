-- `periods_of` meets its contract. The loop keeps: the periods of the first g graphs are filled in.
use mathlib.Core.Path.{refl}
use Prim.Native.Nat.{ℕ}
use lib.ListN.{get_or, replicate}
use Rattle.schedule.specs.Limits as Limits
use Rattle.table.specs.Fresh.{no_graph}
use Rattle.window.specs.Loops.{replaced}
use Rattle.window.proofs.LoopLaws.{replaced_more}
use Rattle.repeating.specs.Moving.{periods_in}
use Rattle.repeating.proofs.moving.periods_of.Goals as goal

pub loop-g-init : goal.loop-g-init
unfolding replaced
loop-g-init c = refl

pub loop-g-preserved : goal.loop-g-preserved
loop-g-preserved c =
    replaced_more (λ (i : ℕ). periods_in c.args.hyper (get_or c.args.graph i no_graph)) (replicate (Limits.graphs).to 0) c.loop-g.g c.loop-g.invariant
    c.periods_in.ensures
