use mathlib.Core.Path.{◌≡◌}
use Prim.Native.Nat.{ℕ}
use lib.ListN.{get_or, replicate}
use Rattle.schedule.specs.Limits as Limits
use Rattle.table.specs.Fresh.{no_graph}
use Rattle.window.specs.Loops.{replaced}
use Rattle.repeating.specs.Moving.{periods_in}
use Rattle.repeating.proofs.moving.periods_of.Given as goal

abbrev pub invariant-loop-g : goal.invariant-loop-g
invariant-loop-g l = l.periods ≡ replaced (λ (i : ℕ). periods_in l.hyper (get_or l.graph i no_graph)) (replicate (Limits.graphs).to 0) l.g
