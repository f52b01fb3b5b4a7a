use Prim.Native.Nat.{ℕ}
use mathlib.Core.Path.{◌≡◌}
use lib.ListN.{get_or, replicate}
use Rattle.schedule.specs.Limits as Limits
use Rattle.table.specs.Fresh as Fresh
use Rattle.window.specs.Loops.{replaced}
use Rattle.memory.specs.Plain.{no_graph}
use Rattle.editing.specs.Plains.{plain_graph}
use Rattle.editing.proofs.plains.graphs_of.Given as goal

abbrev pub invariant-loop-g : goal.invariant-loop-g
invariant-loop-g l = l.list ≡ replaced (λ (k : ℕ). plain_graph (get_or l.graphs k Fresh.no_graph)) (replicate (Limits.graphs).to no_graph) l.g
