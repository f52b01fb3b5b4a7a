use Prim.Native.Nat.{ℕ}
use mathlib.Core.Path.{◌≡◌}
use lib.ListN.{get_or, replicate}
use Rattle.schedule.specs.Limits as Limits
use Rattle.table.specs.Fresh as Fresh
use Rattle.window.specs.Loops.{replaced}
use Rattle.memory.specs.Plain.{no_node}
use Rattle.editing.specs.Plains.{plain_node}
use Rattle.editing.proofs.plains.nodes_of.Given as goal

abbrev pub invariant-loop-i : goal.invariant-loop-i
invariant-loop-i l = l.list ≡ replaced (λ (k : ℕ). plain_node (get_or l.nodes k Fresh.no_node)) (replicate (Limits.all_nodes).to no_node) l.i
