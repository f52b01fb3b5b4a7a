-- `nodes_of` meets its contract: the first entries are taken over.
use Rattle.std.proofs.Common.{ℕ, get_or, replicate, refl}
use Rattle.schedule.specs.Limits as Limits
use Rattle.table.specs.Fresh as Fresh
use Rattle.window.specs.Loops.{replaced}
use Rattle.window.proofs.LoopLaws.{replaced_more}
use Rattle.memory.specs.Plain.{no_node}
use Rattle.editing.specs.Plains.{plain_node}
use Rattle.editing.proofs.plains.nodes_of.Goals as goal

pub loop-i-init : goal.loop-i-init
unfolding replaced
loop-i-init c = refl

pub loop-i-preserved : goal.loop-i-preserved
loop-i-preserved c =
    let l = c.loop-i in
    replaced_more (λ (k : ℕ). plain_node (get_or c.args.nodes.now k Fresh.no_node)) (replicate (Limits.all_nodes).to no_node) l.i l.invariant c.plain_node.ensures
