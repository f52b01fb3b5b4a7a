-- `graphs_of` meets its contract: the first entries are taken over.
use Rattle.std.proofs.Common.{ℕ, get_or, replicate, refl}
use Rattle.schedule.specs.Limits as Limits
use Rattle.table.specs.Fresh as Fresh
use Rattle.window.specs.Loops.{replaced}
use Rattle.window.proofs.LoopLaws.{replaced_more}
use Rattle.memory.specs.Plain.{no_graph}
use Rattle.editing.specs.Plains.{plain_graph}
use Rattle.editing.proofs.plains.graphs_of.Goals as goal

pub loop-g-init : goal.loop-g-init
unfolding replaced
loop-g-init c = refl

pub loop-g-preserved : goal.loop-g-preserved
loop-g-preserved c =
    let l = c.loop-g in
    replaced_more (λ (k : ℕ). plain_graph (get_or c.args.graphs.now k Fresh.no_graph)) (replicate (Limits.graphs).to no_graph) l.g l.invariant c.plain_graph.ensures
