-- `keeps_up` meets its contract.
use Rattle.std.proofs.Common.{ℕ, ◌+◌, ◌∙◌, Bool, get_or, arith, refl, rules, tests, zero-add}
use Rattle.std.proofs.lemmas.Iterator.{YieldsList-from_range}
use Rattle.std.proofs.lemmas.Iterator.Search.{all_from_yields_List}
use Rattle.schedule.specs.Lists.{all?}
use Rattle.schedule.specs.Table as Rules
use Rattle.table.specs.Fresh.{no_graph}
use Rattle.reading.specs.Memory.{graph_of}
use Rattle.admission.proofs.PaceLaws.{all_tab}
use Rattle.admission.proofs.paces.keeps_up.Goals as goal

pub returns : goal.returns
unfolding Rules.keeps_up
returns c =
    let t = c.args.t.now in
    let keeps : Rules.Graph → Bool = λ (G : Rules.Graph). all? (Rules.node_keeps_up G.period) G.nodes in
    let at : ℕ → Rules.Graph = λ (g : ℕ). graph_of t.node (get_or t.graph g no_graph) in
    all_from_yields_List (λ k. keeps (at (0 + k))) _ _ c.all.result c.all.ensures.ran (YieldsList-from_range 0 t.graphs t.graphs refl (omega arith)) (λ y b q k. rw zero-add (search (rules, tests)))
    ∙ all_tab keeps at 0 t.graphs
