-- `graph_keeps_up` meets its contract: node k is the entry k behind the graph's first.
use Rattle.std.proofs.Common.{ℕ, ◌+◌, ◌∙◌, get_or, arith, refl, rules, tests}
use Rattle.std.proofs.lemmas.Iterator.{YieldsList-from_range}
use Rattle.std.proofs.lemmas.Iterator.Search.{all_from_yields_List}
use Rattle.schedule.specs.Table as Rules
use Rattle.table.specs.Fresh.{no_node}
use Rattle.reading.specs.Memory.{node_of}
use Rattle.admission.proofs.PaceLaws.{all_tab}
use Rattle.admission.proofs.paces.graph_keeps_up.Goals as goal

pub returns : goal.returns
returns c =
    let x = c.args.x in
    let keeps = Rules.node_keeps_up x.period in
    let at : ℕ → Rules.Node = λ (i : ℕ). node_of (get_or c.args.t.now.node i no_node) in
    all_from_yields_List (λ k. keeps (at (x.first + k))) _ _ c.all.result c.all.ensures.ran (YieldsList-from_range 0 x.nodes x.nodes refl (omega arith)) (λ y b q k. search (rules, tests))
    ∙ all_tab keeps at x.first x.nodes
