-- The table that `default` makes is all zeros.
use Rattle.std.proofs.Common.{◌≡◌, ℕ, List, get_or, replicate, arith, refl, sym, ◌∙◌}
use Rattle.std.specs.Array.{AllOfLen}
use Rattle.std.proofs.lemmas.List.{ext_get_or, get_or-replicate, length-replicate}
use Rattle.schedule.specs.Limits as Limits
use Rattle.memory.specs.declared.plain.PhalandrixNode.{PhalandrixNode}
use Rattle.memory.specs.declared.plain.PhalandrixGraph.{PhalandrixGraph}
use Rattle.memory.specs.declared.plain.PhalandrixTable.{PhalandrixTable}
use Rattle.memory.specs.Plain.{no_node, no_graph, no_table}

alike : {A : Type 0} (P : A → Type 0) (d : A) → ((x : A) → P x → x ≡ d) → (xs : List A) (n : ℕ) → AllOfLen P xs n → xs ≡ replicate n d
alike P d is xs n all =
    ext_get_or d xs (replicate n d) (all.long ∙ sym (length-replicate n d)) (λ i h. is (get_or xs i d) (all.at i d (omega (arith, all.long))) ∙ sym (get_or-replicate n i d d (omega (arith, all.long))))

abbrev pub IsNoGraph : PhalandrixGraph → Type 0
IsNoGraph x = (x.period ≡ 0) × ((x.offset ≡ 0) × (x.nodes ≡ 0))

abbrev pub IsNoNode : PhalandrixNode → Type 0
IsNoNode x = (x.budget ≡ 0) × ((x.level ≡ 0) × (x.after ≡ 0))

no_graph_is : (x : PhalandrixGraph) → IsNoGraph x → x ≡ no_graph
no_graph_is x e =
    let made : ◌≡◌ {A = PhalandrixGraph} (record { period = x.period; offset = x.offset; nodes = x.nodes }) no_graph = rw (e.0, e.1.0, e.1.1) refl in
    made

no_node_is : (x : PhalandrixNode) → IsNoNode x → x ≡ no_node
no_node_is x e =
    let made : ◌≡◌ {A = PhalandrixNode} (record { budget = x.budget; level = x.level; after = x.after }) no_node = rw (e.0, e.1.0, e.1.1) refl in
    made

pub zeros : (t : PhalandrixTable)
    → (t.processors ≡ 0)
    × ((t.rounds ≡ 0) × ((t.graphs ≡ 0) × (AllOfLen IsNoGraph t.graph (Limits.graphs).to × AllOfLen IsNoNode t.node (Limits.all_nodes).to))) → t ≡ no_table
zeros t h =
    let graph = alike IsNoGraph no_graph no_graph_is t.graph (Limits.graphs).to h.1.1.1.0 in
    let node = alike IsNoNode no_node no_node_is t.node (Limits.all_nodes).to h.1.1.1.1 in
    let made : ◌≡◌ {A = PhalandrixTable} (record { processors = t.processors; rounds = t.rounds; graphs = t.graphs; graph = t.graph; node = t.node }) no_table = rw (h.0, h.1.0, h.1.1.0, graph, node) refl in
    made
