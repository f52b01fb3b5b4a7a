-- What the struct says of a well-formed table is the table. Shown at the end: `table_of_memory`.
use mathlib.Core.Path.{◌≡◌, refl, sym, ◌∙◌, ap}
use mathlib.Core.Bool.{true}
use mathlib.Core.List.{List, [], ◌∷◌, map}
use Prim.Native.Nat.{ℕ, zero, suc, ◌+◌, ◌<◌, ◌≤◌}
use native.Mathlib.Numerals.{add-one}
use native.Mathlib.Omega.{arith}
use lib.ListN.{length, get_or, set, length-set}
use lib.Seq.{sets, length-sets, get_or-set_same, get_or-set_other}
use Rattle.schedule.specs.Limits as Limits
use Rattle.schedule.specs.Lists.{all?, tab}
use Rattle.schedule.specs.Table as Rules
use Rattle.schedule.specs.WellFormed.{nodes_formed, graph_formed, well_formed}
use Rattle.rules.proofs.ReadWellFormed.{nodes_in}
use Rattle.theorems.proofs.Formed.{first_of_lem, second_of, within_limits, node_formed, graph_formed_lem, table_formed}
use Rattle.table.specs.declared.Table.{Table}
use Rattle.table.specs.declared.Graph.{Graph}
use Rattle.table.specs.declared.Node.{Node}
use Rattle.table.specs.Fresh.{no_graph, no_node, empty_table}
use Rattle.reading.specs.Memory.{coded_node, filled, with_graph, with_graphs, memory_of, node_of, graph_of, table_of}
use Rattle.scanning.proofs.Members.{list_of_mask}

tab_alike : {B : Type 0} (f g : ℕ → B) (a n : ℕ) → ((i : ℕ) → i < a + n → f i ≡ g i) → tab f a n ≡ tab g a n
tab_alike f g a zero h = refl
tab_alike {B} f g a (suc n) h =
    ap (λ (x : B). x ∷ tab f (suc a) n) (h a (omega arith)) ∙ ap (λ (l : List B). g a ∷ l) (tab_alike f g (suc a) n (λ i l. h i (omega arith)))

-- entries before those that are filled stay
pub sets_before : {A : Type 0} (vs l : List A) (i k : ℕ) (d : A) → k < i → get_or (sets l i vs) k d ≡ get_or l k d
sets_before [] l i k d h = refl
sets_before (v ∷ vs) l i k d h = sets_before vs (set l i v) (suc i) k d (omega arith) ∙ get_or-set_other l i k v d (λ e. omega arith)

-- a node, and the nodes of a graph
node_back : (v : ℕ) (x : Rules.Node) (xs : List Rules.Node) → v ≤ (Limits.nodes).to → nodes_formed v (x ∷ xs) ≡ true → node_of (coded_node x) ≡ x
node_back v x xs h e =
    ap (λ (l : List ℕ). record { budget = x.budget; level = x.level; after = l }) (list_of_mask v x.after h (node_formed v x xs e).order)

nodes_back : (v : ℕ) (xs : List Rules.Node) (rows : List Node) (f : ℕ) → v + length xs ≤ suc (Limits.nodes).to → f + length xs ≤ length rows → nodes_formed v xs ≡ true
    → tab (λ (i : ℕ). node_of (get_or (filled rows f xs) i no_node)) f (length xs) ≡ xs
nodes_back v [] rows f h l e = refl
nodes_back v (x ∷ xs) rows f h l e =
    let next = set rows f (coded_node x) in
    let same : length next ≡ length rows = length-set rows f (coded_node x) in
    let here : get_or (filled rows f (x ∷ xs)) f no_node ≡ coded_node x = sets_before (map coded_node xs) next (suc f) f no_node (omega arith)
    ∙ get_or-set_same rows f (coded_node x) no_node (omega arith) in
    ap (λ (y : Rules.Node). y ∷ tab (λ (i : ℕ). node_of (get_or (filled rows f (x ∷ xs)) i no_node)) (suc f) (length xs)) (ap node_of here ∙ node_back v x xs (omega arith) e)
    ∙ ap (λ (ys : List Rules.Node). x ∷ ys) (nodes_back (suc v) xs next (suc f) (omega arith) (omega arith) (node_formed v x xs e).others)

-- graphs and nodes in memory stay as more graphs are added
pub graph_stays : (Gs : List Rules.Graph) (t : Table) (g : ℕ) → g < t.graphs → get_or (with_graphs t Gs).graph g no_graph ≡ get_or t.graph g no_graph
unfolding with_graphs
graph_stays [] t g h = refl
graph_stays (G ∷ Gs) t g h = graph_stays Gs (with_graph t G) g (omega arith) ∙ get_or-set_other t.graph t.graphs g _ no_graph (λ e. omega arith)

pub node_stays : (Gs : List Rules.Graph) (t : Table) (i : ℕ) → i < t.nodes → get_or (with_graphs t Gs).node i no_node ≡ get_or t.node i no_node
unfolding with_graphs
node_stays [] t i h = refl
node_stays (G ∷ Gs) t i h = node_stays Gs (with_graph t G) i (omega arith) ∙ sets_before (map coded_node G.nodes) t.node t.nodes i no_node h

-- the entry of a graph that is added first, and its nodes
graph_back : (G : Rules.Graph) (Gs : List Rules.Graph) (t : Table) → t.graphs < length t.graph → t.nodes + length G.nodes ≤ length t.node → graph_formed G ≡ true
    → graph_of (with_graphs (with_graph t G) Gs).node (get_or (with_graphs (with_graph t G) Gs).graph t.graphs no_graph) ≡ G
graph_back G Gs t h l e =
    let u = with_graphs (with_graph t G) Gs in
    let row : Graph = record { period = G.period; offset = G.offset; first = t.nodes; nodes = length G.nodes } in
    let f = graph_formed_lem G e in
    let few = within_limits Limits.nodes (length G.nodes) f.few in
    ap (graph_of u.node) (graph_stays Gs (with_graph t G) t.graphs (omega arith) ∙ get_or-set_same t.graph t.graphs row no_graph h)
    ∙ ap (λ (xs : List Rules.Node). record { period = G.period; offset = G.offset; nodes = xs })
    (tab_alike (λ (i : ℕ). node_of (get_or u.node i no_node)) (λ (i : ℕ). node_of (get_or (with_graph t G).node i no_node)) t.nodes (length G.nodes)
    (λ i k. ap node_of (node_stays Gs (with_graph t G) i k))
    ∙ nodes_back 1 G.nodes t.node t.nodes (omega (arith, few.1)) l f.nodes)

graphs_back : (Gs : List Rules.Graph) (t : Table) → t.graphs + length Gs ≤ length t.graph → t.nodes + nodes_in Gs ≤ length t.node → all? graph_formed Gs ≡ true
    → tab (λ (g : ℕ). graph_of (with_graphs t Gs).node (get_or (with_graphs t Gs).graph g no_graph)) t.graphs (length Gs) ≡ Gs
unfolding with_graphs
graphs_back [] t h l e = refl
graphs_back (G ∷ Gs) t h l e =
    let u = with_graphs (with_graph t G) Gs in
    let at : ℕ → Rules.Graph = λ (g : ℕ). graph_of u.node (get_or u.graph g no_graph) in
    let more = length-set t.graph t.graphs (record { period = G.period; offset = G.offset; first = t.nodes; nodes = length G.nodes }) in
    let kept = length-sets t.node t.nodes (map coded_node G.nodes) in
    ap (λ (H : Rules.Graph). H ∷ tab at (suc t.graphs) (length Gs)) (graph_back G Gs t (omega arith) (omega arith) (first_of_lem (graph_formed G) (all? graph_formed Gs) e))
    ∙ ap (λ (i : ℕ). G ∷ tab at i (length Gs)) (sym (add-one t.graphs))
    ∙ ap (λ (Hs : List Rules.Graph). G ∷ Hs) (graphs_back Gs (with_graph t G) (omega arith) (omega arith) (second_of (graph_formed G) (all? graph_formed Gs) e))

pub graphs_counted : (Gs : List Rules.Graph) (t : Table) → (with_graphs t Gs).graphs ≡ t.graphs + length Gs
unfolding with_graphs
graphs_counted [] t = omega arith
graphs_counted (G ∷ Gs) t = graphs_counted Gs (with_graph t G) ∙ omega arith

pub processors_stay : (Gs : List Rules.Graph) (t : Table) → (with_graphs t Gs).processors ≡ t.processors
unfolding with_graphs
processors_stay [] t = refl
processors_stay (G ∷ Gs) t = processors_stay Gs (with_graph t G)

pub rounds_stay : (Gs : List Rules.Graph) (t : Table) → (with_graphs t Gs).rounds ≡ t.rounds
unfolding with_graphs
rounds_stay [] t = refl
rounds_stay (G ∷ Gs) t = rounds_stay Gs (with_graph t G)

pub table_of_memory : (T : Rules.Table) → well_formed T ≡ true → table_of (memory_of T) ≡ T
table_of_memory T e =
    let f = table_formed T e in
    let few = within_limits Limits.graphs (length T.graphs) f.few in
    let all = within_limits Limits.all_nodes (nodes_in T.graphs) f.nodes in
    let t = empty_table T.processors T.rounds in
    let u = with_graphs t T.graphs in
    let at : ℕ → Rules.Graph = λ (g : ℕ). graph_of u.node (get_or u.graph g no_graph) in
    let counted : u.graphs ≡ length T.graphs = graphs_counted T.graphs t ∙ omega arith in
    rw (processors_stay T.graphs t, rounds_stay T.graphs t)
    (ap (λ (Gs : List Rules.Graph). record { processors = T.processors; rounds = T.rounds; graphs = Gs })
    (ap (tab at 0) counted ∙ graphs_back T.graphs t (omega (arith, few.1)) (omega (arith, all.1)) f.graphs))
