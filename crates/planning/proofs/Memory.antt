-- The table in memory by place: entry g is that of graph g, whose node 1 has the place `first_of`, and node q of it stands q places on.
use mathlib.Core.Path.{◌≡◌, ◌∙◌}
use mathlib.Core.List.{List, [], ◌∷◌, map}
use Prim.Native.Nat.{ℕ, zero, suc, ◌+◌, ◌≤◌, ◌<◌}
use native.Mathlib.Nat.{not-suc-le-zero}
use native.Mathlib.Omega.{arith}
use lib.ListN.{length, get_or, set, length-set, length-map}
use lib.Seq.{sets, length-sets, get_or-set_same}
use Rattle.schedule.specs.Limits as Limits
use Rattle.schedule.specs.Table as Rules
use Rattle.table.specs.declared.Table.{Table}
use Rattle.table.specs.declared.Graph.{Graph}
use Rattle.table.specs.Fresh as Fresh
use Rattle.schedule.proofs.Cells.{get_d_map}
use Rattle.reading.proofs.MemoryLaws.{sets_before, graphs_counted, graph_stays, node_stays}
use Rattle.reading.specs.Memory.{coded_node, with_graph, with_graphs, memory_of}
use Rattle.rules.proofs.ReadWellFormed.{nodes_in}
use Rattle.planning.proofs.Located.{no_node, graph_at, node_at, first_of}

module _ {A : Type 0} where
  sets_at : (vs l : List A) (i q : ℕ) (d : A) → q < length vs → i + length vs ≤ length l → get_or (sets l i vs) (i + q) d ≡ get_or vs q d
  sets_at [] l i q d h r = absurd (not-suc-le-zero h)
  sets_at (v ∷ vs) l i zero d h r =
      let e : i + 0 ≡ i = omega arith in rw e (sets_before vs (set l i v) (suc i) i d (omega arith) ∙ get_or-set_same l i v d (omega arith))
  sets_at (v ∷ vs) l i (suc q) d h r =
      let e : i + suc q ≡ suc i + q = omega arith in
      rw e (sets_at vs (set l i v) (suc i) q d (omega arith) (omega (arith, length-set l i v)))

-- a graph whose node 1 has the place `first`
abbrev pub coded_graph : ℕ → Rules.Graph → Graph
coded_graph first G = record { period = G.period; offset = G.offset; first = first; nodes = length G.nodes }

nodes_counted : (Gs : List Rules.Graph) (t : Table) → (with_graphs t Gs).nodes ≡ t.nodes + nodes_in Gs
unfolding with_graphs
nodes_counted [] t = omega arith
nodes_counted (G ∷ Gs) t = nodes_counted Gs (with_graph t G) ∙ omega arith

graph_put : (Gs : List Rules.Graph) (t : Table) (g : ℕ) → g < length Gs → t.graphs + length Gs ≤ length t.graph
    → get_or (with_graphs t Gs).graph (t.graphs + g) Fresh.no_graph ≡ coded_graph (t.nodes + first_of Gs g) (graph_at Gs g)
unfolding with_graphs first_of
graph_put [] t g h r = absurd (not-suc-le-zero h)
graph_put (G ∷ Gs) t zero h r =
    let e : t.graphs + 0 ≡ t.graphs = omega arith in
    let f : t.nodes + 0 ≡ t.nodes = omega arith in
    rw (e, f)
    (graph_stays Gs (with_graph t G) t.graphs (omega arith)
    ∙ get_or-set_same t.graph t.graphs (coded_graph t.nodes G) Fresh.no_graph (omega arith))
graph_put (G ∷ Gs) t (suc g) h r =
    let e : t.graphs + suc g ≡ t.graphs + 1 + g = omega arith in
    let f : t.nodes + (length G.nodes + first_of Gs g) ≡ t.nodes + length G.nodes + first_of Gs g = omega arith in
    rw (e, f)
    (graph_put Gs (with_graph t G) g (omega arith) (omega (arith, length-set t.graph t.graphs (coded_graph t.nodes G))))

node_put : (Gs : List Rules.Graph) (t : Table) (g q : ℕ) → g < length Gs → q < length (graph_at Gs g).nodes → t.nodes + nodes_in Gs ≤ length t.node
    → get_or (with_graphs t Gs).node (t.nodes + (first_of Gs g + q)) Fresh.no_node ≡ coded_node (node_at (graph_at Gs g) q)
unfolding with_graphs first_of
node_put [] t g q h l r = absurd (not-suc-le-zero h)
node_put (G ∷ Gs) t zero q h l r =
    let e : t.nodes + (0 + q) ≡ t.nodes + q = omega arith in
    let rows = map coded_node G.nodes in
    let n = length-map G.nodes coded_node in
    rw e
    (node_stays Gs (with_graph t G) (t.nodes + q) (omega arith)
    ∙ sets_at rows t.node t.nodes q Fresh.no_node (omega arith) (omega arith)
    ∙ get_d_map coded_node G.nodes q no_node Fresh.no_node l)
node_put (G ∷ Gs) t (suc g) q h l r =
    let e : t.nodes + (length G.nodes + first_of Gs g + q) ≡ t.nodes + length G.nodes + (first_of Gs g + q) = omega arith in
    rw e
    (node_put Gs (with_graph t G) g q (omega arith) l (omega (arith, length-sets t.node t.nodes (map coded_node G.nodes))))

-- a table in memory is that of these graphs
pub record LaidOut (t : Table) (Gs : List Rules.Graph) : Type 0 where
  pub graphs : t.graphs ≡ length Gs
  pub nodes : t.nodes ≡ nodes_in Gs
  pub graph : (g : ℕ) → g < length Gs → get_or t.graph g Fresh.no_graph ≡ coded_graph (first_of Gs g) (graph_at Gs g)
  pub node : (g q : ℕ) → g < length Gs → q < length (graph_at Gs g).nodes → get_or t.node (first_of Gs g + q) Fresh.no_node ≡ coded_node (node_at (graph_at Gs g) q)

pub laid_out : (X : Rules.Table) → length X.graphs ≤ (Limits.graphs).to → nodes_in X.graphs ≤ (Limits.all_nodes).to → LaidOut (memory_of X) X.graphs
laid_out X few small =
    let t = Fresh.empty_table X.processors X.rounds in
    let Gs = X.graphs in
    record {
      graphs = graphs_counted Gs t ∙ omega arith;
      nodes = nodes_counted Gs t ∙ omega arith;
      graph = λ g h.
          let e : 0 + g ≡ g = omega arith in
          let f : 0 + first_of Gs g ≡ first_of Gs g = omega arith in
          rw f at (rw e at (graph_put Gs t g h (omega arith)));
      node = λ g q h l. let e : 0 + (first_of Gs g + q) ≡ first_of Gs g + q = omega arith in rw e at (node_put Gs t g q h l (omega arith));
    }
