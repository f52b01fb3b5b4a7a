-- One node or graph more of those that are left.
use mathlib.Core.Path.{◌≡◌, refl, ap, ◌∙◌}
use mathlib.Core.List.{List, [], ◌++◌}
use Prim.Native.Nat.{ℕ, zero, suc, ◌+◌, ◌-◌, ◌<◌, ◌≤◌}
use native.Mathlib.Numerals.{add-one}
use native.Mathlib.Omega.{arith}
use lib.ListN.{length, get_or, take, drop, length-drop}
use lib.Seq.{get_or-take, length-take-le}
use Rattle.std.proofs.lemmas.List.{get_or-drop}
use Rattle.writer.specs.Writing.{nodes_text, graphs_text}
use Rattle.memory.specs.declared.plain.PhalandrixNode.{PhalandrixNode}
use Rattle.memory.specs.declared.plain.PhalandrixGraph.{PhalandrixGraph}
use Rattle.memory.specs.Plain.{no_node, no_graph, node_in, nodes_in, graph_in, graphs_in}
use Rattle.memory.proofs.Named.{nodes_counted}
use Rattle.putting.specs.Texts.{node_lines, nodes_lines, graph_lines, all_nodes}
use Rattle.putting.proofs.TextLaws.{node_before, graph_before}

pub node_step : (nodes : List PhalandrixNode) (slot left : ℕ) → 0 < left
    → nodes_lines nodes slot left ≡ node_lines (get_or nodes slot no_node) ++ nodes_lines nodes (slot + 1) (left - 1)
node_step nodes slot zero h = absurd (omega arith)
node_step nodes slot (suc left) h =
    let e : suc left - 1 ≡ left = omega arith in
    rw (e, add-one slot) (node_before (node_in (get_or nodes slot no_node)) (nodes_in nodes (suc slot) left))

pub no_node_lem : (nodes : List PhalandrixNode) (slot : ℕ) → nodes_lines nodes slot 0 ≡ []
unfolding nodes_text
no_node_lem nodes slot = refl

module _ (graph : List PhalandrixGraph) (nodes : List PhalandrixNode) (g first : ℕ) where
  abbrev this : PhalandrixGraph
  this = get_or graph g no_graph

  pub graph_step : (left : ℕ) → 0 < left
      → graphs_text (graphs_in graph nodes g first left) [] ≡ graph_lines this nodes first ++ graphs_text (graphs_in graph nodes (g + 1) (first + this.nodes) (left - 1)) []
  unfolding graphs_in
  graph_step zero h = absurd (omega arith)
  graph_step (suc left) h =
      let e : suc left - 1 ≡ left = omega arith in
      rw (e, add-one g) (graph_before (graph_in nodes first this) (graphs_in graph nodes (suc g) (first + this.nodes) left))

  pub nodes_step : (left : ℕ) → 0 < left → all_nodes (graphs_in graph nodes g first left) ≡ this.nodes + all_nodes (graphs_in graph nodes (g + 1) (first + this.nodes) (left - 1))
  unfolding graphs_in
  nodes_step zero h = absurd (omega arith)
  nodes_step (suc left) h =
      let e : suc left - 1 ≡ left = omega arith in
      rw (e, add-one g) (ap (λ (k : ℕ). k + all_nodes (graphs_in graph nodes (suc g) (first + this.nodes) left)) (nodes_counted nodes first this.nodes))

  pub no_graph_lem : graphs_text (graphs_in graph nodes g first 0) [] ≡ []
  unfolding graphs_in graphs_text
  no_graph_lem = refl

-- a graph's own nodes, cut out of those of the table
nodes_cut_from : (nodes : List PhalandrixNode) (first k m j : ℕ) → j + m ≤ k → nodes_in (take k (drop first nodes)) j m ≡ nodes_in nodes (first + j) m
nodes_cut_from nodes first k zero j h = refl
nodes_cut_from nodes first k (suc m) j h =
    let here : get_or (take k (drop first nodes)) j no_node ≡ get_or nodes (first + j) no_node =
    get_or-take k (drop first nodes) j no_node (omega arith) ∙ get_or-drop first nodes j no_node in
    let next : first + suc j ≡ suc (first + j) = omega arith in
    rw (here, nodes_cut_from nodes first k m (suc j) (omega arith), next) refl

pub nodes_cut : (nodes : List PhalandrixNode) (first k : ℕ) → nodes_in (take k (drop first nodes)) 0 k ≡ nodes_in nodes first k
nodes_cut nodes first k =
    let same : first + 0 ≡ first = omega arith in
    nodes_cut_from nodes first k k 0 (omega arith) ∙ ap (λ (i : ℕ). nodes_in nodes i k) same

module _ (nodes : List PhalandrixNode) (first k : ℕ) where
  span : first + k - first ≡ k
  span = omega arith

  pub cut_size : first + k ≤ length nodes → length (take (first + k - first) (drop first nodes)) ≡ k
  cut_size h = rw span (length-take-le k (drop first nodes) (omega (arith, length-drop first nodes)))

pub graph_cut : (g : PhalandrixGraph) (nodes : List PhalandrixNode) (first : ℕ)
    → graph_lines g (take (first + g.nodes - first) (drop first nodes)) 0 ≡ graph_lines g nodes first
graph_cut g nodes first = rw (span nodes first g.nodes, nodes_cut nodes first g.nodes) refl

-- the graphs that a table counts, cut out of its array
graphs_cut_from : (graph : List PhalandrixGraph) (nodes : List PhalandrixNode) (n left g first : ℕ) → g + left ≤ n
    → graphs_in (take n graph) nodes g first left ≡ graphs_in graph nodes g first left
unfolding graphs_in
graphs_cut_from graph nodes n zero g first h = refl
graphs_cut_from graph nodes n (suc left) g first h =
    let here : get_or (take n graph) g no_graph ≡ get_or graph g no_graph = get_or-take n graph g no_graph (omega arith) in
    rw (here, graphs_cut_from graph nodes n left (suc g) (first + (get_or graph g no_graph).nodes) (omega arith)) refl

pub graphs_cut : (graph : List PhalandrixGraph) (nodes : List PhalandrixNode) (n : ℕ) → n ≤ length graph
    → graphs_in (take n graph) nodes 0 0 (length (take n graph)) ≡ graphs_in graph nodes 0 0 n
graphs_cut graph nodes n h = rw (length-take-le n graph h) (graphs_cut_from graph nodes n n 0 0 (omega arith))
