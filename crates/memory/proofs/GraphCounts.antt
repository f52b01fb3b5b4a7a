-- The graphs in memory are as many as their count says, and those past the count say nothing.
use Rattle.std.proofs.Common.{◌≡◌, ℕ, zero, suc, ◌+◌, ◌≤◌, List, ◌∷◌, length, get_or, take, refl, ap, arith, get_or-take}
use Rattle.schedule.specs.Table.{Graph}
use Rattle.memory.specs.declared.plain.PhalandrixNode.{PhalandrixNode}
use Rattle.memory.specs.declared.plain.PhalandrixGraph.{PhalandrixGraph}
use Rattle.memory.specs.Plain.{no_graph, graph_in, graphs_in}

pub graphs_counted : (graph : List PhalandrixGraph) (nodes : List PhalandrixNode) (g first n : ℕ) → length (graphs_in graph nodes g first n) ≡ n
unfolding graphs_in
graphs_counted graph nodes g first zero = refl
graphs_counted graph nodes g first (suc n) = ap suc (graphs_counted graph nodes (suc g) (first + (get_or graph g no_graph).nodes) n)

pub graphs_taken : (graph : List PhalandrixGraph) (nodes : List PhalandrixNode) (all g first n : ℕ) → g + n ≤ all → graphs_in (take all graph) nodes g first n ≡ graphs_in graph nodes g first n
unfolding graphs_in
graphs_taken graph nodes all g first zero h = refl
graphs_taken graph nodes all g first (suc n) h =
    let here : get_or (take all graph) g no_graph ≡ get_or graph g no_graph = get_or-take all graph g no_graph (omega arith) in
    rw here (ap (λ (Gs : List Graph). graph_in nodes first (get_or graph g no_graph) ∷ Gs) (graphs_taken graph nodes all (suc g) (first + (get_or graph g no_graph).nodes) n (omega arith)))
