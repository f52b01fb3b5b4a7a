-- In a table's box the priority point of every server is its period: so a server job's priority is its deadline.
use mathlib.Core.Path.{◌≡◌, refl}
use mathlib.Core.List.{List, [], ◌∷◌, ◌++◌}
use Prim.Native.Nat.{ℕ, zero, suc, ◌+◌, ◌<◌}
use native.Mathlib.Nat.{not-suc-le-zero}
use native.Mathlib.Omega.{arith}
use lib.ListN.{length, get_or}
use Rattle.schedule.specs.Table.{Node, Graph, Table}
use Rattle.schedule.specs.Servers.{Server, no_server, of_nodes, of_graphs, box_of, srv}

abbrev Pointed : List Server → Type 0
Pointed l = (i : ℕ) → i < length l → (get_or l i no_server).point ≡ (get_or l i no_server).period

both_pointed : (a b : List Server) → Pointed a → Pointed b → Pointed (a ++ b)
both_pointed [] b p q i h = q i h
both_pointed (x ∷ a) b p q zero h = p 0 (omega arith)
both_pointed (x ∷ a) b p q (suc i) h = both_pointed a b (λ j g. p (suc j) (omega arith)) q i (omega arith)

nodes_pointed : (base g v : ℕ) (G : Graph) (xs : List Node) → Pointed (of_nodes base g v G xs)
unfolding of_nodes
nodes_pointed base g v G [] i h = absurd (not-suc-le-zero h)
nodes_pointed base g v G (x ∷ xs) zero h = refl
nodes_pointed base g v G (x ∷ xs) (suc i) h = nodes_pointed base g (suc v) G xs i (omega arith)

graphs_pointed : (base g : ℕ) (Gs : List Graph) → Pointed (of_graphs base g Gs)
unfolding of_graphs
graphs_pointed base g [] i h = absurd (not-suc-le-zero h)
graphs_pointed base g (G ∷ Gs) i h =
    both_pointed (of_nodes base g 1 G G.nodes) (of_graphs (base + length G.nodes) (suc g) Gs) (nodes_pointed base g 1 G G.nodes)
    (graphs_pointed (base + length G.nodes) (suc g) Gs) i h

pub table_pointed : (U : Table) (i : ℕ) → i < length (box_of U).servers → (srv (box_of U).servers i).point ≡ (srv (box_of U).servers i).period
table_pointed U i h = graphs_pointed 0 1 U.graphs i h
