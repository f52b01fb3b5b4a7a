-- What a well-formed table has, as facts about its graphs, nodes and predecessors.
use mathlib.Core.Bool.{Bool, ◌&&◌}
use mathlib.Core.List.{List, [], ◌∷◌, Memᴰ}
use Prim.Native.Nat.{ℕ, suc, ◌≤◌, ◌<◌}
use native.Mathlib.Omega.{arith}
use lib.Dec.{T, leb, ltb, leb→le, le→leb, ltb→lt}
use lib.ListN.{length}
use Rattle.schedule.specs.Limits as Limits
use Rattle.schedule.specs.Lists.{all?, sum, largest}
use Rattle.schedule.specs.Table.{Node, Graph, Table}
use Rattle.schedule.specs.WellFormed.{within, rising, orderly, all_followed, nodes_formed, graph_formed, well_formed}
use Rattle.schedule.proofs.Tests.{and_l, and_r, and_i}

-- each predecessor is at least 1 and below the node's own number
abbrev pub below : ℕ → ℕ → Bool
below own p = leb 1 p && ltb p own

rising_below : (own last : ℕ) (ps : List ℕ) → T (rising own last ps) → T (all? (below own) ps)
unfolding rising
rising_below own last [] t = tt
rising_below own last (p ∷ ps) t =
    let A = ltb last p in
    let B = ltb p own in
    let q = and_l (A && B) (rising own p ps) t in
    and_i (below own p) (all? (below own) ps)
    (and_i (leb 1 p) B (le→leb 1 p (omega (arith, ltb→lt last p (and_l A B q)))) (and_r A B q))
    (rising_below own p ps (and_r (A && B) (rising own p ps) t))

pub orderly_below : (own : ℕ) (ps : List ℕ) → T (orderly own ps) → T (all? (below own) ps)
unfolding orderly
orderly_below own [] t = tt
orderly_below own (p ∷ ps) t = rising_below own 0 (p ∷ ps) t

-- the nodes from number v on, of which x is the first
pub record NodesFormed (v : ℕ) (x : Node) (xs : List Node) : Type 0 where
  pub budget_some : 0 < x.budget
  pub level_some : 0 < x.level
  pub after_below : T (all? (below v) x.after)
  pub rest : T (nodes_formed (suc v) xs)

pub nodes_formed_lem : (v : ℕ) (x : Node) (xs : List Node) → T (nodes_formed v (x ∷ xs)) → NodesFormed v x xs
unfolding nodes_formed
nodes_formed_lem v x xs t =
    let A = within Limits.budget x.budget in
    let B = within Limits.level x.level in
    let C = orderly v x.after in
    let N = nodes_formed (suc v) xs in
    let n = and_l (A && (B && C)) N t in
    record {
      budget_some = leb→le 1 x.budget (and_l (leb 1 x.budget) (leb x.budget (Limits.budget).to) (and_l A (B && C) n));
      level_some = leb→le 1 x.level (and_l (leb 1 x.level) (leb x.level (Limits.level).to) (and_l B C (and_r A (B && C) n)));
      after_below = orderly_below v x.after (and_r B C (and_r A (B && C) n));
      rest = and_r (A && (B && C)) N t;
    }

pub record GraphFormed (G : Graph) : Type 0 where
  pub period_some : 0 < G.period
  pub nodes_some : 0 < length G.nodes
  pub nodes : T (nodes_formed 1 G.nodes)

graph_formed_lem : (G : Graph) → T (graph_formed G) → GraphFormed G
unfolding graph_formed
graph_formed_lem G t =
    let A = within Limits.period G.period in
    let B = within Limits.offset G.offset in
    let C = within Limits.nodes (length G.nodes) in
    let D = nodes_formed 1 G.nodes in
    let E = all_followed G.nodes in
    let n = and_r B (C && (D && E)) (and_r A (B && (C && (D && E))) t) in
    record {
      period_some = leb→le 1 G.period (and_l (leb 1 G.period) (leb G.period (Limits.period).to) (and_l A (B && (C && (D && E))) t));
      nodes_some =
          leb→le 1 (length G.nodes)
          (and_l (leb 1 (length G.nodes)) (leb (length G.nodes) (Limits.nodes).to) (and_l C (D && E) n));
      nodes = and_l D E (and_r C (D && E) n);
    }

all_at : {A : Type 0} (p : A → Bool) {x : A} {l : List A} → Memᴰ x l → T (all? p l) → T (p x)
all_at p {x} (Memᴰ.head {x = y} {xs = ys} e) t = rw e (and_l (p y) (all? p ys) t)
all_at p {x} (Memᴰ.tail {x = y} {xs = ys} m) t = all_at p m (and_r (p y) (all? p ys) t)

pub largest_at : {A : Type 0} (f : A → ℕ) {x : A} {l : List A} → Memᴰ x l → f x ≤ largest f l
largest_at f {x} (Memᴰ.head {x = y} {xs = ys} e) = rw e (omega arith)
largest_at f {x} (Memᴰ.tail {x = y} {xs = ys} m) = omega (arith, largest_at f m)

pub formed : (X : Table) → T (well_formed X) → (G : Graph) → Memᴰ G X.graphs → GraphFormed G
unfolding well_formed
formed X t G m =
    let A = within Limits.processors X.processors in
    let B = within Limits.rounds X.rounds in
    let C = within Limits.graphs (length X.graphs) in
    let D = all? graph_formed X.graphs in
    let E = within Limits.all_nodes (sum (λ (G : Graph). length G.nodes) X.graphs) in
    graph_formed_lem G (all_at graph_formed m (and_l D E (and_r C (D && E) (and_r B (C && (D && E)) (and_r A (B && (C && (D && E))) t)))))
