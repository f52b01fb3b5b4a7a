-- Judgements taken apart, line by line: what a passed one says, and one node or graph more.
use mathlib.Core.Path.{◌≡◌, refl, sym}
use mathlib.Core.Bool.{true}
use mathlib.Core.List.{List}
use Prim.Native.Nat.{ℕ, suc, ◌+◌, ◌-◌, ◌<◌, ◌≤◌}
use native.Mathlib.Numerals.{add-one}
use native.Mathlib.Omega.{arith}
use lib.Dec.{leb}
use Rattle.std.proofs.Common.{length, get_or, drop, map}
use Rattle.std.proofs.Math.ListN.{drop_of_length-le}
use Rattle.std.proofs.Math.Seq.{drop-cons}
use borrow.Author.Tests.{leb-true, le-leb, lt-leb}
use Rattle.schedule.specs.Limits as Limits
use Rattle.schedule.specs.WellFormed.{within}
use Rattle.schedule.proofs.Tests.{by_test}
use Rattle.theorems.proofs.Formed.{within_limits}
use Rattle.format.specs.declared.Refusal.{Refusal}
use Rattle.format.specs.declared.Refusal.TheVariants.{OutsideLimits}
use Rattle.format.specs.Keys as Keys
use Rattle.format.specs.Keys.{keys, key_at}
use Rattle.writer.specs.Judging.{Judgement, passes, fails, ◌then◌, no_column, number_at, node_at, nodes_at, successors_at, graph_nodes_at, graph_at, graphs_at}
use Rattle.memory.specs.declared.plain.PhalandrixNode.{PhalandrixNode}
use Rattle.memory.specs.declared.plain.PhalandrixGraph.{PhalandrixGraph}
use Rattle.memory.specs.Plain.{no_node, no_graph, node_in, nodes_in, graph_in, graphs_in}
use Rattle.memory.specs.Judged.{three_at}
use Rattle.memory.proofs.Named.{nodes_counted}

-- two that are not the same
pub fails_passes : {C : Type 0} {r : Refusal} {l : ℕ} → fails r ≡ passes l → C
fails_passes e = absurd (let z : ◌≡◌ {A = ℕ} 0 1 = cc in omega arith)

-- a judgement that passes, of a number and what comes behind it
pub then_passed : {A : Type 0} (j : Judgement) (f : ℕ → Judgement) (m : ℕ) → ((l : ℕ) → j ≡ passes l → f l ≡ passes m → A) → (j then f) ≡ passes m → A
then_passed (passes l) f m k e = k l refl e
then_passed (fails r) f m k e = fails_passes e

-- one that fails: so does what comes behind it; and another one, where what comes behind fails with it
pub stopped : (j : Judgement) (f : ℕ → Judgement) (r : Refusal) → j ≡ fails r → (j then f) ≡ fails r
stopped (passes l) f r e = fails_passes (sym e)
stopped (fails q) f r e = e

pub then_stopped : (j : Judgement) (f g : ℕ → Judgement) (r : Refusal) → ((l : ℕ) → f l ≡ fails r → g l ≡ fails r) → (j then f) ≡ fails r → (j then g) ≡ fails r
then_stopped (passes l) f g r h e = h l e
then_stopped (fails q) f g r h e = e

number_passed : (k v l m : ℕ) → number_at k v l ≡ passes m → within (key_at k).range v ≡ true
unfolding number_at
number_passed k v l m e = by_test (within (key_at k).range v) (λ t. t) (λ t. fails_passes (rw t at e))

-- each is within its limits where they pass
pub three_passed : (i a j b k c l m : ℕ) → three_at i a j b k c l ≡ passes m
    → (within (key_at i).range a ≡ true) × (within (key_at j).range b ≡ true) × (within (key_at k).range c ≡ true)
three_passed i a j b k c l m =
    then_passed (number_at i a l) _ m (λ l1 e1.
    then_passed (number_at j b l1) _ m (λ l2 e2 e3.
    (number_passed i a l l1 e1, number_passed j b l1 l2 e2, number_passed k c l2 m e3)))

-- the nodes from number i + 1 on
module _ (nodes : List PhalandrixNode) (i l : ℕ) (more : i < length nodes) where
  abbrev here : Judgement
  here = node_at (i + 1) (node_in (get_or nodes i no_node)) l

  pub nodes_one : (m : ℕ) → passes m ≡ here → nodes_at (i + 1) (map node_in (drop i nodes)) l ≡ nodes_at (i + 1 + 1) (map node_in (drop (i + 1) nodes)) m
  unfolding nodes_at
  nodes_one m e = rw (drop-cons nodes i no_node more, sym e, add-one i, add-one (suc i)) refl

  pub nodes_stop : (r : Refusal) → fails r ≡ here → nodes_at (i + 1) (map node_in (drop i nodes)) l ≡ fails r
  unfolding nodes_at
  nodes_stop r e = rw (drop-cons nodes i no_node more, sym e) refl

pub nodes_none : (nodes : List PhalandrixNode) (i l : ℕ) → length nodes ≤ i → nodes_at (i + 1) (map node_in (drop i nodes)) l ≡ passes l
unfolding nodes_at
nodes_none nodes i l h = rw (drop_of_length-le nodes h) refl

-- a graph's nodes
module _ (nodes : List PhalandrixNode) (total n l m : ℕ) where
  pub graph_nodes_over : (Limits.all_nodes).to < total + n → graph_nodes_at total (nodes_in nodes total n) l m ≡ fails (OutsideLimits l no_column)
  unfolding graph_nodes_at
  graph_nodes_over h = rw (nodes_counted nodes total n, lt-leb (total + n) (Limits.all_nodes).to h) refl

  pub graph_nodes_stop : total + n ≤ (Limits.all_nodes).to → (r : Refusal) → fails r ≡ nodes_at 1 (nodes_in nodes total n) m
      → graph_nodes_at total (nodes_in nodes total n) l m ≡ fails r
  unfolding graph_nodes_at
  graph_nodes_stop h r e = rw (nodes_counted nodes total n, le-leb (total + n) (Limits.all_nodes).to h, sym e) refl

  pub graph_nodes_pass : total + n ≤ (Limits.all_nodes).to → (e : ℕ) → passes e ≡ nodes_at 1 (nodes_in nodes total n) m
      → graph_nodes_at total (nodes_in nodes total n) l m ≡ successors_at (nodes_in nodes total n) e
  unfolding graph_nodes_at
  graph_nodes_pass h k e = rw (nodes_counted nodes total n, le-leb (total + n) (Limits.all_nodes).to h, sym e) refl

  graph_nodes_passed : (k : ℕ) → graph_nodes_at total (nodes_in nodes total n) l m ≡ passes k → total + n ≤ (Limits.all_nodes).to
  unfolding graph_nodes_at
  graph_nodes_passed k e =
      by_test (leb (total + n) (Limits.all_nodes).to)
      (λ t. leb-true (total + n) (Limits.all_nodes).to t)
      (λ t. fails_passes (rw (nodes_counted nodes total n, t) at e))

-- a graph
module _ (g : PhalandrixGraph) (nodes : List PhalandrixNode) (total l : ℕ) where
  abbrev head : Judgement
  head = three_at Keys.period g.period Keys.offset g.offset Keys.nodes g.nodes l

  pub graph_stop : (r : Refusal) → fails r ≡ head → fails r ≡ graph_at total (graph_in nodes total g) l
  unfolding graph_at
  graph_stop r e =
      sym (then_stopped (number_at Keys.period g.period l) _ _ r (λ l1.
      then_stopped (number_at Keys.offset g.offset l1) _ _ r (λ l2 f.
      rw (nodes_counted nodes total g.nodes) (stopped (number_at Keys.nodes g.nodes l2) _ r f))) (sym e))

  pub graph_pass : (m : ℕ) → passes m ≡ head → graph_nodes_at total (nodes_in nodes total g.nodes) (l + 2) (l + 2 + 1) ≡ graph_at total (graph_in nodes total g) l
  unfolding graph_at number_at
  graph_pass m e =
      let (a, b, c) = three_passed Keys.period g.period Keys.offset g.offset Keys.nodes g.nodes l m (sym e) in
      let x : l + 2 ≡ suc (suc l) = omega arith in
      let y : l + 2 + 1 ≡ suc (suc (suc l)) = omega arith in
      rw (nodes_counted nodes total g.nodes, a, b, c, y, x) refl

  pub head_few : (m : ℕ) → passes m ≡ head → (1 ≤ g.nodes) × (g.nodes ≤ (Limits.nodes).to)
  unfolding keys
  head_few m e = within_limits Limits.nodes g.nodes (three_passed Keys.period g.period Keys.offset g.offset Keys.nodes g.nodes l m (sym e)).2

  pub graph_passed : (m : ℕ) → passes m ≡ graph_at total (graph_in nodes total g) l → (g.nodes ≤ (Limits.nodes).to) × (total + g.nodes ≤ (Limits.all_nodes).to)
  unfolding graph_at keys
  graph_passed m e =
      then_passed (number_at Keys.period g.period l) _ m (λ l1 e1.
      then_passed (number_at Keys.offset g.offset l1) _ m (λ l2 e2.
      then_passed (number_at Keys.nodes (length (nodes_in nodes total g.nodes)) l2) _ m (λ l3 e3 e4.
      (few (number_passed Keys.nodes (length (nodes_in nodes total g.nodes)) l2 l3 e3), graph_nodes_passed nodes total g.nodes l2 l3 m e4)))) (sym e)
    where
      few : within (key_at Keys.nodes).range (length (nodes_in nodes total g.nodes)) ≡ true → g.nodes ≤ (Limits.nodes).to
      few t = omega (arith, (within_limits Limits.nodes (length (nodes_in nodes total g.nodes)) t).1, nodes_counted nodes total g.nodes)

-- the graphs from entry g on
module _ (graph : List PhalandrixGraph) (nodes : List PhalandrixNode) (g n total l : ℕ) (more : g < n) where
  abbrev this : PhalandrixGraph
  this = get_or graph g no_graph

  left_over : n - g ≡ suc (n - (g + 1))
  left_over = omega arith

  pub graphs_one : (m : ℕ) → passes m ≡ graph_at total (graph_in nodes total this) l
      → graphs_at total (graphs_in graph nodes g total (n - g)) l ≡ graphs_at (total + this.nodes) (graphs_in graph nodes (g + 1) (total + this.nodes) (n - (g + 1))) m
  unfolding graphs_at graphs_in
  graphs_one m e = rw (left_over, sym e, nodes_counted nodes total this.nodes, add-one g) refl

  pub graphs_stop : (r : Refusal) → fails r ≡ graph_at total (graph_in nodes total this) l → graphs_at total (graphs_in graph nodes g total (n - g)) l ≡ fails r
  unfolding graphs_at graphs_in
  graphs_stop r e = rw (left_over, sym e) refl

pub graphs_none : (graph : List PhalandrixGraph) (nodes : List PhalandrixNode) (g n total l : ℕ) → n ≤ g → graphs_at total (graphs_in graph nodes g total (n - g)) l ≡ passes l
unfolding graphs_at graphs_in
graphs_none graph nodes g n total l h = let e : n - g ≡ 0 = omega arith in rw e refl
