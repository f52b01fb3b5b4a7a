-- What is read is well-formed. Shown at the end: `read_well_formed`, and `admitted_well_formed`, which adds that the hyperperiod is within
-- its limit.
use mathlib.Core.Path.{◌≡◌, refl, sym, ap, subst}
use mathlib.Core.Bool.{Bool, true, ◌&&◌}
use mathlib.Core.List.{List, [], ◌∷◌}
use Prim.Native.Nat.{ℕ, zero, suc, ◌+◌, ◌*◌, ◌-◌, ◌≤◌}
use native.Mathlib.Omega.{arith}
use lib.Dec.{T, leb}
use lib.ListN.{length}
use borrow.Author.Tests.{leb-true}
use Rattle.schedule.specs.Limits as Limits
use Rattle.schedule.specs.Lists.{all?, sum}
use Rattle.format.specs.Keys as Keys
use Rattle.format.specs.Keys.{keys}
use Rattle.schedule.specs.Table.{Graph, Table, hyperperiod, loadable, keeps_up}
use Rattle.schedule.specs.WellFormed.{within, orderly, all_followed, nodes_formed, graph_formed, well_formed}
use Rattle.format.specs.Reading.{Place, Outcome, done, number_line, after_line, node, nodes_from, graph_nodes, graph, graphs_from, ended, table, read_of, refused}
use Rattle.rules.specs.Admission.{Admission, admitted, admit, admit_read, admission_of}
use Rattle.theorems.proofs.Formed.{both, within_limits, limits_within, graph_formed_lem}
use Rattle.schedule.proofs.Tests.{by_test}
use Rattle.rules.proofs.Outcomes.{Holds, told, then_holds, number_line_holds, after_line_holds}

-- a node has three lines
pub node_holds : (own : ℕ) (p : Place)
    → Holds (λ x q. ((within Limits.budget x.budget && (within Limits.level x.level && orderly own x.after)) ≡ true) × (q.line ≡ p.line + 3)) (node own p)
unfolding node keys
node_holds own p =
    then_holds _ _ (number_line Keys.budget p) _ (number_line_holds Keys.budget p) (λ b q h.
    then_holds _ _ (number_line Keys.level q) _ (number_line_holds Keys.level q) (λ v r i.
    then_holds _ _ (after_line own r) _ (after_line_holds own r) (λ m t j.
    (both h.0 (both i.0 j.0), omega arith))))

pub nodes_holds : (own n : ℕ) (p : Place)
    → Holds (λ xs q. (nodes_formed own xs ≡ true) × (length xs ≡ n) × (q.line ≡ p.line + 3 * n)) (nodes_from own n p)
unfolding nodes_from nodes_formed
nodes_holds own zero p = (refl, refl, omega arith)
nodes_holds own (suc n) p =
    then_holds _ _ (node own p) _ (node_holds own p) (λ x q h.
    then_holds _ _ (nodes_from (suc own) n q) _ (nodes_holds (suc own) n q) (λ xs r i.
    (both h.0 i.0, ap suc i.1, omega arith)))

-- what holds of a graph G that ends at q, where it begins at line l after `total` nodes
abbrev pub Graphed : ℕ → ℕ → Graph → Place → Type 0
Graphed total l G q =
    (graph_formed G ≡ true) × (total + length G.nodes ≤ (Limits.all_nodes).to) × (q.line ≡ l + 3 + 3 * length G.nodes)

graph_nodes_holds : (total period offset n l : ℕ) (p : Place)
    → within Limits.period period ≡ true → within Limits.offset offset ≡ true → within Limits.nodes n ≡ true
    → Holds (λ G q. (graph_formed G ≡ true) × (total + length G.nodes ≤ (Limits.all_nodes).to) × (q.line ≡ p.line + 3 * length G.nodes)) (graph_nodes total period offset n l p)
unfolding graph_nodes graph_formed
graph_nodes_holds total period offset n l p a b e =
    by_test (leb (total + n) (Limits.all_nodes).to)
    (λ f. rw f (then_holds _ _ (nodes_from 1 n p) _ (nodes_holds 1 n p) (λ xs q h.
    let fits = leb-true (total + n) (Limits.all_nodes).to f in
    let few : within Limits.nodes (length xs) ≡ true = rw h.1 e in
    by_test (all_followed xs)
    (λ g. rw g (both a (both b (both few (both h.0 g))), omega (arith, h.1), omega (arith, h.1, h.2)))
    (λ g. rw g tt))))
    (λ f. rw f tt)

pub graph_holds : (total : ℕ) (p : Place) → Holds (Graphed total p.line) (graph total p)
unfolding graph keys
graph_holds total p =
    then_holds _ _ (number_line Keys.period p) _ (number_line_holds Keys.period p) (λ a q h.
    then_holds _ _ (number_line Keys.offset q) _ (number_line_holds Keys.offset q) (λ b r i.
    then_holds _ _ (number_line Keys.nodes r) _ (number_line_holds Keys.nodes r) (λ n t j.
    later t (graph_nodes total a b n r.line t) (omega arith) (graph_nodes_holds total a b n r.line t h.0 i.0 j.0))))
  where
    later : (t : Place) (x : Outcome Graph) → t.line ≡ p.line + 3
        → Holds (λ G q. (graph_formed G ≡ true) × (total + length G.nodes ≤ (Limits.all_nodes).to) × (q.line ≡ t.line + 3 * length G.nodes)) x
        → Holds (Graphed total p.line) x
    later t (refused r) f h = tt
    later t (done G q) f h = (h.0, h.1, omega (arith, h.2))

abbrev pub nodes_in : List Graph → ℕ
nodes_in Gs = sum (λ (G : Graph). length G.nodes) Gs

graphs_holds : (total n : ℕ) (p : Place) → total ≤ (Limits.all_nodes).to
    → Holds (λ Gs q. (all? graph_formed Gs ≡ true) × (length Gs ≡ n) × (total + nodes_in Gs ≤ (Limits.all_nodes).to) × (n ≤ nodes_in Gs)) (graphs_from total n p)
unfolding graphs_from
graphs_holds total zero p h = (refl, refl, omega arith, omega arith)
graphs_holds total (suc n) p h =
    then_holds _ _ (graph total p) _ (graph_holds total p) (λ G q i.
    then_holds _ _ (graphs_from (total + length G.nodes) n q) _ (graphs_holds (total + length G.nodes) n q i.1) (λ Gs r j.
    let k = (within_limits Limits.nodes (length G.nodes) (graph_formed_lem G i.0).few).0 in
    (both i.0 j.0, ap suc j.1, omega (arith, j.2), omega (arith, j.3))))

pub table_holds : (p : Place) → Holds (λ T q. well_formed T ≡ true) (table p)
unfolding table well_formed keys
table_holds p =
    then_holds _ _ (number_line Keys.processors p) _ (number_line_holds Keys.processors p) (λ a q h.
    then_holds _ _ (number_line Keys.rounds q) _ (number_line_holds Keys.rounds q) (λ b r i.
    then_holds _ _ (number_line Keys.graphs r) _ (number_line_holds Keys.graphs r) (λ n t j.
    then_holds _ _ (graphs_from 0 n t) _ (graphs_holds 0 n t (omega arith)) (λ Gs u k.
    end a b Gs u u.bytes
    (let l = within_limits Limits.graphs n j.0 in
    let few : within Limits.graphs (length Gs) ≡ true = rw k.1 j.0 in
    both h.0 (both i.0 (both few (both k.0 (limits_within Limits.all_nodes (nodes_in Gs) (omega (arith, l.0, k.3)) (omega (arith, k.2)))))))))))
  where
    end : (a b : ℕ) (Gs : List Graph) (u : Place) (rest : List ℕ)
        → well_formed (record { processors = a; rounds = b; graphs = Gs }) ≡ true
        → Holds (λ T q. well_formed T ≡ true) (ended (record { processors = a; rounds = b; graphs = Gs }) u rest)
    end a b Gs u [] e = e
    end a b Gs u (c ∷ rest) e = tt

passes : {b : Bool} → b ≡ true → T b
passes e = subst T (sym e) tt

pub read_formed : (s : List ℕ) (U : Table) (p : Place) → read_of s ≡ done U p → well_formed U ≡ true
unfolding read_of
read_formed s U p e =
    by_test (leb (length s) (Limits.table_bytes).to)
    (λ f. told (λ W q. well_formed W ≡ true) (rw f at e) (table_holds (record { line = 1; bytes = s })))
    (λ f. absurd (let g = rw f at e in let z : ◌≡◌ {A = ℕ} 0 1 = cc in omega arith))

pub read_well_formed : (s : List ℕ) (U : Table) (p : Place) → read_of s ≡ done U p → T (well_formed U)
read_well_formed s U p e = passes (read_formed s U p e)

-- an admission that is no refusal
admitted_holds : (P : Table → Type 0) (x : Outcome Table) (U : Table) → admit_read x ≡ admitted U
    → Holds (λ W q. P W) x → P U × (hyperperiod U ≤ (Limits.hyperperiod).to)
unfolding admit
admitted_holds P (refused r) U e h = absurd (let z : ◌≡◌ {A = ℕ} 0 1 = cc in omega arith)
admitted_holds P (done W q) U e h =
    by_test (leb (hyperperiod W) (Limits.hyperperiod).to)
    (λ f. by_test (loadable W)
    (λ g. by_test (keeps_up W)
    (λ k. let same : W ≡ U = inner (rw (f, g, k) at e) in (subst P same h, leb-true (hyperperiod U) (Limits.hyperperiod).to (rw same at f)))
    (λ k. absurd (no_refusal (rw (f, g, k) at e))))
    (λ g. absurd (no_refusal (rw (f, g) at e))))
    (λ f. absurd (no_refusal (rw f at e)))
  where
    inner : admitted W ≡ admitted U → W ≡ U
    inner g = cc

    no_refusal : {r : _} → Admission.refused r ≡ admitted U → ⊥
    no_refusal g = let z : ◌≡◌ {A = ℕ} 0 1 = cc in omega arith

pub admitted_well_formed : (s : List ℕ) (U : Table) → admission_of s ≡ admitted U → T (well_formed U) × (hyperperiod U ≤ (Limits.hyperperiod).to)
unfolding admission_of
admitted_well_formed s U e = admitted_holds (λ W. T (well_formed W)) (read_of s) U e (read_holds (read_of s) refl)
  where
    read_holds : (x : Outcome Table) → read_of s ≡ x → Holds (λ W q. T (well_formed W)) x
    read_holds (refused r) f = tt
    read_holds (done W q) f = read_well_formed s W q f
