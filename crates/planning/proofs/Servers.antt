-- The servers and the sinks of the rules' box by place: at the place of node q of graph g stands that node's server, and it is a sink exactly
-- where the node is its graph's last.
use mathlib.Core.Path.{◌≡◌, refl, sym, ap, ◌∙◌}
use mathlib.Core.Bool.{Bool, true, false, ◌&&◌, ◌||◌, or-false}
use mathlib.Core.List.{List, [], ◌∷◌, map}
use Prim.Native.Nat.{ℕ, zero, suc, ◌+◌, ◌-◌, ◌≤◌, ◌<◌}
use native.Mathlib.Nat.{not-suc-le-zero}
use native.Mathlib.Omega.{arith}
use lib.Dec.{leb, ltb, eqb}
use lib.ListN.{length, get_or, length-append, get_or-append}
use lib.Seq.{get_or-append-add}
use borrow.Author.Tests.{eq-eqb, ne_eqb, eqb-true, eqb-false, leb-true, leb-false, lt-ltb}
use Rattle.schedule.specs.Lists.{any?, all?}
use Rattle.schedule.specs.Table.{Node, Graph}
use Rattle.schedule.specs.Servers.{no_server, server_of, of_nodes, of_graphs, sinks_of, srv}
use Rattle.numbers.proofs.Cases.{by_test}
use Rattle.scanning.proofs.MaskBits.{Fits}
use Rattle.rules.proofs.ReadWellFormed.{nodes_in}
use Rattle.planning.proofs.Located.{no_node, graph_at, node_at, first_of}

of_node : (base g v : ℕ) (G : Graph) (xs : List Node) (q : ℕ) → q < length xs
    → srv (of_nodes base g v G xs) q ≡ server_of base g (v + q) G (get_or xs q no_node)
unfolding of_nodes
of_node base g v G [] q h = absurd (not-suc-le-zero h)
of_node base g v G (x ∷ xs) zero h = let e : v + 0 ≡ v = omega arith in rw e
of_node base g v G (x ∷ xs) (suc q) h = let e : v + suc q ≡ suc v + q = omega arith in rw e (of_node base g (suc v) G xs q (omega arith))

nodes_length : (base g v : ℕ) (G : Graph) (xs : List Node) → length (of_nodes base g v G xs) ≡ length xs
unfolding of_nodes
nodes_length base g v G [] = refl
nodes_length base g v G (x ∷ xs) = ap suc (nodes_length base g (suc v) G xs)

pub servers_length : (base number : ℕ) (Gs : List Graph) → length (of_graphs base number Gs) ≡ nodes_in Gs
unfolding of_graphs
servers_length base number [] = refl
servers_length base number (G ∷ Gs) =
    let on = of_nodes base number 1 G G.nodes in
    let rest = of_graphs (base + length G.nodes) (suc number) Gs in
    omega (
      arith,
      length-append on rest,
      nodes_length base number 1 G G.nodes,
      servers_length (base + length G.nodes) (suc number) Gs,
    )

pub server_at_lem : (base number : ℕ) (Gs : List Graph) (g q : ℕ) → g < length Gs → q < length (graph_at Gs g).nodes
    → srv (of_graphs base number Gs) (first_of Gs g + q) ≡ server_of (base + first_of Gs g) (number + g) (1 + q) (graph_at Gs g) (node_at (graph_at Gs g) q)
unfolding of_graphs first_of
server_at_lem base number [] g q h l = absurd (not-suc-le-zero h)
server_at_lem base number (G ∷ Gs) zero q h l =
    let on = of_nodes base number 1 G G.nodes in
    let rest = of_graphs (base + length G.nodes) (suc number) Gs in
    let z : 0 + q ≡ q = omega arith in
    let b : base + 0 ≡ base = omega arith in
    let n : number + 0 ≡ number = omega arith in
    rw (z, b, n)
    (get_or-append on rest no_server q (omega (arith, nodes_length base number 1 G G.nodes)) ∙ of_node base number 1 G G.nodes q l)
server_at_lem base number (G ∷ Gs) (suc g) q h l =
    let on = of_nodes base number 1 G G.nodes in
    let rest = of_graphs (base + length G.nodes) (suc number) Gs in
    let z : length G.nodes + first_of Gs g + q ≡ length on + (first_of Gs g + q) = omega (arith, nodes_length base number 1 G G.nodes) in
    let b : base + (length G.nodes + first_of Gs g) ≡ base + length G.nodes + first_of Gs g = omega arith in
    let n : number + suc g ≡ suc number + g = omega arith in
    rw (z, b, n)
    (get_or-append-add on rest (first_of Gs g + q) no_server
    ∙ server_at_lem (base + length G.nodes) (suc number) Gs g q (omega arith) l)

-- each graph has a node
abbrev pub Some : List Graph → Type 0
Some Gs = (g : ℕ) → g < length Gs → 0 < length (graph_at Gs g).nodes

-- no sink stands before the graphs that it is of
no_sink : (Gs : List Graph) (base i : ℕ) → Some Gs → i < base → any? (eqb i) (sinks_of base Gs) ≡ false
unfolding sinks_of
no_sink [] base i some h = refl
no_sink (G ∷ Gs) base i some h =
    let s = some 0 (omega arith) in
    rw (ne_eqb i (base + length G.nodes - 1) (λ (e : i ≡ base + length G.nodes - 1). omega arith))
    (no_sink Gs (base + length G.nodes) i (λ g l. some (suc g) (omega arith)) (omega arith))

pub sink_at : (Gs : List Graph) (base g q : ℕ) → Some Gs → g < length Gs → q < length (graph_at Gs g).nodes
    → any? (eqb (base + (first_of Gs g + q))) (sinks_of base Gs) ≡ eqb (q + 1) (length (graph_at Gs g).nodes)
unfolding sinks_of first_of
sink_at [] base g q some h l = absurd (not-suc-le-zero h)
sink_at (G ∷ Gs) base zero q some h l =
    let i = base + (0 + q) in
    let last = base + length G.nodes - 1 in
    rw (no_sink Gs (base + length G.nodes) i (λ g k. some (suc g) (omega arith)) (omega arith), or-false (eqb i last))
    (by_test (eqb i last)
    (λ t. let e = eqb-true i last t in t ∙ sym (eq-eqb (q + 1) (length G.nodes) (omega arith)))
    (λ t. let e = eqb-false i last t in t ∙ sym (ne_eqb (q + 1) (length G.nodes) (λ (f : q + 1 ≡ length G.nodes). e (omega arith)))))
sink_at (G ∷ Gs) base (suc g) q some h l =
    let i = base + (length G.nodes + first_of Gs g + q) in
    let s = some 0 (omega arith) in
    let z : i ≡ base + length G.nodes + (first_of Gs g + q) = omega arith in
    rw (ne_eqb i (base + length G.nodes - 1) (λ (e : i ≡ base + length G.nodes - 1). omega arith))
    (ap (λ (j : ℕ). any? (eqb j) (sinks_of (base + length G.nodes) Gs)) z
    ∙ sink_at Gs (base + length G.nodes) g q (λ g k. some (suc g) (omega arith)) (omega arith) l)

pub sinks_below : (Gs : List Graph) (base n : ℕ) → Some Gs → base + nodes_in Gs ≤ n → all? (λ (i : ℕ). ltb i n) (sinks_of base Gs) ≡ true
unfolding sinks_of
sinks_below [] base n some h = refl
sinks_below (G ∷ Gs) base n some h =
    let s = some 0 (omega arith) in
    rw (lt-ltb (base + length G.nodes - 1) n (omega arith))
    (sinks_below Gs (base + length G.nodes) n (λ g l. some (suc g) (omega arith)) (omega arith))

-- predecessors by their numbers, and by their places
pub predecessor_at : (first p : ℕ) (l : List ℕ) → Fits l
    → leb first p && any? (eqb (suc (p - first))) l ≡ any? (eqb p) (map (λ (x : ℕ). first + (x - 1)) l)
predecessor_at first p l f =
    by_test (leb first p)
    (λ t. rw t (behind (leb-true first p t) l f))
    (λ t. rw t (sym (before (leb-false first p t) l)))
  where
    behind : first ≤ p → (l : List ℕ) → Fits l → any? (eqb (suc (p - first))) l ≡ any? (eqb p) (map (λ (x : ℕ). first + (x - 1)) l)
    behind h [] f = refl
    behind h (x ∷ xs) f =
        rw (behind h xs f.2)
        (ap (λ (b : Bool). b || any? (eqb p) (map (λ (x : ℕ). first + (x - 1)) xs))
        (by_test (eqb (suc (p - first)) x)
        (λ t. let e = eqb-true (suc (p - first)) x t in t ∙ sym (eq-eqb p (first + (x - 1)) (omega arith)))
        (λ t. let e = eqb-false (suc (p - first)) x t in
        let some = f.0 in t ∙ sym (ne_eqb p (first + (x - 1)) (λ (k : p ≡ first + (x - 1)). e (omega arith))))))

    before : p < first → (l : List ℕ) → any? (eqb p) (map (λ (x : ℕ). first + (x - 1)) l) ≡ false
    before h [] = refl
    before h (x ∷ xs) = rw (ne_eqb p (first + (x - 1)) (λ (e : p ≡ first + (x - 1)). omega arith)) (before h xs)
