-- The box of a well-formed table is sound, and each graph's sink is a server with a budget.
use mathlib.Core.Path.{◌≡◌, refl, sym, ap, ◌∙◌}
use mathlib.Core.Bool.{Bool, ◌&&◌}
use mathlib.Core.List.Memᴰ
use mathlib.Core.List.{List, [], ◌∷◌, ◌++◌, map, append_assoc, Memᴰ}
use Prim.Native.Nat.{ℕ, zero, suc, ◌+◌, ◌-◌, ◌/◌, ◌≤◌, ◌<◌, ◌∣◌, zero-le}
use native.Mathlib.Nat.{not-suc-le-zero, div-mul_cancel, one-dvd}
use native.Mathlib.Omega.{arith}
use lib.Dec.{T, leb, ltb, eqb, leb→le, ltb→lt, lt→ltb, eqb→eq}
use lib.ListN.{length, get_or, length-append, get_or-append, get_or-eq_default}
use lib.Seq.{get_or-append-add}
use Rattle.schedule.specs.Lists.{all?}
use Rattle.schedule.specs.Table.{Node, Graph, Table, hyperperiod, largest_offset}
use Rattle.schedule.specs.Servers.{Server, no_server, of_nodes, of_graphs, sinks_of, box_of, srv}
use Rattle.schedule.specs.WellFormed.{nodes_formed, well_formed}
use Rattle.schedule.proofs.Tests.{and_l, and_r, and_i, by_lt, either_way, eq→eqb, all_under}
use Rattle.theorems.proofs.Hyperperiod.{hyperperiod_some, hyperperiod_least}
use Rattle.theorems.proofs.FormedGraphs.{below, nodes_formed_lem, GraphFormed, largest_at, formed}
use Rattle.theorems.proofs.Boundaries.{Sound}

-- the server at p is in the list S and has the period and offset of s
abbrev pub beside : List Server → Server → ℕ → Bool
beside S s p = ltb p (length S) && (eqb (srv S p).period s.period && eqb (srv S p).offset s.offset)

-- a server of the list S, for a hyperperiod H and boundaries from O on
pub record Fits (S : List Server) (H O : ℕ) (s : Server) : Type 0 where
  pub period_some : 0 < s.period
  pub divides : s.period ∣ H
  pub offset_le : s.offset ≤ O
  pub budget_some : 0 < s.budget
  pub level_some : 0 < s.level
  pub same_graph : T (all? (beside S s) s.predecessors)

pub get_or_mem : {A : Type 0} (l : List A) (i : ℕ) (d : A) → i < length l → Memᴰ (get_or l i d) l
get_or_mem [] i d h = absurd (not-suc-le-zero h)
get_or_mem (x ∷ xs) zero d h = Memᴰ.head refl
get_or_mem (x ∷ xs) (suc i) d h = Memᴰ.tail (get_or_mem xs i d (omega arith))

length_of_nodes : (base g v : ℕ) (G : Graph) (xs : List Node) → length (of_nodes base g v G xs) ≡ length xs
unfolding of_nodes
length_of_nodes base g v G [] = refl
length_of_nodes base g v G (x ∷ xs) = ap suc (length_of_nodes base g (suc v) G xs)

-- each node's server has its graph's period and offset
of_graph : (base g v : ℕ) (G : Graph) (xs : List Node) (q : ℕ) → q < length xs
    → ((srv (of_nodes base g v G xs) q).period ≡ G.period) × ((srv (of_nodes base g v G xs) q).offset ≡ G.offset)
unfolding of_nodes
of_graph base g v G [] q h = absurd (not-suc-le-zero h)
of_graph base g v G (x ∷ xs) zero h = (refl, refl)
of_graph base g v G (x ∷ xs) (suc q) h = of_graph base g (suc v) G xs q (omega arith)

module _ (S : List Server) (H O : ℕ) where
  -- the graph G, whose `total` nodes stand in S from `base` on
  module _ (base g total : ℕ) (G : Graph) (some : 0 < G.period) (divides : G.period ∣ H) (offset : G.offset ≤ O) (fit : base + total ≤ length S)
      (here : (q : ℕ) → q < total → ((srv S (base + q)).period ≡ G.period) × ((srv S (base + q)).offset ≡ G.offset)) where
    beside_G : ℕ → Bool
    beside_G p = ltb p (length S) && (eqb (srv S p).period G.period && eqb (srv S p).offset G.offset)

    predecessors_beside : (v : ℕ) → v ≤ total → (ps : List ℕ) → T (all? (below v) ps) → T (all? beside_G (map (λ (p : ℕ). base + (p - 1)) ps))
    unfolding beside_G
    predecessors_beside v l [] t = tt
    predecessors_beside v l (p ∷ ps) t =
        let q = base + (p - 1) in
        let b = and_l (below v p) (all? (below v) ps) t in
        let from = leb→le 1 p (and_l (leb 1 p) (ltb p v) b) in
        let to = ltb→lt p v (and_r (leb 1 p) (ltb p v) b) in
        let f = here (p - 1) (omega arith) in
        let A = eqb (srv S q).period G.period in
        let B = eqb (srv S q).offset G.offset in
        and_i (ltb q (length S) && (A && B)) (all? beside_G (map (λ (p : ℕ). base + (p - 1)) ps))
        (and_i (ltb q (length S)) (A && B) (lt→ltb q (length S) (omega arith))
        (and_i A B (eq→eqb (srv S q).period G.period f.0) (eq→eqb (srv S q).offset G.offset f.1)))
        (predecessors_beside v l ps (and_r (below v p) (all? (below v) ps) t))

    nodes_fit : (v : ℕ) (xs : List Node) → v + length xs ≤ suc total → T (nodes_formed v xs) → (s : Server) → Memᴰ s (of_nodes base g v G xs)
        → Fits S H O s
    unfolding of_nodes beside_G
    nodes_fit v [] l t s m = absurd (Memᴰ.not-nil m)
    nodes_fit v (x ∷ xs) l t s m =
        let n = nodes_formed_lem v x xs t in
        either_way (Memᴰ.cases_cons m)
        (λ e. rw e
        (record {
          period_some = some;
          divides = divides;
          offset_le = offset;
          budget_some = n.budget_some;
          level_some = n.level_some;
          same_graph = predecessors_beside v (omega arith) x.after n.after_below;
        }))
        (λ m. nodes_fit (suc v) xs (omega arith) n.rest s m)

  record GraphFits (G : Graph) : Type 0 where
    is_formed : GraphFormed G
    divides : G.period ∣ H
    offset_le : G.offset ≤ O

  -- the graphs Gs, whose servers stand in S after those of `pre`
  graphs_fit : (pre : List Server) (g : ℕ) (Gs : List Graph) → S ≡ pre ++ of_graphs (length pre) g Gs → ((G : Graph) → Memᴰ G Gs → GraphFits G)
      → (s : Server) → Memᴰ s (of_graphs (length pre) g Gs) → Fits S H O s
  unfolding of_graphs
  graphs_fit pre g [] e fits s m = absurd (Memᴰ.not-nil m)
  graphs_fit pre g (G ∷ Gs) e fits s m =
      let base = length pre in
      let on = of_nodes base g 1 G G.nodes in
      let rest = of_graphs (base + length G.nodes) (suc g) Gs in
      let f = fits G (Memᴰ.head refl) in
      let ln : length on ≡ length G.nodes = length_of_nodes base g 1 G G.nodes in
      let both : length (on ++ rest) ≡ length on + length rest = length-append on rest in
      let total : length S ≡ base + (length on + length rest) = ap length e ∙ length-append pre (on ++ rest) ∙ ap (λ (x : ℕ). base + x) both in
      let place : (q : ℕ) → q < length G.nodes → srv S (base + q) ≡ srv on q =
      λ q l.
      ap (λ (l : List Server). srv l (base + q)) e
      ∙ get_or-append-add pre (on ++ rest) q no_server
      ∙ get_or-append on rest no_server q (omega arith) in
      let len : length (pre ++ on) ≡ base + length G.nodes = length-append pre on ∙ ap (λ (x : ℕ). base + x) ln in
      let again : S ≡ (pre ++ on) ++ of_graphs (length (pre ++ on)) (suc g) Gs = rw len (e ∙ sym (append_assoc pre on rest)) in
      either_way (Memᴰ.append_cases on m)
      (λ m. nodes_fit base g (length G.nodes) G f.is_formed.period_some f.divides f.offset_le (omega arith)
      (λ q l.
      let r = of_graph base g 1 G G.nodes q l in
      (ap (λ (s : Server). s.period) (place q l) ∙ r.0, ap (λ (s : Server). s.offset) (place q l) ∙ r.1))
      1 G.nodes (omega arith) f.is_formed.nodes s m)
      (λ m. graphs_fit (pre ++ on) (suc g) Gs again (λ G m. fits G (Memᴰ.tail m)) s (rw len m))

pub length_sinks : (base : ℕ) (Gs : List Graph) → length (sinks_of base Gs) ≡ length Gs
unfolding sinks_of
length_sinks base [] = refl
length_sinks base (G ∷ Gs) = ap suc (length_sinks (base + length G.nodes) Gs)

sinks_in : (base g : ℕ) (Gs : List Graph) → ((G : Graph) → Memᴰ G Gs → 0 < length G.nodes) → (k : ℕ) → k < length Gs
    → get_or (sinks_of base Gs) k 0 < base + length (of_graphs base g Gs)
unfolding sinks_of of_graphs
sinks_in base g [] some k h = absurd (not-suc-le-zero h)
sinks_in base g (G ∷ Gs) some zero h =
    let on = of_nodes base g 1 G G.nodes in
    omega
    (arith, some G (Memᴰ.head refl), length-append on (of_graphs (base + length G.nodes) (suc g) Gs), length_of_nodes base g 1 G G.nodes)
sinks_in base g (G ∷ Gs) some (suc k) h =
    let on = of_nodes base g 1 G G.nodes in
    omega (
      arith,
      sinks_in (base + length G.nodes) (suc g) Gs (λ G m. some G (Memᴰ.tail m)) k (omega arith),
      length-append on (of_graphs (base + length G.nodes) (suc g) Gs),
      length_of_nodes base g 1 G G.nodes,
    )

module _ (X : Table) (ok : T (well_formed X)) where
  abbrev S : List Server
  S = (box_of X).servers

  each_graph : (G : Graph) → Memᴰ G X.graphs → GraphFits S (hyperperiod X) (largest_offset X) G
  unfolding largest_offset
  each_graph G m =
      record {
        is_formed = formed X ok G m;
        divides = (hyperperiod_least X).multiple G m;
        offset_le = largest_at (λ (G : Graph). G.offset) m;
      }

  pub server_fits : (i : ℕ) → i < length S → Fits S (hyperperiod X) (largest_offset X) (srv S i)
  server_fits i l = graphs_fit S (hyperperiod X) (largest_offset X) [] 1 X.graphs refl each_graph (srv S i) (get_or_mem S i no_server l)

  no_server_lem : (i : ℕ) → length S ≤ i → srv S i ≡ no_server
  no_server_lem i l = get_or-eq_default S no_server l

  -- periods of server i in the hyperperiod
  unfoldable pub periods_of : ℕ → ℕ
  periods_of i = hyperperiod X / (srv S i).period

  pub table_sound : Sound (box_of X) periods_of
  unfolding periods_of
  table_sound =
      record {
        periodic =
            record {
              periods = λ i.
                  by_lt i (length S) (λ l. div-mul_cancel (srv S i).period {m = hyperperiod X} (server_fits i l).divides)
                  (λ l. rw (no_server_lem i l) (div-mul_cancel 1 {m = hyperperiod X} (one-dvd (hyperperiod X))));
              period_some = λ i. by_lt i (length S) (λ l. (server_fits i l).period_some) (λ l. rw (no_server_lem i l) (omega arith));
              some = hyperperiod_some X (λ G m. (formed X ok G m).period_some);
              same_cap = λ t. refl;
            };
        graph = λ i l.
            let beside-i = (server_fits i l).same_graph in
            all_under (beside S (srv S i)) (beside S (srv S i)) (same i) (λ p b _. as_many i p b) (srv S i).predecessors beside-i beside-i;
        offsets = λ i. by_lt i (length S) (λ l. (server_fits i l).offset_le) (λ l. rw (no_server_lem i l) zero-le);
      }
    where
      many : ℕ → ℕ
      many i = hyperperiod X / (srv S i).period

      same : ℕ → ℕ → Bool
      same i p = ltb p (length S) && eqb (many p) (many i)

      as_many : (i p : ℕ) → T (beside S (srv S i) p) → T (same i p)
      as_many i p t =
          let A = ltb p (length S) in
          let B = eqb (srv S p).period (srv S i).period in
          let C = eqb (srv S p).offset (srv S i).offset in
          let e : (srv S p).period ≡ (srv S i).period = eqb→eq (srv S p).period (srv S i).period (and_l B C (and_r A (B && C) t)) in
          and_i A (eqb (many p) (many i)) (and_l A (B && C) t) (eq→eqb (many p) (many i) (ap (λ (x : ℕ). hyperperiod X / x) e))

  pub sink_is : (g : ℕ) → g < length X.graphs
      → (g < length (box_of X).sinks) × (get_or (box_of X).sinks g 0 < length S) × (0 < (srv S (get_or (box_of X).sinks g 0)).budget)
  sink_is g l =
      let inside : get_or (box_of X).sinks g 0 < length S =
      omega (arith, sinks_in 0 1 X.graphs (λ G m. (formed X ok G m).nodes_some) g l) in
      (omega (arith, length_sinks 0 X.graphs), inside, (server_fits (get_or (box_of X).sinks g 0) inside).budget_some)
