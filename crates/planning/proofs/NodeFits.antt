-- The plan of a well-formed table at the place of node q of graph g is as the rules' box has it: `node_planned`.
use mathlib.Core.Path.{◌≡◌, sym, ap, ◌∙◌}
use mathlib.Core.Bool.{Bool, true, ◌&&◌, cond}
use mathlib.Core.List.{List, map}
use mathlib.Core.Logic.{inl, inr}
use Prim.Native.Nat.{ℕ, suc, ◌+◌, ◌-◌, ◌^◌, ◌≤◌, ◌<◌, min}
use native.Mathlib.Omega.{arith}
use lib.Dec.{T, leb, ltb, eqb, ltb→lt}
use lib.ListN.{length}
use borrow.Author.Tests.{le-leb, eqb-false}
use Rattle.schedule.specs.Limits as Limits
use Rattle.schedule.specs.Lists.{any?}
use Rattle.schedule.specs.Table as Rules
use Rattle.schedule.specs.Servers.{Server, box_of, srv}
use Rattle.schedule.specs.WellFormed.{orderly, followed, all_followed, graph_formed, well_formed}
use Rattle.theorems.proofs.Formed.{within_limits, GraphFormed, graph_formed_lem, TableFormed, table_formed}
use Rattle.theorems.proofs.FormedGraphs.{below, orderly_below}
use Rattle.theorems.proofs.TableBox.{server_fits}
use Rattle.schedule.proofs.Tests.{and_r, T_true, true_T}
use Rattle.numbers.specs.Masks.{width, bit}
use Rattle.numbers.proofs.Cases.{by_test}
use Rattle.table.specs.declared.Table.{Table}
use Rattle.planning.specs.declared.plans.Entry.{Entry}
use Rattle.window.specs.Entries.{places}
use Rattle.window.proofs.Members.{each_member}
use Rattle.window.proofs.Relation.{Planned}
use Rattle.scanning.specs.Masks.{mask_of}
use Rattle.reading.specs.Memory.{memory_of}
use Rattle.scanning.proofs.MaskBits.{Fits, orderly_fits, mask_bit}
use Rattle.planning.specs.Narrowing.{most16}
use Rattle.planning.specs.Places.{at_places}
use Rattle.planning.specs.Plans.{plan_to, plan_of}
use Rattle.planning.proofs.PlaceLaws.{at_places_bit}
use Rattle.rules.proofs.ReadWellFormed.{nodes_in}
use Rattle.planning.proofs.Located.{no_node, no_graph, graph_at, node_at, first_of, first_within, all_at, all_numbers, some_at, NodeFormed, node_at_lem}
use Rattle.schedule.specs.Servers.{server_of}
use Rattle.planning.proofs.Servers.{servers_length, server_at_lem, sink_at, predecessor_at}
use Rattle.planning.proofs.Memory.{LaidOut, laid_out}
use Rattle.planning.proofs.Entries.{plan_entry, period_entry, graph_entry}

module _ (X : Rules.Table) (ok : T (well_formed X)) where
  abbrev Gs : List Rules.Graph
  Gs = X.graphs

  abbrev S : List Server
  S = (box_of X).servers

  abbrev M : Table
  M = memory_of X

  is_formed : TableFormed X
  is_formed = table_formed X (T_true ok)

  pub few : length Gs ≤ (Limits.graphs).to
  few = (within_limits Limits.graphs (length Gs) is_formed.few).1

  pub room : nodes_in Gs ≤ places
  room = (within_limits Limits.all_nodes (nodes_in Gs) is_formed.nodes).1

  pub laid : LaidOut M Gs
  laid = laid_out X few room

  pub graph_ok : (g : ℕ) → g < length Gs → GraphFormed (graph_at Gs g)
  graph_ok g h = graph_formed_lem (graph_at Gs g) (all_at graph_formed Gs g no_graph h is_formed.graphs)

  pub some : (g : ℕ) → g < length Gs → 0 < length (graph_at Gs g).nodes
  some g h = (within_limits Limits.nodes (length (graph_at Gs g).nodes) (graph_ok g h).few).0

  pub servers : length S ≡ nodes_in Gs
  servers = servers_length 0 1 Gs

  module _ (g q : ℕ) (h : g < length Gs) (l : q < length (graph_at Gs g).nodes) where
    abbrev G : Rules.Graph
    G = graph_at Gs g

    abbrev x : Rules.Node
    x = node_at G q

    abbrev first : ℕ
    first = first_of Gs g

    pub server : srv S (first + q) ≡ server_of first (1 + g) (1 + q) G x
    server = let e : 0 + first ≡ first = omega arith in rw e at (server_at_lem 0 1 Gs g q h l)

    node_ok : NodeFormed (1 + q) x
    node_ok = node_at_lem 1 G.nodes q l (graph_ok g h).nodes

    inside : first + q < length S
    inside = omega (arith, servers, first_within Gs g h)

    -- the node's number is within a mask's width
    own : 1 + q ≤ suc width
    own = omega (arith, (within_limits Limits.nodes (length G.nodes) (graph_ok g h).few).1)

    pub is_sink : any? (eqb (first + q)) (box_of X).sinks ≡ eqb (q + 1) (length G.nodes)
    is_sink = let e : 0 + (first + q) ≡ first + q = omega arith in rw e at (sink_at Gs 0 g q some h l)

    -- its predecessors, by number and by place
    after_fits : Fits x.after
    after_fits = orderly_fits (1 + q) x.after own node_ok.order

    predecessors : (p : ℕ) → p < places → bit (at_places (mask_of x.after) first) p ≡ any? (eqb p) (map (λ (v : ℕ). first + (v - 1)) x.after)
    predecessors p k =
        at_places_bit (mask_of x.after) first p k
        ∙ ap (λ (b : Bool). leb first p && b) (mask_bit x.after (p - first) after_fits)
        ∙ predecessor_at first p x.after after_fits

  -- a node that is not the last stands in the list of a later one
  module _ (g q : ℕ) (h : g < length Gs) (l : q + 1 < length (graph_at Gs g).nodes) where
    followed_by : (r : ℕ) × (r < length (graph_at Gs g).nodes) × (any? (eqb (suc q)) (node_at (graph_at Gs g) r).after ≡ true)
    unfolding all_followed followed
    followed_by =
        let xs = (graph_at Gs g).nodes in
        some_at (λ (y : Rules.Node). any? (eqb (suc q)) y.after) xs no_node
        (all_numbers (followed xs) 1 (length xs - 1) (suc q) (omega arith) (omega arith) (graph_ok g h).followed)

    leads_on : (n : ℕ) × (first_of Gs g + q < n) × (n < length S) × T (any? (eqb (first_of Gs g + q)) (srv S n).predecessors)
    leads_on =
        let (r, k, e) = followed_by in
        let f = first_of Gs g in
        let y = node_at (graph_at Gs g) r in
        let later = each_member (below (1 + r)) y.after (suc q) (true_T (any? (eqb (suc q)) y.after) e)
        (orderly_below (1 + r) y.after (true_T (orderly (1 + r) y.after) (node_ok g r h k).order)) in
        let m = ltb→lt (suc q) (1 + r) (and_r (leb 1 (suc q)) (ltb (suc q) (1 + r)) later) in
        let back : f + q - f ≡ q = omega arith in
        let there : any? (eqb (f + q)) (map (λ (v : ℕ). f + (v - 1)) y.after) ≡ true =
        sym (predecessor_at f (f + q) y.after (after_fits g r h k))
        ∙ rw (le-leb f (f + q) (omega arith), back) e in
        (f + r, omega arith, inside g r h k, rw (server g r h k) (true_T (any? (eqb (f + q)) (map (λ (v : ℕ). f + (v - 1)) y.after)) there))

  pub node_planned : (g q : ℕ) → g < length Gs → q < length (graph_at Gs g).nodes → Planned (box_of X) (plan_of M) (first_of Gs g + q)
  unfolding plan_to
  node_planned g q h l =
      let e = server g q h l in
      let entry = plan_entry M Gs laid few room some g q h l in
      let n = node_ok g q h l in
      let G = graph_at Gs g in
      let x = node_at G q in
      let f = first_of Gs g in
      let budget = within_limits Limits.budget x.budget n.budget in
      let level = within_limits Limits.level x.level n.level in
      let period = within_limits Limits.period G.period (graph_ok g h).period in
      let same : (srv S (f + q)).period ≡ G.period = ap (λ (s : Server). s.period) e in
      let point : (srv S (f + q)).point ≡ G.period = ap (λ (s : Server). s.point) e in
      let high : (srv S (f + q)).level ≡ x.level = ap (λ (s : Server). s.level) e in
      let long : (srv S (f + q)).budget ≡ x.budget = ap (λ (s : Server). s.budget) e in
      let narrow : min G.period most16 ≡ G.period = omega arith in
      record {
        budget = entry (λ (w : Entry). w.budget) ∙ omega arith;
        room = entry (λ (w : Entry). w.room) ∙ sym (ap (λ (b : Bool). cond b Limits.unfinished (2 ^ 8 - 1)) (is_sink g q h l));
        after = λ p k.
            ap (λ (m : ℕ). bit m p) (entry (λ (w : Entry). w.after)) ∙ predecessors g q h l p k
            ∙ sym (ap (λ (s : Server). any? (eqb p) s.predecessors) e);
        level = entry (λ (w : Entry). w.level) ∙ omega arith;
        period = period_entry M Gs laid few room some g q h l ∙ sym same;
        step = entry (λ (w : Entry). w.step) ∙ rw (narrow, same);
        lead = entry (λ (w : Entry). w.lead) ∙ rw (narrow, point);
        point_most = omega arith;
        budget_some = omega arith;
        level_some = omega arith;
        level_most = omega arith;
        period_some = omega arith;
        period_most = omega arith;
        same_graph = (server_fits X ok (f + q) (inside g q h l)).same_graph;
        leads =
            by_test (eqb (q + 1) (length G.nodes))
            (λ t. inl (true_T (any? (eqb (f + q)) (box_of X).sinks) (is_sink g q h l ∙ t)))
            (λ t. let ne = eqb-false (q + 1) (length G.nodes) t in inr (leads_on g q h (below_last ne l)));
        graph = graph_entry M Gs laid few room some g q h l ∙ sym (ap (λ (s : Server). s.graph) e ∙ omega arith);
        node = entry (λ (w : Entry). w.node) ∙ sym (ap (λ (s : Server). s.node) e ∙ omega arith);
      }
    where
      below_last : {q n : ℕ} → (q + 1 ≡ n → ⊥) → q < n → q + 1 < n
      below_last ne l = omega arith
