-- The entries that the code puts by place: the graph of a place is that of its node (`graph_is`), so each entry of the plan and of the offsets is
-- that of its node.
use mathlib.Core.Path.{◌≡◌, refl, ap, ◌∙◌}
use Prim.Native.Nat.{ℕ, zero, suc, ◌+◌, ◌*◌, ◌-◌, ◌≤◌, ◌<◌, min}
use mathlib.Core.Bool.{cond}
use mathlib.Core.List.{List}
use native.Mathlib.Omega.{arith}
use lib.Dec.{eqb}
use lib.ListN.{length, get_or, replicate, length-replicate}
use borrow.Author.Tests.{eq-eqb, ne_eqb, lt-ltb}
use Rattle.schedule.specs.Limits as Limits
use Rattle.schedule.specs.Table as Rules
use Rattle.rules.proofs.ReadWellFormed.{nodes_in}
use Rattle.table.specs.declared.Table.{Table}
use Rattle.table.specs.declared.Graph.{Graph}
use Rattle.window.specs.Entries.{places}
use Rattle.window.proofs.Loops.{replaced_length, replaced_in}
use Rattle.scanning.specs.Masks.{mask_of}
use Rattle.planning.specs.declared.plans.Entry.{Entry}
use Rattle.planning.specs.Narrowing.{most16, most8}
use Rattle.planning.specs.Places.{at_places}
use Rattle.planning.specs.Graphs as Mirror
use Rattle.planning.specs.Graphs.{first_for, number_in, next_graph, graph_to, places_of}
use Rattle.planning.specs.Plans.{entry_at, by_place}
use Rattle.planning.specs.Offsets.{graphs_of, offsets_of}
use Rattle.planning.proofs.Located.{graph_at, node_at, first_of, first_next, first_within, first_rises}
use Rattle.planning.proofs.Servers.{Some}
use Rattle.planning.proofs.Memory.{coded_graph, LaidOut}

-- the place of node q, from 0, of a graph
module _ (first q : ℕ) (G : Rules.Graph) where
  abbrev y : Graph
  y = coded_graph first G

  pub first_is : first_for y (first + q) ≡ first
  first_is = omega arith

  pub number_is : number_in y (first + q) ≡ q + 1
  number_is = omega arith

  stays : (g : ℕ) → q + 1 < length G.nodes → next_graph y (first + q) g ≡ g
  stays g l = rw (number_is, ne_eqb (q + 1) (length G.nodes) (λ (e : q + 1 ≡ length G.nodes). omega arith))

  goes_on : (g : ℕ) → q + 1 ≡ length G.nodes → g < (Limits.graphs).to - 1 → next_graph y (first + q) g ≡ suc g
  goes_on g e l = rw (number_is, eq-eqb (q + 1) (length G.nodes) e, lt-ltb g ((Limits.graphs).to - 1) l) (omega arith)

module _ (M : Table) (Gs : List Rules.Graph) (laid : LaidOut M Gs) (few : length Gs ≤ (Limits.graphs).to) (room : nodes_in Gs ≤ places) (some : Some Gs) where
  pub all_graphs : graphs_of M ≡ length Gs
  all_graphs = omega (arith, laid.graphs)

  pub all_places : places_of M ≡ nodes_in Gs
  all_places = omega (arith, laid.nodes)

  graph_is : (i g q : ℕ) → i ≡ first_of Gs g + q → g < length Gs → q < length (graph_at Gs g).nodes → graph_to M i ≡ g
  unfolding graph_to first_of
  graph_is zero zero q e h l = refl
  graph_is zero (suc g) q e h l = absurd (omega (arith, first_rises Gs 0 (suc g) (omega arith) (omega arith), some 0 (omega arith)))
  graph_is (suc i) g (suc q) e h l =
      let at : i ≡ first_of Gs g + q = omega arith in
      rw (graph_is i g q at h (omega arith), laid.graph g h, at) (stays (first_of Gs g) q (graph_at Gs g) g (omega arith))
  graph_is (suc i) zero zero e h l = absurd (omega arith)
  graph_is (suc i) (suc g) zero e h l =
      let G = graph_at Gs g in
      let q = length G.nodes - 1 in
      let s = some g (omega arith) in
      let at : i ≡ first_of Gs g + q = omega (arith, first_next Gs g (omega arith)) in
      rw (graph_is i g q at (omega arith) (omega arith), laid.graph g (omega arith), at) (goes_on (first_of Gs g) q G g (omega arith) (omega arith))

  by_place_at : (f : ℕ → ℕ) (i : ℕ) → i < nodes_in Gs → get_or (by_place M f (places_of M)) i 0 ≡ f i
  by_place_at f i h =
      rw all_places (replaced_in f (replicate places 0) (nodes_in Gs) i 0 h (omega (arith, length-replicate {A = ℕ} places 0)))

  pub offsets_length : length (offsets_of M) ≡ places
  offsets_length = replaced_length (λ (i : ℕ). (Mirror.graph_at M i).offset) (replicate places 0) (places_of M) ∙ length-replicate {A = ℕ} places 0

  module _ (g q : ℕ) (h : g < length Gs) (l : q < length (graph_at Gs g).nodes) where
    abbrev G : Rules.Graph
    G = graph_at Gs g

    abbrev x : Rules.Node
    x = node_at G q

    abbrev first : ℕ
    first = first_of Gs g

    inside : first + q < nodes_in Gs
    inside = omega (arith, first_within Gs g h)

    number_here : graph_to M (first + q) ≡ g
    number_here = graph_is (first + q) g q refl h l

    graph_here : Mirror.graph_at M (first + q) ≡ coded_graph first G
    graph_here = rw (number_here) (laid.graph g h)

    -- what the plan has there
    abbrev pub entry_here : Entry
    entry_here =
        record {
          budget = min x.budget most16;
          after = at_places (mask_of x.after) first;
          level = min x.level most8;
          step = min G.period most16 * places;
          lead = min G.period most16 * places + (first + q);
          room = cond (eqb (q + 1) (length G.nodes)) Limits.unfinished most8;
          node = q + 1;
        }

    entry_here_lem : entry_at M (first + q) ≡ entry_here
    entry_here_lem =
        let number : first + q + 1 - first ≡ q + 1 = omega arith in
        rw (graph_here, laid.node g q h l, first_is first q G, number)

    pub plan_entry : (f : Entry → ℕ) → get_or (by_place M (λ (i : ℕ). f (entry_at M i)) (places_of M)) (first + q) 0 ≡ f entry_here
    plan_entry f = by_place_at (λ (i : ℕ). f (entry_at M i)) (first + q) inside ∙ ap f entry_here_lem

    pub period_entry : get_or (by_place M (λ (i : ℕ). (Mirror.graph_at M i).period) (places_of M)) (first + q) 0 ≡ G.period
    period_entry = by_place_at (λ (i : ℕ). (Mirror.graph_at M i).period) (first + q) inside ∙ rw (graph_here)

    pub graph_entry : get_or (by_place M (λ (i : ℕ). graph_to M i + 1) (places_of M)) (first + q) 0 ≡ g + 1
    graph_entry = by_place_at (λ (i : ℕ). graph_to M i + 1) (first + q) inside ∙ rw (number_here)

    pub offset_entry : get_or (offsets_of M) (first + q) 0 ≡ G.offset
    offset_entry = by_place_at (λ (i : ℕ). (Mirror.graph_at M i).offset) (first + q) inside ∙ rw (graph_here)
