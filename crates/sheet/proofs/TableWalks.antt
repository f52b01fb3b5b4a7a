-- The walk of an admitted table in memory is the rules' walk of the table: to its stop, or to an instant asked before it; and the figures that
-- it has kept are the rules' figures.
use mathlib.Core.Path.{◌≡◌, sym, ap, subst, ◌∙◌}
use mathlib.Core.List.{List, [], ◌∷◌, map}
use mathlib.Core.Logic.{◌⊎◌}
use Prim.Native.Nat.{ℕ, zero, suc, ◌+◌, ◌-◌, ◌≤◌, ◌<◌}
use native.Mathlib.Nat.{not-suc-le-zero}
use native.Mathlib.Omega.{arith}
use lib.Dec.{T}
use lib.ListN.{length, get_or, take, replicate, length-map}
use lib.Seq.{ext_get_or, get_or-take, length-take-le}
use borrow.Author.Tests.{lt-ltb, le-ltb}
use Rattle.schedule.specs.Limits as Limits
use Rattle.schedule.specs.Table.{Table, Graph, hyperperiod}
use Rattle.schedule.specs.Servers.{Box, sinks_of, box_of, whole}
use Rattle.schedule.specs.Walk.{figure, figures}
use Rattle.schedule.specs.WellFormed.{well_formed}
use Rattle.theorems.proofs.TableBox.{length_sinks, server_fits, sink_is}
use Rattle.table.specs.Fresh as Fresh
use Rattle.table.specs.declared.Table.{Table as Memory}
use Rattle.window.specs.Entries.{places}
use Rattle.window.proofs.Loops.{replaced_length, replaced_in}
use Rattle.reading.specs.Memory.{memory_of}
use Rattle.sheet.specs.Walks.{admitted_of}
use Rattle.admission.specs.declared.admitting.Admitted.{Admitted}
use Rattle.planning.specs.Plans.{plan_of}
use Rattle.planning.specs.Offsets.{offsets_of}
use Rattle.planning.proofs.Located.{graph_at, first_of, first_within}
use Rattle.schedule.proofs.Cells.{get_d_map}
use Rattle.reading.proofs.MemoryLaws.{rounds_stay}
use Rattle.planning.proofs.Memory.{coded_graph}
use Rattle.planning.proofs.NodeFits.{few, room, laid}
use Rattle.planning.proofs.Fits.{plan_fits, offsets_sized, offsets_fit, largest_fits}
use Rattle.planning.proofs.Boundaries.{hyper_some, last_boundary}
use Rattle.table.specs.declared.Seen.{Seen}
use Rattle.window.specs.declared.Walk.{Walk}
use Rattle.window.specs.Walking.{walk_of}
use Rattle.window.proofs.Walked.{stop, AtStop, BeforeStop, walked_is}
use Rattle.sheet.specs.Figures.{sink_of, figure_of, figures_of}
use Rattle.sheet.specs.Walks.{Walkable, walk_of_table}

-- the sink of graph g is its last node
sink_place : (base : ℕ) (Gs : List Graph) (g : ℕ) → g < length Gs → get_or (sinks_of base Gs) g 0 ≡ base + first_of Gs g + length (graph_at Gs g).nodes - 1
unfolding sinks_of first_of
sink_place base [] g h = absurd (not-suc-le-zero h)
sink_place base (G ∷ Gs) zero h = omega arith
sink_place base (G ∷ Gs) (suc g) h = sink_place (base + length G.nodes) Gs g (omega arith) ∙ omega arith

module _ (U : Table) (ok : T (well_formed U)) (short : hyperperiod U ≤ (Limits.hyperperiod).to) where
  abbrev pub X : Box
  X = box_of U

  abbrev pub M : Memory
  M = memory_of U

  abbrev pub a : Admitted
  a = admitted_of U

  rounds_are : M.rounds ≡ X.rounds
  rounds_are = rounds_stay U.graphs (Fresh.empty_table U.processors U.rounds)

  pub walkable : Walkable a
  walkable =
      let f = plan_fits U ok in
      record {
        processors_most = f.processors_most;
        in_time = rw (largest_fits U ok, rounds_are) (last_boundary U ok short);
        hyper_some = hyper_some U ok;
      }

  pub graphs_are : M.graphs ≡ length U.graphs
  graphs_are = (laid U ok).graphs

  pub few_graphs : M.graphs ≤ (Limits.graphs).to
  few_graphs = omega (arith, graphs_are, few U ok)

  abbrev Came : ℕ → Walk Seen → Type 0
  Came asked w = (((stop X).ticks ≤ asked) × AtStop X w) ⊎ ((asked < (stop X).ticks) × BeforeStop X asked w)

  pub table_walked : (asked : ℕ)
      → (((stop X).ticks ≤ asked) × AtStop X (walk_of_table a asked)) ⊎ ((asked < (stop X).ticks) × BeforeStop X asked (walk_of_table a asked))
  unfolding walk_of_table
  table_walked asked =
      let same : walk_of_table a asked ≡ walk_of (plan_of M) (offsets_of M) X.origin X.hyper X.rounds asked =
      ap (λ (o : ℕ). walk_of (plan_of M) (offsets_of M) o X.hyper M.rounds asked) (largest_fits U ok)
      ∙ ap (λ (r : ℕ). walk_of (plan_of M) (offsets_of M) X.origin X.hyper r asked) rounds_are in
      subst (Came asked) (sym same)
      (walked_is X (plan_of M) (plan_fits U ok) (hyper_some U ok) (last_boundary U ok short) (λ i h. (server_fits U ok i h).offset_le) (offsets_of M)
      (offsets_sized U ok) (offsets_fit U ok) asked)

  -- the figures
  module _ (t : ℕ) (worst : List ℕ) (each : (i : ℕ) → i < length X.servers → get_or worst i 0 ≡ figure X (whole X.servers) i t) where
    sink_of_lem : (g : ℕ) → g < length U.graphs → sink_of (coded_graph (first_of U.graphs g) (graph_at U.graphs g)) ≡ get_or X.sinks g 0
    sink_of_lem g h =
        let fits : first_of U.graphs g + length (graph_at U.graphs g).nodes ≤ places = omega (arith, first_within U.graphs g h, room U ok) in
        rw (le-ltb places (first_of U.graphs g) (omega arith), le-ltb places (length (graph_at U.graphs g).nodes) (omega arith))
        (omega (arith, sink_place 0 U.graphs g h))

    figure_is : (g : ℕ) → g < length U.graphs → figure_of M worst g ≡ figure X (whole X.servers) (get_or X.sinks g 0) t
    figure_is g h =
        let (in_List, in_S, budget) = sink_is U ok g h in
        let small = (plan_fits U ok).small in
        rw ((laid U ok).graph g h, sink_of_lem g h, lt-ltb (get_or X.sinks g 0) places (omega arith)) (each (get_or X.sinks g 0) in_S)

    pub figures_are : take M.graphs (figures_of M worst) ≡ figures X (whole X.servers) t
    unfolding figures
    figures_are =
        let zeros : List ℕ = replicate (Limits.graphs).to 0 in
        let long : length (figures_of M worst) ≡ (Limits.graphs).to = replaced_length (figure_of M worst) zeros (Limits.graphs).to in
        let cut : length (take M.graphs (figures_of M worst)) ≡ M.graphs = length-take-le M.graphs (figures_of M worst) (omega (arith, few_graphs)) in
        let whole_length : length (map (λ (i : ℕ). figure X (whole X.servers) i t) X.sinks) ≡ length U.graphs =
        length-map X.sinks (λ (i : ℕ). figure X (whole X.servers) i t) ∙ length_sinks 0 U.graphs in
        ext_get_or 0 (take M.graphs (figures_of M worst)) (map (λ (i : ℕ). figure X (whole X.servers) i t) X.sinks) (omega (arith, graphs_are))
        (λ g h.
        let inside : g < length U.graphs = omega (arith, graphs_are) in
        get_or-take M.graphs (figures_of M worst) g 0 (omega arith)
        ∙ replaced_in (figure_of M worst) zeros (Limits.graphs).to g 0 (omega (arith, few_graphs)) (omega arith)
        ∙ figure_is g inside
        ∙ sym (get_d_map (λ (i : ℕ). figure X (whole X.servers) i t) X.sinks g 0 0 (omega (arith, length_sinks 0 U.graphs))))
