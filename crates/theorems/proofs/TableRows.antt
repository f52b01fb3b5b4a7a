-- The rows of a settled table: at or past the stop the row is that of the matching instant of the last round walked, with server jobs and
-- linked invocations moved on by the periods passed; and each of its server jobs is linked.
use mathlib.Core.Path.{◌≡◌, refl, ap, ◌∙◌}
use mathlib.Core.List.Memᴰ
use mathlib.Core.List.{List, [], ◌∷◌, map, Memᴰ}
use mathlib.Core.Option.{some}
use Prim.Native.Nat.{ℕ, suc, ◌+◌, ◌*◌, ◌-◌, ◌/◌, ◌%◌, ◌≤◌, ◌<◌}
use native.Mathlib.Nat.{mod-lt, div-add-mod'}
use native.Mathlib.Omega.{arith}
use lib.Dec.{T, ltb}
use lib.ListN.{length, get_or}
use Rattle.schedule.specs.Lists.{all?}
use Rattle.schedule.specs.Table.{Node, Graph, Table, hyperperiod}
use Rattle.schedule.specs.Servers.{Server, no_server, of_nodes, of_graphs, box_of, srv, whole}
use Rattle.schedule.specs.Walk.{Running, settled, row_at}
use Rattle.schedule.specs.FarRows.{last_round, matching, passed, moved_on, no_graph, periods_in, far_row}
use Rattle.schedule.specs.WellFormed.{well_formed}
use Rattle.schedule.proofs.Tests.{either_way}
use Rattle.theorems.proofs.FirstStop.{stopped_is_first}
use Rattle.theorems.proofs.LeastTrueBox.{Settled, settled_is, whole_repeats}
use Rattle.theorems.proofs.LeastTrue.{walk_of}
use Rattle.theorems.proofs.TableBox.{get_or_mem, periods_of, table_sound}
use Rattle.theorems.proofs.RowsRepeat.{rows_repeat}
use Rattle.theorems.proofs.AllLinked.{rows_linked}

-- a server has its graph's number and period
of_nodes_lem : (base g v : ℕ) (G : Graph) (xs : List Node) (s : Server) → Memᴰ s (of_nodes base g v G xs) → (s.graph ≡ g) × (s.period ≡ G.period)
unfolding of_nodes
of_nodes_lem base g v G [] s m = absurd (Memᴰ.not-nil m)
of_nodes_lem base g v G (x ∷ xs) s m = either_way (Memᴰ.cases_cons m) (λ e. rw e (refl, refl)) (λ m. of_nodes_lem base g (suc v) G xs s m)

of_graphs_lem : (base g : ℕ) (Gs : List Graph) (s : Server) → Memᴰ s (of_graphs base g Gs)
    → (g ≤ s.graph) × ((get_or Gs (s.graph - g) no_graph).period ≡ s.period)
unfolding of_graphs
of_graphs_lem base g [] s m = absurd (Memᴰ.not-nil m)
of_graphs_lem base g (G ∷ Gs) s m =
    either_way (Memᴰ.append_cases (of_nodes base g 1 G G.nodes) m)
    (λ m.
    let (number, period) = of_nodes_lem base g 1 G G.nodes s m in
    let e : s.graph - g ≡ 0 = omega arith in
    (omega arith, rw (e, period)))
    (λ m.
    let (number, period) = of_graphs_lem (base + length G.nodes) (suc g) Gs s m in
    let e : s.graph - g ≡ suc (s.graph - suc g) = omega arith in
    (omega arith, rw e period))

module _ (X : Table) (ok : T (well_formed X)) where
  abbrev S : List Server
  S = (box_of X).servers

  same_periods : (i : ℕ) → i < length S → periods_in X (srv S i).graph ≡ periods_of X ok i
  unfolding periods_of
  same_periods i l = ap (λ (p : ℕ). hyperperiod X / p) (of_graphs_lem 0 1 X.graphs (srv S i) (get_or_mem S i no_server l)).1

  module _ (k : ℕ) (e : (walk_of X).how ≡ settled k) where
    -- the row at t, each job with its whole budget; and the boundary that the last round walked starts at
    abbrev row : ℕ → List Running
    row t = row_at (box_of X) (whole S) t

    abbrev begin : ℕ
    begin = last_round (hyperperiod X) (walk_of X).ticks

    is_settled_lem : Settled (box_of X) (whole S) (walk_of X).ticks
    is_settled_lem = settled_is (box_of X) (whole S) (walk_of X).ticks k ((stopped_is_first (box_of X) (whole S)).stops ∙ ap some e)

    starts : is_settled_lem.before ≡ begin
    starts = omega (arith, is_settled_lem.apart)

    -- every row from the last round on repeats every hyperperiod
    pub rows_of_table : (t : ℕ) → begin ≤ t → (m : ℕ) → row (t + m * hyperperiod X) ≡ map (moved_on (periods_in X) m) (row t)
    rows_of_table t l m =
        let s = is_settled_lem in
        rows_repeat (box_of X) (periods_of X ok) (table_sound X ok) (whole S) (whole_repeats (box_of X) (periods_of X ok) (table_sound X ok)) s.before
        s.late s.equal (periods_in X) same_periods t (omega (arith, starts)) m

    -- and has no server job that is not linked
    pub rows_of_table_linked : (t : ℕ) → begin ≤ t → T (all? (λ (x : Running). ltb 0 x.invocation) (row t))
    rows_of_table_linked t l =
        let s = is_settled_lem in
        rows_linked (box_of X) (periods_of X ok) (table_sound X ok) (whole S) (whole_repeats (box_of X) (periods_of X ok) (table_sound X ok)) s.before
        s.late s.equal t (omega (arith, starts))

    at : (t : ℕ) → (walk_of X).ticks ≤ t → matching (hyperperiod X) (walk_of X).ticks t + passed (hyperperiod X) (walk_of X).ticks t * hyperperiod X ≡ t
    unfolding matching passed
    at t l = omega (arith, div-add-mod' (t - begin) (hyperperiod X))

    -- R-10: the matching instant lies in the last round
    pub matching_in_round : (t : ℕ) → (begin ≤ matching (hyperperiod X) (walk_of X).ticks t) × (matching (hyperperiod X) (walk_of X).ticks t < (walk_of X).ticks)
    unfolding matching
    matching_in_round t =
        let less : (t - begin) % hyperperiod X < hyperperiod X = mod-lt (t - begin) (table_sound X ok).periodic.some in
        (omega arith, omega (arith, is_settled_lem.apart))

    -- and its row, moved on, is the row at t
    pub row_past_stop : (t : ℕ) → (walk_of X).ticks ≤ t → row t ≡ far_row X (walk_of X).ticks t
    unfolding far_row
    row_past_stop t l =
        rw (at t l) at
        (rows_of_table (matching (hyperperiod X) (walk_of X).ticks t) (matching_in_round t).0 (passed (hyperperiod X) (walk_of X).ticks t))
