-- `load_room` meets its contract: at each turn what is left has room for the graphs from g on, or not.
use Rattle.std.proofs.Common.{ℕ, ◌/◌, get_or, sym, ◌∙◌}
use Rattle.schedule.specs.Table as Rules
use Rattle.table.specs.Fresh.{no_graph}
use Rattle.admission.specs.Loads.{graph_load}
use Rattle.reading.specs.Memory.{graph_of}
use Rattle.admission.proofs.LoadLaws.{room_over, room_on}
use Rattle.admission.proofs.loads.load_room.Goals as goal

pub returns-in_err-left : goal.returns-in_err-left
returns-in_err-left c =
    let st = c.loop-g in
    let t = c.args.t.now in
    let need : Rules.Graph → ℕ = λ (G : Rules.Graph). graph_load (c.args.h / G.period) G in
    let at : ℕ → Rules.Graph = λ (g : ℕ). graph_of t.node (get_or t.graph g no_graph) in
    rw c.from_residual.ensures (sym (st.invariant
    ∙ room_over need st.left at st.g t.graphs st.g c.loop-g-test.true (rw (c.in_err-left.was, c.times_in.ensures, c.graph_of-x.ensures) at c.graph_room.ensures)))

pub loop-g-preserved : goal.loop-g-preserved
loop-g-preserved c =
    let st = c.loop-g in
    let t = c.args.t.now in
    let need : Rules.Graph → ℕ = λ (G : Rules.Graph). graph_load (c.args.h / G.period) G in
    let at : ℕ → Rules.Graph = λ (g : ℕ). graph_of t.node (get_or t.graph g no_graph) in
    st.invariant
    ∙ room_on need st.left at st.g t.graphs st.g c.loop-g-test.true c.in_ok-left.left
    (rw (c.in_ok-left.was, c.times_in.ensures, c.graph_of-x.ensures) at c.graph_room.ensures)
