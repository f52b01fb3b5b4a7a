-- `graph_room` meets its contract: at each turn what is left has room for the nodes from k on, or not.
use Rattle.std.proofs.Common.{◌≡◌, ℕ, ◌+◌, ◌-◌, ◌*◌, get_or, arith, sym, ap, ◌∙◌}
use Rattle.schedule.specs.Lists.{sum, tab}
use Rattle.schedule.specs.Table as Rules
use Rattle.table.specs.Fresh.{no_node}
use Rattle.admission.specs.Loads.{room_after}
use Rattle.reading.specs.Memory.{node_of}
use Rattle.admission.proofs.LoadLaws.{room_over, room_on}
use Rattle.admission.proofs.loads.graph_room.Goals as goal

pub returns-in_err-left : goal.returns-in_err-left
returns-in_err-left c =
    let st = c.loop-k in
    let x = c.args.x in
    let need : Rules.Node → ℕ = λ (y : Rules.Node). y.budget * c.args.times in
    let at : ℕ → Rules.Node = λ (i : ℕ). node_of (get_or c.args.t.now.node i no_node) in
    rw c.from_residual.ensures (sym (st.invariant
    ∙ room_over need st.left at (x.first + st.k) x.nodes st.k c.loop-k-test.true (rw (c.in_err-left.was, c.node_of-y.ensures) at c.room_after.ensures)))

pub loop-k-preserved : goal.loop-k-preserved
loop-k-preserved c =
    let st = c.loop-k in
    let x = c.args.x in
    let need : Rules.Node → ℕ = λ (y : Rules.Node). y.budget * c.args.times in
    let at : ℕ → Rules.Node = λ (i : ℕ). node_of (get_or c.args.t.now.node i no_node) in
    let m = c.in_ok-left.left in
    let i : x.first + st.k + 1 ≡ x.first + (st.k + 1) = omega arith in
    st.invariant
    ∙ room_on need st.left at (x.first + st.k) x.nodes st.k c.loop-k-test.true m (rw (c.in_ok-left.was, c.node_of-y.ensures) at c.room_after.ensures)
    ∙ ap (λ (j : ℕ). room_after m (sum need (tab at j (x.nodes - (st.k + 1))))) i
