-- `hyperperiod_of` meets its contract: at each turn the steps go on from h, with the graphs from g on.
use Rattle.std.proofs.Common.{ℕ, get_or, sym, ◌∙◌}
use Rattle.schedule.specs.Limits as Limits
use Rattle.schedule.specs.Table as Rules
use Rattle.table.specs.Fresh.{no_graph}
use Rattle.reading.specs.Memory.{graph_of}
use Rattle.admission.proofs.LoadLaws.{hyperperiod_past, hyperperiod_on, hyperperiod_end}
use Rattle.admission.proofs.loads.hyperperiod_of.Goals as goal

pub returns-in_err-h : goal.returns-in_err-h
returns-in_err-h c =
    let st = c.loop-g in
    let t = c.args.t.now in
    let at : ℕ → Rules.Graph = λ (g : ℕ). graph_of t.node (get_or t.graph g no_graph) in
    rw c.from_residual.ensures (sym (st.invariant
    ∙ hyperperiod_past (Limits.hyperperiod).to st.h at st.g t.graphs c.loop-g-test.true (rw (c.in_err-h.was, c.graph_of-x.ensures) at c.lcm_within.ensures)))

pub loop-g-preserved : goal.loop-g-preserved
loop-g-preserved c =
    let st = c.loop-g in
    let t = c.args.t.now in
    let at : ℕ → Rules.Graph = λ (g : ℕ). graph_of t.node (get_or t.graph g no_graph) in
    st.invariant
    ∙ hyperperiod_on (Limits.hyperperiod).to st.h at st.g t.graphs c.loop-g-test.true c.in_ok-h.h (rw (c.in_ok-h.was, c.graph_of-x.ensures) at c.lcm_within.ensures)

pub returns : goal.returns
returns c =
    let st = c.loop-g in
    let t = c.args.t.now in
    sym (st.invariant ∙ hyperperiod_end (Limits.hyperperiod).to st.h (λ (g : ℕ). graph_of t.node (get_or t.graph g no_graph)) st.g t.graphs c.loop-g-test.false)
