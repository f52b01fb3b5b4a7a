-- `graphs_judged` meets its contract: at each turn the graphs from entry g-index on are to be judged, behind `total` nodes.
use Rattle.std.proofs.Common.{◌≡◌, ◌+◌, ◌-◌, ◌*◌, ◌≤◌, length, get_or, arith, sym, ap, ◌∙◌}
use Rattle.std.proofs.lemmas.Result.{err_from_is_err_and}
use Rattle.schedule.specs.Limits as Limits
use Rattle.writer.specs.Judging.{graphs_at}
use Rattle.memory.specs.Plain.{no_graph, graphs_in}
use Rattle.memory.specs.Judged.{judged_of}
use Rattle.memory.proofs.JudgeLaws.{graph_passed, graphs_one, graphs_stop, graphs_none}
use Rattle.memory.proofs.judging.graphs_judged.Goals as goal
use Rattle.memory.proofs.judging.graphs_judged.Goals.{In_ok-graph_judged}

-- what a graph that passes says of its count
few : (c : In_ok-graph_judged) → ((get_or c.args.graphs.now c.loop-g.g-index no_graph).nodes ≤ (Limits.nodes).to) × (c.loop-g.total + (get_or c.args.graphs.now c.loop-g.g-index no_graph).nodes ≤ (Limits.all_nodes).to)
few c =
    let st = c.loop-g in
    graph_passed (get_or c.args.graphs.now st.g-index no_graph) c.args.nodes.now st.total st.line _ (rw c.in_ok-graph_judged.was at c.graph_judged.ensures)

pub returns-in_err-graph_judged : goal.returns-in_err-graph_judged
returns-in_err-graph_judged c =
    let st = c.loop-g in
    let p = err_from_is_err_and c.from_residual.result c.from_residual.ensures.1 in
    rw (p.1, p.2) (sym (ap judged_of (st.invariant.left
    ∙ graphs_stop c.args.graphs.now c.args.nodes.now st.g-index _ st.total st.line (omega arith) _ (rw c.in_err-graph_judged.was at c.graph_judged.ensures))))

pub overflow_mul-line : goal.overflow_mul-line
overflow_mul-line c = omega (arith, few (goal.at.overflow_mul-line c).In_ok-graph_judged)

pub overflow_add-line-in-loop-g : goal.overflow_add-line-in-loop-g
overflow_add-line-in-loop-g c = omega (arith, few (goal.at.overflow_add-line-in-loop-g c).In_ok-graph_judged)

pub overflow_add-line-in-loop-g-2 : goal.overflow_add-line-in-loop-g-2
overflow_add-line-in-loop-g-2 c = omega (arith, few (goal.at.overflow_add-line-in-loop-g-2 c).In_ok-graph_judged)

pub loop-g-preserved : goal.loop-g-preserved
loop-g-preserved c =
    let st = c.loop-g in
    let x = get_or c.args.graphs.now st.g-index no_graph in
    let f = few (goal.at.loop-g-preserved c).In_ok-graph_judged in
    let e : st.line + 3 + 3 * x.nodes ≡ st.line + (3 + 3 * x.nodes) = omega arith in
    record {
      few = f.1;
      near = omega (arith, f);
      left = st.invariant.left
          ∙ graphs_one c.args.graphs.now c.args.nodes.now st.g-index _ st.total st.line (omega arith) _ (rw c.in_ok-graph_judged.was at c.graph_judged.ensures)
          ∙ ap (graphs_at (st.total + x.nodes) (graphs_in c.args.graphs.now c.args.nodes.now (st.g-index + 1) (st.total + x.nodes) (length c.args.graphs.now - (st.g-index + 1)))) e;
    }

pub returns : goal.returns
returns c =
    let st = c.loop-g in
    sym (ap judged_of (st.invariant.left ∙ graphs_none c.args.graphs.now c.args.nodes.now st.g-index _ st.total st.line (omega arith)))
