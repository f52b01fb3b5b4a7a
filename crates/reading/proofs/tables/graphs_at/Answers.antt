-- `graphs_at` meets its contract: at each turn the graphs that are left go into the table so far.
use Rattle.std.proofs.Common.{◌+◌, ◌-◌, length, sym, ◌∙◌, ap, arith}
use Rattle.std.proofs.lemmas.Result.{err_from_is_err_and}
use Rattle.theorems.proofs.Formed.{within_limits, graph_formed_lem}
use Rattle.rules.proofs.Outcomes.{told}
use Rattle.rules.proofs.ReadWellFormed.{graph_holds}
use Rattle.schedule.specs.Limits as Limits
use Rattle.format.specs.Reading.{graph, graphs_from}
use Rattle.table.specs.declared.Table.{Table as Memory}
use Rattle.lines.specs.Numbered.{map_outcome, stands}
use Rattle.reading.specs.Memory.{with_graph, with_graphs}
use Rattle.reading.proofs.Graphs.{graphs_one, graphs_refused, graphs_none}
use Rattle.reading.proofs.Images.{image_done, image_refused}
use Rattle.reading.proofs.tables.graphs_at.Goals as goal

pub graph_at-requires : goal.graph_at-requires
graph_at-requires c = (omega arith, omega arith)

pub returns-in_err-u : goal.returns-in_err-u
returns-in_err-u c =
    let st = c.loop in
    let P = stands st.lines in
    let p = err_from_is_err_and c.from_residual.result c.from_residual.ensures.1 in
    let e = c.in_err-u.ensures in
    rw (p.1, p.2)
    (record {
      came = sym (st.invariant.3 ∙ graphs_refused st.u c.args.n st.counter P (omega arith) _ (image_refused (with_graph st.u) (graph st.u.nodes P) _ e.came));
      text = e.text ∙ st.invariant.2;
    })

pub loop-preserved : goal.loop-preserved
loop-preserved c =
    let st = c.loop in
    let n = c.args.n in
    let P = stands st.lines in
    let Q = stands c.graph_at.new.lines in
    let e = c.in_ok-u.ensures in
    let (G, d, f) = image_done (with_graph st.u) (graph st.u.nodes P) c.in_ok-u.u Q e.came in
    let w = told _ d (graph_holds st.u.nodes P) in
    let few = (within_limits Limits.nodes (length G.nodes) (graph_formed_lem G w.0).few).1 in
    let k = ap (λ (m : Memory). m.graphs) f in
    let l = ap (λ (m : Memory). m.nodes) f in (
      omega arith,
      omega (arith, w.1),
      e.text ∙ st.invariant.2,
      st.invariant.3 ∙ graphs_one st.u n st.counter P (omega arith) G Q d
          ∙ ap (λ (m : Memory). map_outcome (with_graphs m) (graphs_from m.nodes (n - (st.counter + 1)) Q)) (sym f),
    )

pub returns : goal.returns
returns c =
    let st = c.loop in
    record { came = sym (st.invariant.3 ∙ graphs_none st.u c.args.n st.counter (stands st.lines) (omega arith)); text = st.invariant.2 }
