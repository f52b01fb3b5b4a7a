-- `table_judged` meets its contract: the head's three lines, then the graphs.
use Rattle.std.proofs.Common.{◌≡◌, length, take, arith, ap, ◌∙◌}
use Rattle.std.proofs.lemmas.List.{length-take-le}
use Rattle.std.proofs.lemmas.Result.{err_from_is_err_and}
use Rattle.memory.specs.Judged.{judged_of}
use Rattle.memory.proofs.GraphCounts.{graphs_taken}
use Rattle.memory.proofs.TableLaws.{table_few, table_stop, table_pass}
use Rattle.memory.proofs.judging.table_judged.Goals as goal

pub shared_ref_as_front-graphs : goal.shared_ref_as_front-graphs
shared_ref_as_front-graphs c = table_few c.args.t 4 (rw c.in_ok-three_judged.was at c.three_judged.ensures)

pub returns-in_err-three_judged : goal.returns-in_err-three_judged
returns-in_err-three_judged c =
    let p = err_from_is_err_and c.from_residual.result c.from_residual.ensures.1 in
    rw (p.1, p.2) (ap judged_of (table_stop c.args.t _ (rw c.in_err-three_judged.was at c.three_judged.ensures)))

pub returns : goal.returns
returns c =
    let t = c.args.t in
    let pass = rw c.in_ok-three_judged.was at c.three_judged.ensures in
    let all : length (take t.graphs t.graph) ≡ t.graphs = length-take-le t.graphs t.graph (omega (arith, table_few t 4 pass)) in
    (rw (all, graphs_taken t.graph t.node t.graphs 0 0 t.graphs (omega arith)) at c.graphs_judged.ensures) ∙ ap judged_of (table_pass t 4 pass)
