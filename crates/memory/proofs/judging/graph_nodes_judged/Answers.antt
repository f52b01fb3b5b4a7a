-- `graph_nodes_judged` meets its contract: too many nodes, a node that does not pass, or the successors.
use Rattle.std.proofs.Common.{◌≡◌, ◌+◌, ◌*◌, List, length, map, arith, sym, ap, ◌∙◌}
use Rattle.std.proofs.lemmas.Result.{err_from_is_err_and}
use Rattle.schedule.specs.Table.{Node}
use Rattle.writer.specs.Judging.{successors_at}
use Rattle.memory.specs.Plain.{node_in, nodes_in}
use Rattle.memory.proofs.Named.{nodes_taken}
use Rattle.memory.proofs.JudgeLaws.{graph_nodes_over, graph_nodes_stop, graph_nodes_pass}
use Rattle.memory.proofs.judging.graph_nodes_judged.Goals as goal
use Rattle.memory.proofs.judging.graph_nodes_judged.Goals.{In-Some}

-- the part that is lent are the graph's nodes
lent : (c : In-Some) → nodes_in c.args.nodes.now c.args.total c.args.n ≡ map node_in c.in-Some.own.now
lent c = nodes_taken c.args.nodes.now c.args.total c.args.n (omega (arith, c.in-Some.ensures.lookup)) ∙ ap (map node_in) (sym c.in-Some.ensures.lookup.0.2)

pub returns-in_default : goal.returns-in_default
returns-in_default c =
    let a = c.args in
    rw c.outside.ensures (sym (graph_nodes_over a.nodes.now a.total a.n a.line (a.line + 1) (omega (arith, c.in_default.ensures.lookup.0))))

pub returns-in_err-nodes_judged : goal.returns-in_err-nodes_judged
returns-in_err-nodes_judged c =
    let a = c.args in
    let p = err_from_is_err_and c.from_residual.result c.from_residual.ensures.1 in
    let o = lent (goal.at.returns-in_err-nodes_judged c).In-Some in
    rw (p.1, p.2) (sym (graph_nodes_stop a.nodes.now a.total a.n a.line (a.line + 1) (omega (arith, c.in-Some.ensures.lookup)) _
    (rw (c.in_err-nodes_judged.was, ← o) at c.nodes_judged.ensures)))

pub returns : goal.returns
returns c =
    let a = c.args in
    let e = a.line + 1 + 3 * a.n in
    let o = lent (goal.at.returns c).In-Some in
    let l : length c.in-Some.own.now ≡ a.n = omega (arith, c.in-Some.ensures.lookup) in
    c.successors_judged.ensures
    ∙ ap (λ (xs : List Node). successors_at xs e) (sym o)
    ∙ sym (graph_nodes_pass a.nodes.now a.total a.n a.line (a.line + 1) (omega (arith, c.in-Some.ensures.lookup)) e
    (rw (c.in_ok-nodes_judged.was, ← o, l) at c.nodes_judged.ensures))
