-- `graph_judged` meets its contract: the head's three lines, then the nodes.
use Rattle.std.proofs.Common.{◌≡◌, ℕ, ◌+◌, ◌*◌, arith, ap, ◌∙◌}
use Rattle.std.proofs.lemmas.Result.{err_from_is_err_and}
use Rattle.memory.specs.Judged.{judged_as}
use Rattle.memory.proofs.JudgeLaws.{head_few, graph_stop, graph_pass}
use Rattle.memory.proofs.judging.graph_judged.Goals as goal

pub graph_nodes_judged-requires : goal.graph_nodes_judged-requires
graph_nodes_judged-requires c =
    let a = c.args in
    let h = head_few a.g a.nodes.now a.total a.line (a.line + 3) (rw c.in_ok-three_judged.was at c.three_judged.ensures) in
    (omega arith, h.0, h.1, omega (arith, h.1))

pub returns-in_err-three_judged : goal.returns-in_err-three_judged
returns-in_err-three_judged c =
    let a = c.args in
    let p = err_from_is_err_and c.from_residual.result c.from_residual.ensures.1 in
    rw (p.1, p.2) (graph_stop a.g a.nodes.now a.total a.line _ (rw c.in_err-three_judged.was at c.three_judged.ensures))

pub returns : goal.returns
returns c =
    let a = c.args in
    let e : a.line + 3 + 3 * a.g.nodes ≡ a.line + 2 + 1 + 3 * a.g.nodes = omega arith in
    ap (λ (k : ℕ). judged_as k c.graph_nodes_judged.result) e
    ∙ c.graph_nodes_judged.ensures
    ∙ graph_pass a.g a.nodes.now a.total a.line (a.line + 3) (rw c.in_ok-three_judged.was at c.three_judged.ensures)
