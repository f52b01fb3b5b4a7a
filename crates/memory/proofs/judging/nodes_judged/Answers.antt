-- `nodes_judged` meets its contract: at each turn the nodes from number i + 1 on are to be judged.
use Rattle.std.proofs.Common.{◌≡◌, ◌+◌, ◌*◌, length, arith, sym, ◌∙◌}
use Rattle.std.proofs.lemmas.Result.{err_from_is_err_and}
use Rattle.memory.proofs.JudgeLaws.{nodes_one, nodes_stop, nodes_none}
use Rattle.memory.proofs.judging.nodes_judged.Goals as goal

pub returns-in_err-node_judged : goal.returns-in_err-node_judged
returns-in_err-node_judged c =
    let i = c.loop-i.i in
    let p = err_from_is_err_and c.from_residual.result c.from_residual.ensures.1 in
    rw (p.1, p.2) (sym (c.loop-i.invariant
    ∙ nodes_stop c.args.nodes.now i (c.args.line + 3 * i) (omega arith) _ (rw c.in_err-node_judged.was at c.node_judged.ensures)))

pub loop-i-preserved : goal.loop-i-preserved
loop-i-preserved c =
    let i = c.loop-i.i in
    let e : c.args.line + 3 * i + 3 ≡ c.args.line + 3 * (i + 1) = omega arith in
    c.loop-i.invariant ∙ nodes_one c.args.nodes.now i (c.args.line + 3 * i) (omega arith) _ (rw (c.in_ok-node_judged.was, e) at c.node_judged.ensures)

pub returns : goal.returns
returns c = let e : c.loop-i.i ≡ length c.args.nodes.now = omega arith in rw (← e) (sym (c.loop-i.invariant ∙ nodes_none c.args.nodes.now c.loop-i.i _ (omega arith)))
