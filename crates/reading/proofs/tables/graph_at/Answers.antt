-- `graph_at` meets its contract.
use Rattle.std.proofs.Common.{refl, sym, ◌∙◌, arith}
use Rattle.std.proofs.lemmas.Result.{err_from_is_err_and}
use Rattle.theorems.proofs.Formed.{within_limits}
use Rattle.rules.proofs.Outcomes.{told}
use Rattle.format.specs.Keys as Keys
use Rattle.format.specs.Keys.{keys}
use Rattle.schedule.specs.Limits as Limits
use Rattle.lines.specs.Numbered.{stands}
use Rattle.lines.proofs.NumberedLaws.{three_holds}
use Rattle.reading.proofs.Graphs.{graph_three}
use Rattle.reading.proofs.tables.graph_at.Goals as goal

pub graph_nodes-requires : goal.graph_nodes-requires
unfolding keys
graph_nodes-requires c =
    let w = told _ (sym c.in_ok-head.ensures.read.came) (three_holds Keys.period Keys.offset Keys.nodes 0 (stands c.args.lines.now) refl) in
    let l = within_limits Limits.nodes c.in_ok-head.head.third w.0 in
    (omega arith, omega arith, l.0, l.1)

pub returns-in_err-head : goal.returns-in_err-head
returns-in_err-head c =
    let p = err_from_is_err_and c.from_residual.result c.from_residual.ensures.1 in
    let three = c.in_err-head.ensures.read in
    rw (p.1, p.2) (record { came = rw (graph_three c.args.t.nodes (stands c.args.lines.now), ← three.came); text = three.text })

pub returns : goal.returns
returns c =
    let three = c.in_ok-head.ensures.read in
    record {
      came = rw (graph_three c.args.t.nodes (stands c.args.lines.now), ← three.came) c.graph_nodes.ensures.came;
      text = c.graph_nodes.ensures.text ∙ three.text;
    }
