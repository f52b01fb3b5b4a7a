-- `node_at` meets its contract: a node is its three lines.
use Rattle.std.proofs.Common.{sym, ◌∙◌, ap}
use Rattle.std.proofs.lemmas.Result.{err_from_is_err_and}
use Rattle.lines.specs.Numbered.{map_outcome, stands}
use Rattle.reading.proofs.Runs.{row_of, node_three}
use Rattle.reading.proofs.tables.node_at.Goals as goal

pub returns-in_err-t : goal.returns-in_err-t
returns-in_err-t c =
    let p = err_from_is_err_and c.from_residual.result c.from_residual.ensures.1 in
    let three = c.in_err-t.ensures.read in
    rw (p.1, p.2) (record { came = ap (map_outcome row_of) three.came ∙ sym (node_three c.args.own (stands c.args.lines.now)); text = three.text })

pub returns : goal.returns
returns c =
    let three = c.in_ok-t.ensures.read in
    record { came = ap (map_outcome row_of) three.came ∙ sym (node_three c.args.own (stands c.args.lines.now)); text = three.text }
