-- `margin` meets its contract: what was read passed or was refused, and so are the bytes.
use mathlib.Core.Path.{sym}
use Rattle.std.proofs.lemmas.Result.{err_from_is_err_and}
use Rattle.sheet.proofs.Planning.{planned_refused, planned_walkable, planned_few}
use Rattle.margin.proofs.Planning.{planned_margin, refused_margin}
use Rattle.margin.proofs.Laws.{answers_named, of_table_lem, true_margins}
use Rattle.margin.proofs.answering.margin.Goals as goal

pub walk_to-w-requires : goal.walk_to-w-requires
walk_to-w-requires c = planned_walkable _ _ c.in_ok-p.ensures

pub margin_walk-requires : goal.margin_walk-requires
margin_walk-requires c = planned_few _ _ c.in_ok-p.ensures

pub returns-in_err-p : goal.returns-in_err-p
returns-in_err-p c =
    let p = err_from_is_err_and c.from_residual.result c.from_residual.ensures.1 in
    let w = answers_named (sym (refused_margin c.args.table.now c.args.limits.now _ (planned_refused _ _ c.in_err-p.ensures))) (of_table_lem _ _) in
    rw (p.1, p.2) (record { call = w; kept = true_margins c.args.table.now c.args.limits.now _ _ _ w })

pub returns : goal.returns
returns c =
    let same = planned_margin c.args.table.now c.args.limits.now _ c.in_ok-p.ensures c.walk_to-w.result c.walk_to-w.ensures in
    let w = answers_named same c.margin_walk.ensures in
    record { call = w; kept = true_margins c.args.table.now c.args.limits.now _ _ _ w }
