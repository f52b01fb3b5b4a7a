-- `margin_walk` meets its contract: a walk that did not settle is refused as the rules refuse it.
use mathlib.Core.Path.{sym, ◌∙◌}
use Rattle.std.proofs.lemmas.Result.{err_from_is_err_and}
use Rattle.margin.proofs.Laws.{answers_named, of_table_lem, unsettled_margin}
use Rattle.margin.proofs.answering.margin_walk.Goals as goal

pub returns-in_err-round : goal.returns-in_err-round
returns-in_err-round c =
    let p = err_from_is_err_and c.from_residual.result c.from_residual.ensures.1 in
    rw (p.1, p.2)
    (answers_named (sym (unsettled_margin _ _ _ _ _ (sym c.round_of.ensures ∙ c.in_err-round.was))) (of_table_lem _ _))
