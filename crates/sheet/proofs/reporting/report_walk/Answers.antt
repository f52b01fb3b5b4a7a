-- `report_walk` meets its contract: a walk that did not settle is refused as the rules refuse it.
use mathlib.Core.Path.{sym, ap, ◌∙◌}
use Rattle.std.proofs.lemmas.Result.{err_from_is_err_and}
use Rattle.rules.specs.Answers.{call_of}
use Rattle.sheet.proofs.CallLaws.{refused_call}
use Rattle.sheet.proofs.Reports.{unsettled_report}
use Rattle.sheet.proofs.reporting.report_walk.Goals as goal

pub returns-in_err-round : goal.returns-in_err-round
returns-in_err-round c =
    let p = err_from_is_err_and c.from_residual.result c.from_residual.ensures.1 in
    rw (p.1, p.2)
    (refused_call _ _ ∙ ap (call_of _) (sym (unsettled_report _ _ _ _ (sym c.round_of.ensures ∙ c.in_err-round.was))))
