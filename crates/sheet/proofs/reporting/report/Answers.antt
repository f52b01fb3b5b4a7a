-- `report` meets its contract: what was read passed or was refused, and so are the bytes.
use mathlib.Core.Path.{sym, ap, ◌∙◌}
use Rattle.std.proofs.lemmas.Result.{err_from_is_err_and}
use Rattle.rules.specs.Answers.{Call, call_of}
use Rattle.rules.specs.AnswerNumbers.{answer_number}
use Rattle.rules.proofs.TrueReports.{an_answered_report_is_true}
use Rattle.sheet.proofs.CallLaws.{refused_call}
use Rattle.sheet.proofs.Reports.{refused_report}
use Rattle.sheet.proofs.Planning.{planned_refused, planned_walkable, planned_few, planned_report}
use Rattle.sheet.proofs.reporting.report.Goals as goal

pub walk_to-w-requires : goal.walk_to-w-requires
walk_to-w-requires c = planned_walkable _ _ c.in_ok-p.ensures

pub report_walk-requires : goal.report_walk-requires
report_walk-requires c = planned_few _ _ c.in_ok-p.ensures

pub returns-in_err-p : goal.returns-in_err-p
returns-in_err-p c =
    let p = err_from_is_err_and c.from_residual.result c.from_residual.ensures.1 in
    let e = refused_call _ _ ∙ ap (call_of _) (sym (refused_report _ _ (planned_refused _ _ c.in_err-p.ensures))) in
    rw (p.1, p.2) (record { call = e; least_true = λ z. an_answered_report_is_true _ _ (ap (λ (k : Call). answer_number k.answer) (sym e) ∙ z) })

pub returns : goal.returns
returns c =
    let e = c.report_walk.ensures ∙ ap (call_of _) (planned_report _ _ c.in_ok-p.ensures c.walk_to-w.result c.walk_to-w.ensures) in
    record { call = e; least_true = λ z. an_answered_report_is_true _ _ (ap (λ (k : Call). answer_number k.answer) (sym e) ∙ z) }
