-- `plain_report` meets its contract: what was read passed or was refused, and so are the bytes.
use mathlib.Core.Path.{sym, ap, ◌∙◌}
use Rattle.std.proofs.lemmas.Result.{err_from_is_err_and}
use Rattle.rules.specs.Answers.{Call, call_of}
use Rattle.rules.specs.AnswerNumbers.{answer_number}
use Rattle.rules.proofs.TrueReports.{an_answered_report_is_true}
use Rattle.sheet.proofs.CallLaws.{refused_call}
use Rattle.sheet.proofs.Admissions.{passes, is_refused}
use Rattle.sheet.proofs.Reports.{passed_walkable, passed_few, refused_report}
use Rattle.plainlaws.proofs.Reports.{passed_report}
use Rattle.plain.proofs.reporting.plain_report.Goals as goal

pub walked-requires : goal.walked-requires
walked-requires c = passed_walkable _ _ (passes _ _ c.in_ok-a.ensures)

pub report_walk-requires : goal.report_walk-requires
report_walk-requires c = passed_few _ _ (passes _ _ c.in_ok-a.ensures)

pub returns-in_err-a : goal.returns-in_err-a
returns-in_err-a c =
    let p = err_from_is_err_and c.from_residual.result c.from_residual.ensures.1 in
    let e = refused_call _ _ ∙ ap (call_of _) (sym (refused_report _ _ (is_refused _ _ c.in_err-a.ensures))) in
    rw (p.1, p.2) (record { call = e; least_true = λ z. an_answered_report_is_true _ _ (ap (λ (k : Call). answer_number k.answer) (sym e) ∙ z) })

pub returns : goal.returns
returns c =
    let p = passes _ _ c.in_ok-a.ensures in
    let e = c.report_walk.ensures ∙ ap (call_of _) (passed_report _ _ p c.walked.result c.walked.ensures) in
    record { call = e; least_true = λ z. an_answered_report_is_true _ _ (ap (λ (k : Call). answer_number k.answer) (sym e) ∙ z) }
