-- `admit` meets its contract: what is read is well-formed, so its struct is admitted as the rules admit the table.
use Rattle.std.proofs.Common.{refl, ap, ◌∙◌}
use Rattle.std.proofs.lemmas.Result.{err_from_is_err_and}
use Rattle.format.specs.Reading.{read_of}
use Rattle.rules.specs.Admission.{admission_of}
use Rattle.rules.proofs.ReadWellFormed.{read_formed}
use Rattle.lines.specs.Numbered.{place_of}
use Rattle.reading.specs.Memory.{memory_of}
use Rattle.reading.proofs.Images.{image_done, image_refused}
use Rattle.admission.specs.Admission.{admitted_memory}
use Rattle.admission.proofs.Admissions.{admitted_memory_lem}
use Rattle.admission.proofs.admitting.admit.Goals as goal

pub returns-in_err-table : goal.returns-in_err-table
unfolding admission_of
returns-in_err-table c =
    let p = err_from_is_err_and c.from_residual.result c.from_residual.ensures.1 in
    rw (p.1, p.2, image_refused memory_of (read_of c.args.s.now) _ (rw c.in_err-table.was at c.table_read.ensures)) refl

pub returns : goal.returns
unfolding admission_of
returns c =
    let s = c.args.s.now in
    let place = place_of s c.in_ok-table.field-0-1 in
    let (T, e, f) = image_done memory_of (read_of s) c.in_ok-table.table place (rw c.in_ok-table.was at c.table_read.ensures) in
    rw e (c.admit_table.ensures ∙ ap admitted_memory f ∙ admitted_memory_lem T (read_formed s T place e))
