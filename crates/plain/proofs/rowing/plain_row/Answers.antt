-- `plain_row` meets its contract: what was read passed or was refused, and so are the bytes; of what passed, by the instant and by how the walk
-- ended.
use mathlib.Core.Path.{ap, ◌∙◌}
use Rattle.std.proofs.lemmas.Result.{err_from_is_err_and}
use Rattle.repeating.proofs.MovingLaws.{far_few}
use Rattle.sheet.proofs.Admissions.{passes, is_refused}
use Rattle.sheet.proofs.Reports.{passed_walkable}
use Rattle.sheet.proofs.RowTold.{refused_told}
use Rattle.plainlaws.specs.Rows.{look_of}
use Rattle.plainlaws.proofs.TableLooks.{look_few}
use Rattle.plainlaws.proofs.RowCalls.{passed_above, passed_near, passed_far, passed_stopped}
use Rattle.plain.proofs.rowing.plain_row.Goals as goal

pub returns-then-instant : goal.returns-then-instant
returns-then-instant c =
    let r = passed_above _ _ (passes _ _ c.in_ok-a.ensures) _ _ c.if-instant.true in
    record { call = r.0; walked = r.1 }

pub looked-l-requires : goal.looked-l-requires
looked-l-requires c = passed_walkable _ _ (passes _ _ c.in_ok-a.ensures)

pub put_row-requires : goal.put_row-requires
put_row-requires c = look_few _ _ _ c.looked-l.ensures

pub matching-requires : goal.matching-requires
matching-requires c = (passed_walkable _ _ (passes _ _ c.in_ok-a.ensures)).hyper_some

pub looked-there-requires : goal.looked-there-requires
looked-there-requires c = passed_walkable _ _ (passes _ _ c.in_ok-a.ensures)

pub far_row-far-requires : goal.far_row-far-requires
far_row-far-requires c = (look_few _ _ _ c.looked-there.ensures, (passed_walkable _ _ (passes _ _ c.in_ok-a.ensures)).hyper_some)

pub put_row-requires-in-Settled : goal.put_row-requires-in-Settled
put_row-requires-in-Settled c =
    rw c.far_row-far.ensures (far_few _ _ _ _ _ (look_few _ _ _ c.looked-there.ensures))

pub returns-in_err-a : goal.returns-in_err-a
returns-in_err-a c =
    let p = err_from_is_err_and c.from_residual.result c.from_residual.ensures.1 in
    let r = refused_told _ _ _ _ (is_refused _ _ c.in_err-a.ensures) in
    rw (p.1, p.2) (record { call = r.0; walked = r.1 })

pub returns-in-Reached : goal.returns-in-Reached
returns-in-Reached c =
    let p = passes _ _ c.in_ok-a.ensures in
    let r = passed_near _ _ p _ c.if-instant.false c.looked-l.result c.looked-l.ensures _ _ c.put_row.result c.in-Reached.is c.put_row.ensures in
    record { call = r.0; walked = r.1 }

pub returns-in-Settled : goal.returns-in-Settled
returns-in-Settled c =
    let p = passes _ _ c.in_ok-a.ensures in
    let r =
    passed_far _ _ p _ c.if-instant.false c.looked-l.result c.looked-l.ensures _ _ c.put_row-in-Settled.result c.in-Settled.is
    c.looked-there.result (c.looked-there.ensures ∙ ap (look_of c.in_ok-a.a) c.matching.ensures) c.far_row-far.result c.far_row-far.ensures
    c.put_row-in-Settled.ensures in
    record { call = r.0; walked = r.1 }

pub returns-in-Stopped : goal.returns-in-Stopped
returns-in-Stopped c =
    let p = passes _ _ c.in_ok-a.ensures in
    let r = passed_stopped _ _ p _ c.if-instant.false c.looked-l.result c.looked-l.ensures _ c.in-Stopped.is in
    record { call = r.0; walked = r.1 }
