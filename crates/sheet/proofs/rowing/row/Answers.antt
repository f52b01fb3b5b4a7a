-- `row` meets its contract: what was read passed or was refused, and so are the bytes; of what passed, by the instant and by how the walk ended.
use mathlib.Core.Path.{sym, ap, ◌∙◌}
use Prim.Native.Nat.{ℕ}
use Rattle.schedule.proofs.Tests.{either_way}
use Rattle.window.specs.Walking.{walk_of}
use Rattle.rows.proofs.Entries.{row_few}
use Rattle.repeating.proofs.MovingLaws.{far_few}
use Rattle.looking.specs.Looking.{end_by}
use Rattle.sheet.proofs.RowTold.{refused_told}
use Rattle.sheet.proofs.Planning.{planned_refused, planned_walkable, planned_above, planned_near, planned_far, planned_stopped}
use Rattle.sheet.proofs.rowing.row.Goals as goal

pub returns-then-instant : goal.returns-then-instant
returns-then-instant c = let r = (planned_above _ _ (sym c.in-Ok.is ∙ c.planned.ensures) _ _ c.if-instant.true) in record { call = r.0; walked = r.1 }

pub walk_to-w-requires : goal.walk_to-w-requires
walk_to-w-requires c =
    planned_walkable _ _ (sym c.in-Ok.is ∙ c.planned.ensures)

pub shown-requires : goal.shown-requires
shown-requires c =
    (planned_walkable _ _ (sym c.in-Ok.is ∙ c.planned.ensures)).0

pub put_row-requires : goal.put_row-requires
put_row-requires c =
    rw c.shown.ensures (row_few _ _ _ (planned_walkable _ _ (sym c.in-Ok.is ∙ c.planned.ensures)).0)

pub matching-at-requires : goal.matching-at-requires
matching-at-requires c =
    (planned_walkable _ _ (sym c.in-Ok.is ∙ c.planned.ensures)).2

pub walk_to-u-requires : goal.walk_to-u-requires
walk_to-u-requires c =
    planned_walkable _ _ (sym c.in-Ok.is ∙ c.planned.ensures)

pub shown-there-requires : goal.shown-there-requires
shown-there-requires c =
    (planned_walkable _ _ (sym c.in-Ok.is ∙ c.planned.ensures)).0

pub far_row-far-requires : goal.far_row-far-requires
far_row-far-requires c =
    let W = planned_walkable _ _ (sym c.in-Ok.is ∙ c.planned.ensures) in
    (rw c.shown-there.ensures (row_few _ _ _ W.0), W.2)

pub put_row-requires-in-Settled : goal.put_row-requires-in-Settled
put_row-requires-in-Settled c =
    rw c.far_row-far.ensures (far_few _ _ _ _ _ (rw c.shown-there.ensures (row_few _ _ _ (planned_walkable _ _ (sym c.in-Ok.is ∙ c.planned.ensures)).0)))

pub returns-in-Err : goal.returns-in-Err
returns-in-Err c =
    let r = refused_told _ _ _ _ (planned_refused _ _ (sym c.in-Err.is ∙ c.planned.ensures)) in
    record { call = r.0; walked = r.1 }

pub returns-in-Reached : goal.returns-in-Reached
returns-in-Reached c = let r = (planned_near _ _ (sym c.in-Ok.is ∙ c.planned.ensures) _ c.if-instant.false c.walk_to-w.result c.walk_to-w.ensures _ _ c.put_row.result
    c.in-Reached.is c.shown.result c.shown.ensures c.put_row.ensures) in record { call = r.0; walked = r.1 }

pub returns-in-Settled : goal.returns-in-Settled
returns-in-Settled c = let r = (let p = c.in-Ok.p in
    planned_far _ _ (sym c.in-Ok.is ∙ c.planned.ensures) _ c.if-instant.false c.walk_to-w.result c.walk_to-w.ensures _ _ c.put_row-in-Settled.result _
    c.in-Settled.is c.walk_to-u.result
    (c.walk_to-u.ensures ∙ ap (λ (at : ℕ). walk_of p.plan p.offsets p.origin p.hyperperiod p.rounds at) c.matching-at.ensures)
    c.shown-there.result c.far_row-far.result c.shown-there.ensures c.far_row-far.ensures c.put_row-in-Settled.ensures) in record { call = r.0; walked = r.1 }

pub returns-in-Unsettled : goal.returns-in-Unsettled
returns-in-Unsettled c = let r = (planned_stopped _ _ (sym c.in-Ok.is ∙ c.planned.ensures) _ c.if-instant.false c.walk_to-w.result c.walk_to-w.ensures _
    (either_way c.in-Unsettled.is (ap end_by) (ap end_by))) in record { call = r.0; walked = r.1 }
