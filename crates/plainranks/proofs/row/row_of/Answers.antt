-- `row_of` meets its contract. The loop keeps: the lines of the first r ranks.
use mathlib.Core.Path.{refl, ◌∙◌}
use native.Mathlib.Omega.{arith}
use Rattle.ledger.proofs.RowLaws.{row_start, row_more, row_same, row_end}
use Rattle.plainranks.proofs.row.row_of.Goals as goal
use Rattle.plainranks.proofs.row.row_of.Goals.{in-Some, in_default}

pub loop-r-init : goal.loop-r-init
loop-r-init c = (rw c.blank-row.ensures (omega arith), row_start c.args.plan.now c.args.offsets.now c.args.l.now c.blank-row.ensures)

pub loop-r-preserved : goal.loop-r-preserved
loop-r-preserved c =
    let plan = c.args.plan.now in
    let o = c.args.offsets.now in
    let l = c.args.l.now in (
      elim c.match-found.branch [ in-Some w ↦ rw w.row-is (omega (arith, c.loop-r.invariant.0)) | in_default w ↦ rw w.row-is (omega (arith, c.loop-r.invariant.0)) ],
      elim c.match-found.branch [
        | in-Some w ↦ w.row-is ∙ row_more plan o l c.loop-r.r c.loop-r.invariant.1 refl c.found.ensures.is _ w.in-Some.is w.slot-s.ensures.0 w.run_of.ensures
        | in_default w ↦ w.row-is ∙ row_same plan o l c.loop-r.r c.loop-r.invariant.1 refl c.found.ensures.is w.in_default.is
      ],
    )

pub returns : goal.returns
returns c =
    let plan = c.args.plan.now in
    let o = c.args.offsets.now in
    let l = c.args.l.now in
    row_end plan o l c.min-r-end.result c.loop-r.r c.min-r-end.ensures c.loop-r.invariant.1 c.loop-r.auto.r-end c.loop-r-test.false
