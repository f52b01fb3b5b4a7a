-- `form_left` meets its contract. The loop keeps: the first d entries are written.
use native.Mathlib.Omega.{arith}
use lib.ListN.{get_or}
use Rattle.plainstates.proofs.StateLaws.{left_start, left_more}
use Rattle.plainstates.proofs.forming.form_left.Goals as goal

pub loop-d-init : goal.loop-d-init
loop-d-init c = left_start c.args.l.now.used c.args.i (get_or c.args.l.now.complete c.args.i 0) (get_or c.args.plan.now.budget c.args.i 0) c.args.left.now

pub loop-d-preserved : goal.loop-d-preserved
loop-d-preserved c =
    let l = c.args.l.now in
    left_more l.used c.args.i (get_or l.complete c.args.i 0) (get_or c.args.plan.now.budget c.args.i 0) c.args.left.now c.loop-d.d c.loop-d.invariant c.number.ensures c.slot-s.ensures.0 c.entry-e.ensures.0 (omega (arith, c.saturating_sub.ensures, c.from-budget.ensures))
