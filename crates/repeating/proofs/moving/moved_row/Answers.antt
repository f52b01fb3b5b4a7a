-- `moved_row` meets its contract. The loop keeps: the first r entries are moved on.
use mathlib.Core.Path.{refl}
use Rattle.window.specs.Loops.{replaced}
use Rattle.repeating.specs.Moving.{moved_to}
use Rattle.repeating.proofs.MovingLaws.{moved_more}
use Rattle.repeating.proofs.moving.moved_row.Goals as goal

pub loop-r-init : goal.loop-r-init
unfolding moved_to replaced
loop-r-init c = refl

pub loop-r-preserved : goal.loop-r-preserved
loop-r-preserved c = moved_more c.args.periods c.args.passed c.args.row c.loop-r.r c.loop-r.invariant c.moved_run.ensures
