-- `form_behind` meets its contract. The loop keeps: the first d entries are written.
use lib.ListN.{get_or}
use Rattle.plainstates.proofs.StateLaws.{behind_start, behind_more}
use Rattle.plainstates.proofs.forming.form_behind.Goals as goal

pub loop-d-init : goal.loop-d-init
loop-d-init c = behind_start c.args.l.now.link c.args.i (get_or c.args.l.now.complete c.args.i 0) c.args.behind.now

pub loop-d-preserved : goal.loop-d-preserved
loop-d-preserved c =
    let l = c.args.l.now in
    behind_more l.link c.args.i (get_or l.complete c.args.i 0) c.args.behind.now c.loop-d.d c.loop-d.invariant c.number-k.ensures c.slot-s.ensures.0 c.entry-e.ensures.0 c.behind_of.ensures
