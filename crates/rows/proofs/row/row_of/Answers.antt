-- `row_of` meets its contract. The loop's invariant: the row so far has the first r entries.
use native.Mathlib.Nat.{le_antisymm}
use Rattle.window.specs.Loops.{replaced}
use Rattle.rows.specs.Showing.{seen_by, run_of}
use Rattle.rows.proofs.Entries.{chosen_row, count_few, filled_more, filled_is}
use Rattle.rows.proofs.row.row_of.Goals as goal

pub loop-r-init : goal.loop-r-init
unfolding replaced
loop-r-init c =
    let st = seen_by c.args.servers c.args.first c.args.count in
    let h = chosen_row c.args.plan c.args.offsets st c.requires c.min-n.ensures c.choose-m.ensures in
    (rw h.0 (count_few c.args.plan c.args.offsets st c.requires), c.blank-row.ensures)

pub loop-r-preserved : goal.loop-r-preserved
unfolding run_of
loop-r-preserved c =
    let h = chosen_row c.args.plan c.args.offsets (seen_by c.args.servers c.args.first c.args.count) c.requires c.min-n.ensures c.choose-m.ensures in
    (c.loop-r.invariant.0, filled_more c.args.plan c.args.offsets c.args.servers c.args.first c.args.count h c.loop-r.r c.loop-r.invariant.1 c.run_of.ensures)

pub returns : goal.returns
returns c =
    let h = chosen_row c.args.plan c.args.offsets (seen_by c.args.servers c.args.first c.args.count) c.requires c.min-n.ensures c.choose-m.ensures in
    filled_is c.args.plan c.args.offsets c.args.servers c.args.first c.args.count h c.loop-r.r c.loop-r.invariant.1 (le_antisymm c.loop-r.auto.r-end c.loop-r-test.false)
