-- `put_both` meets its contract.
use Rattle.salvage.proofs.Putting.{put_start, text_room_lem, list_room_lem, put_on, text_last_room, text_filled, list_last_room, list_filled}
use Rattle.salvage.proofs.outputs.put_both.Goals as goal

pub loop-c-init : goal.loop-c-init
loop-c-init c = put_start c.args.bytes.now c.args.text.now c.args.list.now c.fresh-line.result c.fresh-line.ensures

pub put-text_at-requires : goal.put-text_at-requires
put-text_at-requires c = text_room_lem c.loop-c.invariant c.requires.bytes_len_bound c.requires.bytes_in_bounds c.requires.bytes_in_bounds_2 c.loop-c-test.true c.adds.result c.adds.ensures

pub put-list_at-requires : goal.put-list_at-requires
put-list_at-requires c = list_room_lem c.loop-c.invariant c.requires.bytes_len_bound c.requires.bytes_in_bounds c.requires.bytes_in_bounds_2 c.loop-c-test.true c.kinds_at.result c.kinds_at.ensures

pub loop-c-preserved : goal.loop-c-preserved
loop-c-preserved c =
    put_on c.loop-c.invariant c.requires.bytes_len_bound c.requires.bytes_in_bounds c.requires.bytes_in_bounds_2 c.loop-c-test.true
    c.adds.result c.adds.ensures _ c.put-text_at.result c.put-text_at.ensures
    c.kinds_at.result c.kinds_at.ensures _ c.put-list_at.result c.put-list_at.ensures
    c.after-line.result c.after-line.ensures c.number_after-n.result c.number_after-n.ensures

pub put-requires : goal.put-requires
put-requires c = text_last_room c.loop-c.invariant c.requires.bytes_len_bound c.requires.bytes_in_bounds c.requires.bytes_in_bounds_2 c.loop-c-test.false c.ended.result c.ended.ensures

pub put-requires-2 : goal.put-requires-2
put-requires-2 c = list_last_room c.loop-c.invariant c.requires.bytes_len_bound c.requires.bytes_in_bounds c.requires.bytes_in_bounds_2 c.loop-c-test.false c.kinds_last.result c.kinds_last.ensures

pub returns : goal.returns
returns c = record { text = text_filled c.loop-c.invariant c.requires.bytes_len_bound c.requires.bytes_in_bounds c.requires.bytes_in_bounds_2 c.loop-c-test.false c.ended.result c.ended.ensures _ c.put.result c.put.ensures; list = list_filled c.loop-c.invariant c.requires.bytes_len_bound c.requires.bytes_in_bounds c.requires.bytes_in_bounds_2 c.loop-c-test.false c.kinds_last.result c.kinds_last.ensures _ c.put-2.result c.put-2.ensures }
