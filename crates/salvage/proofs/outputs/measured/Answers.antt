-- `measured` meets its contract.
use native.Mathlib.Omega.{arith}
use Rattle.salvage.proofs.Measuring.{counted_start, added_small, text_room_lem, list_room_lem, counted_on, text_all, list_all, text_room_last, list_room_last}
use Rattle.salvage.proofs.outputs.measured.Goals as goal

pub loop-c-init : goal.loop-c-init
loop-c-init c = counted_start c.args.bytes.now c.fresh-line.result c.fresh-line.ensures

pub size-text-requires : goal.size-text-requires
size-text-requires c = added_small c.loop-c.invariant c.requires (omega arith) c.adds.result c.adds.ensures

pub overflow_add-text : goal.overflow_add-text
overflow_add-text c = omega (arith, text_room_lem c.loop-c.invariant c.requires (omega arith) c.adds.result c.size-text.result c.adds.ensures c.size-text.ensures)

pub overflow_add-list : goal.overflow_add-list
overflow_add-list c = omega (arith, list_room_lem c.loop-c.invariant c.requires (omega arith) c.kinds_at.result c.size-list.result c.kinds_at.ensures c.size-list.ensures)

pub loop-c-preserved : goal.loop-c-preserved
loop-c-preserved c =
    counted_on c.loop-c.invariant c.requires (omega arith)
    c.adds.result c.size-text.result c.adds.ensures c.size-text.ensures
    c.kinds_at.result c.size-list.result c.kinds_at.ensures c.size-list.ensures
    c.after-line.result c.after-line.ensures c.number_after-n.result c.number_after-n.ensures

pub overflow_add-result : goal.overflow_add-result
overflow_add-result c = omega (arith, text_room_last c.loop-c.invariant c.requires (omega arith) c.ended.result c.size.result c.ended.ensures c.size.ensures)

pub overflow_add-result-2 : goal.overflow_add-result-2
overflow_add-result-2 c = omega (arith, list_room_last c.loop-c.invariant c.requires (omega arith) c.kinds_last.result c.size-2.result c.kinds_last.ensures c.size-2.ensures)

pub returns : goal.returns
returns c = record { text = text_all c.loop-c.invariant c.requires (omega arith) c.ended.result c.size.result c.ended.ensures c.size.ensures; list = list_all c.loop-c.invariant c.requires (omega arith) c.kinds_last.result c.size-2.result c.kinds_last.ensures c.size-2.ensures }
