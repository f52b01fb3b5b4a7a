-- `put_numbered` meets its contract: the answer goes where the line before it ended.
use Prim.Native.Nat.{◌<◌}
use native.Mathlib.Omega.{arith}
use Rattle.format.specs.Bytes.{bytes}
use Rattle.printing.proofs.Batches.{line_short, starts, rest_room, whole}
use borrow.Author.Rules.{rules}
use Rattle.printing.proofs.batching.put_numbered.Goals as goal

pub put_line-at-requires : goal.put_line-at-requires
put_line-at-requires c =
    omega (arith, line_short (bytes "table") c.args.number ((let it : c.args.number < 4294967296 = search rules in it)), c.requires)

pub slice_bounds-put_answer-count : goal.slice_bounds-put_answer-count
slice_bounds-put_answer-count c =
    starts c.args.number ((let it : c.args.number < 4294967296 = search rules in it)) c.requires c.put_line-at.ensures

pub put_answer-requires : goal.put_answer-requires
put_answer-requires c =
    let room = rest_room c.args.number ((let it : c.args.number < 4294967296 = search rules in it)) c.requires c.put_line-at.ensures in
    record { longest_row_in_bounds = room; q_in_bounds = omega (arith, room) }

pub overflow_add-result : goal.overflow_add-result
overflow_add-result c =
    let w = whole c.args.number ((let it : c.args.number < 4294967296 = search rules in it)) c.requires c.put_line-at.ensures c.put_answer.ensures.written c.put_answer.ensures.upper_bound in
    search (rules, w.1)

pub returns : goal.returns
returns c = let r = (whole c.args.number ((let it : c.args.number < 4294967296 = search rules in it)) c.requires c.put_line-at.ensures c.put_answer.ensures.written c.put_answer.ensures.upper_bound) in record { written = r.0; upper_bound = r.1 }
