-- `put_formed` meets its contract: the text is made in its room, and copied where it fits.
use Rattle.std.proofs.Common.{arith}
use Rattle.editing.proofs.CallLaws.{short_call, written_call}
use Rattle.editing.proofs.Editing.{few_graphs, few_nodes, text_within, in_room}
use Rattle.editing.proofs.writes.put_formed.Goals as goal

pub put_table-n-requires : goal.put_table-n-requires
put_table-n-requires c =
    (few_graphs c.args.table c.requires, few_nodes c.args.table c.requires, omega (arith, text_within c.args.table c.requires))

pub returns-then-buffer-n : goal.returns-then-buffer-n
returns-then-buffer-n c = short_call _ _ (rw c.put_table-n.ensures.size at c.if-buffer-n.true)

pub returns : goal.returns
returns c =
    let E = c.put_table-n.ensures in
    written_call _ _ _ _ _ E.size (omega (arith, E.size, c.if-buffer-n.false)) (rw (in_room _ _ _ _ E) at c.put_bytes.ensures)
