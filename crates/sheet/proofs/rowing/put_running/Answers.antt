-- `put_running` meets its contract: the text does not fit, and nothing is written; or it is written.
use Rattle.sheet.proofs.CallLaws.{short_call, written_call}
use Rattle.sheet.proofs.rowing.put_running.Goals as goal

pub returns-then-buffer-n : goal.returns-then-buffer-n
returns-then-buffer-n c = short_call _ _ (rw c.row_length-n.ensures.size at c.if-buffer-n.true)

pub returns : goal.returns
returns c =
    written_call _ _ _ _ _ c.row_length-n.ensures.size
    (rw c.row_length-n.ensures.size at c.if-buffer-n.false) c.put_row.ensures
