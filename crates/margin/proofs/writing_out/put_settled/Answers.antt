-- `put_settled` meets its contract: the text does not fit, and nothing is written; or it is written.
use Rattle.sheet.proofs.CallLaws.{short_call, written_call}
use Rattle.margin.proofs.writing_out.put_settled.Goals as goal

pub returns-then-buffer-n : goal.returns-then-buffer-n
returns-then-buffer-n c = short_call _ _ (rw c.margins_length-n.ensures.size at c.if-buffer-n.true)

pub returns : goal.returns
returns c =
    written_call _ _ _ _ _ c.margins_length-n.ensures.size
    (rw c.margins_length-n.ensures.size at c.if-buffer-n.false) c.put_margins.ensures
