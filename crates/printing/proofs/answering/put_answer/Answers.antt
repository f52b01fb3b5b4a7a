-- `put_answer` meets its contract, by what the call answered.
use Rattle.printing.proofs.Printed.{text_printed, text_short, refusal_printed, refusal_short}
use Rattle.printing.proofs.answering.put_answer.Goals as goal

pub returns-in-Ok : goal.returns-in-Ok
returns-in-Ok c =
    let room = c.requires.q_in_bounds in
    record {
      written = text_printed c.args.q c.args.table.now _ _ room _ c.in-Ok.ensures;
      upper_bound = text_short c.args.q c.args.table.now _ _ room _ c.in-Ok.ensures;
    }

pub returns-in-Err : goal.returns-in-Err
returns-in-Err c =
    record {
      written =
          refusal_printed c.args.q c.args.table.now _ _ c.requires.q_in_bounds _ _ _ _ c.in-Err.ensures c.refusal_length-n.ensures.size
          c.put_refusal.ensures;
      upper_bound = refusal_short c.args.q _ c.refusal_length-n.ensures.within;
    }
