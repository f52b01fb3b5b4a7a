-- `put_fixes` meets its contract, by what the call answered.
use Rattle.printouts.proofs.Outputs.{list_printed, list_refused}
use Rattle.printouts.proofs.put_fixes.Goals as goal

pub returns-in-Ok : goal.returns-in-Ok
returns-in-Ok c =
    list_printed c.args.bytes.now _ _ _ _ c.requires.to_in_bounds c.requires.longest_list_in_bounds _ (rw c.in-Ok.is at c.salvage.ensures)

pub returns-in-Err : goal.returns-in-Err
returns-in-Err c =
    list_refused c.args.bytes.now _ _ _ _ c.requires.to_in_bounds c.requires.longest_list_in_bounds _ _ _ _ (rw c.in-Err.is at c.salvage.ensures) c.refusal_length-n.ensures.size c.put_refusal.ensures
