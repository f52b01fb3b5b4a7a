-- `write` meets its contract: what the judgement says, and then what is written.
use Rattle.std.proofs.Common.{ap, ◌∙◌}
use Rattle.std.proofs.lemmas.Result.{err_from_is_err_and}
use Rattle.rules.specs.Answers.{call_of}
use Rattle.memory.specs.Plain.{table_in}
use Rattle.editing.proofs.CallLaws.{refused_call}
use Rattle.editing.proofs.Editing.{judged_refused, judged_written, judged_formed}
use Rattle.editing.proofs.writes.write.Goals as goal

pub put_formed-requires : goal.put_formed-requires
put_formed-requires c = judged_formed (table_in c.args.table) (rw c.in_ok-table_judged.was at c.table_judged.ensures)

pub returns-in_err-table_judged : goal.returns-in_err-table_judged
returns-in_err-table_judged c =
    let p = err_from_is_err_and c.from_residual.result c.from_residual.ensures.1 in
    rw (p.1, p.2) (refused_call _ _ ∙ ap (call_of _) (judged_refused (table_in c.args.table) _ (rw c.in_err-table_judged.was at c.table_judged.ensures)))

pub returns : goal.returns
returns c = c.put_formed.ensures ∙ ap (call_of _) (judged_written (table_in c.args.table) (rw c.in_ok-table_judged.was at c.table_judged.ensures))
