-- `rewrite` meets its contract: what is read, and then what is written of it.
use Rattle.std.proofs.Common.{refl, ap, ◌∙◌}
use Rattle.std.proofs.lemmas.Result.{err_from_is_err_and}
use Rattle.format.specs.Reading.{read_of}
use Rattle.rules.specs.Answers.{call_of}
use Rattle.editing.specs.Editing.{rewrite_of}
use Rattle.editing.proofs.CallLaws.{refused_call}
use Rattle.editing.proofs.Editing.{rewrite_written, rewrite_refuses}
use Rattle.editing.proofs.reads.rewrite.Goals as goal

pub returns-in_err-table : goal.returns-in_err-table
unfolding rewrite_of
returns-in_err-table c =
    let p = err_from_is_err_and c.from_residual.result c.from_residual.ensures.1 in
    rw (p.1, p.2) (refused_call _ _ ∙ ap (call_of _) (rewrite_refuses (read_of c.args.bytes.now) _ (rw c.in_err-table.was at c.read.ensures)))

pub returns : goal.returns
unfolding rewrite_of
returns c =
    let s = c.args.bytes.now in
    c.write.ensures ∙ ap (call_of _) (rewrite_written s (read_of s) _ refl (rw c.in_ok-table.was at c.read.ensures))
