-- `walked` meets its contract: the plan, the offsets and the largest offset are those of the table.
use mathlib.Core.Path.{◌∙◌}
use Rattle.plainlaws.specs.Walks.{walk_of_table}
use Rattle.plain.proofs.walks.walked.Goals as goal

pub returns : goal.returns
unfolding walk_of_table
returns c =
    c.walk_to.ensures ∙ rw (c.plan_of-plan.ensures, c.offsets_of-offsets.ensures, c.largest_offset-origin.ensures)
