-- `shown` meets its contract: the row needs three parts of what a walk shows.
use mathlib.Core.Path.{◌∙◌}
use Rattle.rows.proofs.Entries.{row_seen}
use Rattle.sheet.proofs.rowing.shown.Goals as goal

pub returns : goal.returns
returns c = c.row_of.ensures ∙ row_seen _ _ _
