-- `is_batch` meets its contract.
use Rattle.std.proofs.Common.{rules}
use Rattle.rules.specs.Batch.{add_up}
use Rattle.batch.proofs.lengths.is_batch.Goals as goal

pub returns-then-few : goal.returns-then-few
unfolding add_up
returns-then-few c = search rules

pub returns-else-few : goal.returns-else-few
unfolding add_up
returns-else-few c = search rules
