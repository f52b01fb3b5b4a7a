-- `Table::fresh` meets its contract: its servers are copies of what `empty_server` ensures.
use Rattle.table.proofs.Table.fresh.Goals as goal

pub returns : goal.returns
returns c = rw c.empty_server-s.ensures
