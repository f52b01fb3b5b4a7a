-- `Table::key` meets its contract: past the last key stands the rules' key without a name.
use Rattle.std.proofs.Common.{arith}
use Rattle.std.proofs.Math.ListN.{get_or-eq_default}
use Rattle.format.specs.Keys.{keys, no_key}
use Rattle.table.proofs.Table.key.Goals as goal

pub returns-in-None-clause-range : goal.returns-in-None-clause-range
returns-in-None-clause-range c = rw (get_or-eq_default keys no_key c.in-None.ensures)
