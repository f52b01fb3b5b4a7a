-- `Key::entry` meets its contract: the constant table has at each place what the rules' list has there.
use Rattle.format.specs.Keys.{keys}
use Rattle.table.proofs.Keys.{which, processors, rounds, graphs, period, offset, nodes, budget, level, after, limit}
use Rattle.table.proofs.Key.entry.Goals as goal

pub returns-clause-name : goal.returns-clause-name
unfolding keys
returns-clause-name c =
    elim (which c.args.self) [
      | processors e ↦ rw e
      | rounds e ↦ rw e
      | graphs e ↦ rw e
      | period e ↦ rw e
      | offset e ↦ rw e
      | nodes e ↦ rw e
      | budget e ↦ rw e
      | level e ↦ rw e
      | after e ↦ rw e
      | limit e ↦ rw e
    ]

pub returns-clause-range : goal.returns-clause-range
unfolding keys
returns-clause-range c =
    elim (which c.args.self) [
      | processors e ↦ rw e
      | rounds e ↦ rw e
      | graphs e ↦ rw e
      | period e ↦ rw e
      | offset e ↦ rw e
      | nodes e ↦ rw e
      | budget e ↦ rw e
      | level e ↦ rw e
      | after e ↦ rw e
      | limit e ↦ rw e
    ]
