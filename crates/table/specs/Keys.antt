-- The place of a key in the rules' list.
use Rattle.std.specs.Prelude.{ℕ}
use Rattle.format.specs.Keys as Rules
use Rattle.table.specs.declared.Key.{Key}
use Rattle.table.specs.declared.Key.TheVariants.{Processors, Rounds, Graphs, Period, Offset, Nodes, Budget, Level, After, Limit}

abbrev pub place : Key → ℕ
place Processors = Rules.processors
place Rounds = Rules.rounds
place Graphs = Rules.graphs
place Period = Rules.period
place Offset = Rules.offset
place Nodes = Rules.nodes
place Budget = Rules.budget
place Level = Rules.level
place After = Rules.after
place Limit = Rules.limit
