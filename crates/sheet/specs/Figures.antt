-- The figures that a walk has kept: what `figures_of` computes. For the proof, not for belief.
use Rattle.std.specs.Prelude.{◌||◌, cond, List, ℕ, ◌+◌, ◌-◌, ltb, get_or, replicate}
use Rattle.schedule.specs.Limits as Limits
use Rattle.table.specs.declared.Graph.{Graph}
use Rattle.table.specs.declared.Table.{Table}
use Rattle.table.specs.Fresh.{no_graph}
use Rattle.window.specs.Entries.{places}
use Rattle.window.specs.Loops.{replaced}

abbrev pub sink_of : Graph → ℕ
sink_of g = cond (ltb places g.first || ltb places g.nodes) 0 (g.first + g.nodes - 1)

abbrev pub worst_at : List ℕ → ℕ → ℕ
worst_at worst i = cond (ltb i places) (get_or worst i 0) 0

abbrev pub figure_in : List Graph → List ℕ → ℕ → ℕ
figure_in graph worst g = worst_at worst (sink_of (get_or graph g no_graph))

abbrev pub figures_in : List Graph → List ℕ → List ℕ
figures_in graph worst = replaced (figure_in graph worst) (replicate (Limits.graphs).to 0) (Limits.graphs).to

-- of a table in memory
abbrev pub figure_of : Table → List ℕ → ℕ → ℕ
figure_of table worst = figure_in table.graph worst

abbrev pub figures_of : Table → List ℕ → List ℕ
figures_of table worst = figures_in table.graph worst
