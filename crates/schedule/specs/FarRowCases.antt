-- Worked cases of R-10: rows at and past the stop of a settled walk. They are computed in proofs/FarRowCases.antt.
use Rattle.std.specs.Prelude.{List, [], ◌∷◌, ℕ}
use Rattle.schedule.specs.Table.{Table}
use Rattle.schedule.specs.Walk.{Running}
use Rattle.schedule.specs.Described.{table, graph, alone, one, chain}
use Rattle.schedule.specs.WalkCases.{run}

-- a table, the stop of its walk, the instant asked and the row there
pub record FarCase : Type 0 where
  pub table : Table
  pub stop : ℕ
  pub at : ℕ
  pub shows : List Running

abbrev pub far : Table → ℕ → ℕ → List Running → FarCase
far T u t xs = record { table = T; stop = u; at = t; shows = xs }

-- periods 2 and 4 in a hyperperiod of 4, the second graph from 3 on; the walk settles at 7
abbrev pub two_periods : Table
two_periods = table 2 5 (graph 2 0 (one 1 1) ∷ graph 4 3 (one 2 1) ∷ [])

unfoldable pub far_cases : List FarCase
far_cases =
    -- the 1 and 1 chain, whose last round is the ticks 4 to 7
    far (alone 1 5 4 (chain 1 1)) 8 8 (run 1 1 3 3 ∷ [])
    ∷ far (alone 1 5 4 (chain 1 1)) 8 9 (run 1 2 3 2 ∷ [])
    ∷ far (alone 1 5 4 (chain 1 1)) 8 15 []
    ∷ far (alone 1 5 4 (chain 1 1)) 8 16 (run 1 1 5 5 ∷ [])
    ∷ far (alone 1 5 4 (chain 1 1)) 8 4000000000 (run 1 1 1000000001 1000000001 ∷ [])
    -- a number goes on by the periods of its own graph
    ∷ far two_periods 7 8 (run 1 1 5 5 ∷ run 2 1 2 2 ∷ [])
    ∷ far two_periods 7 12 (run 1 1 7 7 ∷ run 2 1 3 3 ∷ [])
    ∷ []

-- the same rows by the schedule itself, as far as it is walked without end
unfoldable pub near_cases : List FarCase
near_cases =
    far (alone 1 5 4 (chain 1 1)) 8 8 (run 1 1 3 3 ∷ [])
    ∷ far (alone 1 5 4 (chain 1 1)) 8 9 (run 1 2 3 2 ∷ [])
    ∷ far (alone 1 5 4 (chain 1 1)) 8 16 (run 1 1 5 5 ∷ [])
    ∷ far two_periods 7 8 (run 1 1 5 5 ∷ run 2 1 2 2 ∷ [])
    ∷ far two_periods 7 12 (run 1 1 7 7 ∷ run 2 1 3 3 ∷ [])
    ∷ []
