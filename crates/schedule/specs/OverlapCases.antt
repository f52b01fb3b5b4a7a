-- Worked cases of R-8: which jobs of a node run, and which start, in each tick from 0 on. They are computed in proofs/OverlapCases.antt.
use Rattle.std.specs.Prelude.{◌&&◌, cond, List, [], ◌∷◌, ℕ, eqb}
use Rattle.schedule.specs.Table.{Table}
use Rattle.schedule.specs.Described.{alone, node, one, chain}

-- node v of the first graph, by what its jobs need; each entry of a list is a tick
pub record OverlapCase : Type 0 where
  pub table : Table
  pub need : ℕ → ℕ → ℕ
  pub node : ℕ
  pub run : List (List ℕ)
  pub start : List (List ℕ)

abbrev pub jobs : Table → (ℕ → ℕ → ℕ) → ℕ → List (List ℕ) → List (List ℕ) → OverlapCase
jobs T need v run start = record { table = T; need = need; node = v; run = run; start = start }

-- every job needs n ticks
abbrev pub each : ℕ → ℕ → ℕ → ℕ
each n i j = n

-- job 1 of node 1 needs 4 ticks, every other job 1
abbrev pub slow_first : ℕ → ℕ → ℕ
slow_first i j = cond (eqb i 0 && eqb j 1) 4 1

abbrev pub none : List ℕ
none = []

abbrev pub only : ℕ → List ℕ
only j = j ∷ []

unfoldable pub overlap_cases : List OverlapCase
overlap_cases =
    -- budget 3, period 2: at level 2 the jobs overlap
    jobs (alone 2 5 2 (one 3 2)) (each 3) 1 (only 1 ∷ only 1 ∷ (1 ∷ 2 ∷ []) ∷ only 2 ∷ (2 ∷ 3 ∷ []) ∷ only 3 ∷ [])
    (only 1 ∷ none ∷ only 2 ∷ none ∷ only 3 ∷ none ∷ [])
    -- at level 1 job 2, released at 2, starts at 3, when job 1 has finished
    ∷ jobs (alone 2 5 2 (one 3 1)) (each 3) 1 (only 1 ∷ only 1 ∷ only 1 ∷ only 2 ∷ only 2 ∷ only 2 ∷ [])
    (only 1 ∷ none ∷ none ∷ only 2 ∷ none ∷ none ∷ [])
    -- a job that has the ticks it needs does not run, though its server job does: job 2 starts no sooner for it
    ∷ jobs (alone 2 5 2 (one 3 1)) (each 1) 1 (only 1 ∷ none ∷ none ∷ only 2 ∷ none ∷ none ∷ [])
    (only 1 ∷ none ∷ none ∷ only 2 ∷ none ∷ none ∷ [])
    -- an unlinked server job runs for no job: at 1 server job 1 of node 2, at 5 server job 2 for job 1
    ∷ jobs (alone 1 5 4 (chain 1 1)) (each 1) 2 (none ∷ none ∷ none ∷ none ∷ none ∷ only 1 ∷ [])
    (none ∷ none ∷ none ∷ none ∷ none ∷ only 1 ∷ [])
    -- at level 2 job 2 overtakes job 1, and job 3 waits for job 1
    ∷ jobs (alone 3 5 2 (node 4 2 [] ∷ node 1 1 (1 ∷ []) ∷ [])) slow_first 1
    (only 1 ∷ only 1 ∷ (1 ∷ 2 ∷ []) ∷ only 1 ∷ only 3 ∷ none ∷ only 4 ∷ none ∷ [])
    (only 1 ∷ none ∷ only 2 ∷ none ∷ only 3 ∷ none ∷ only 4 ∷ none ∷ [])
    -- the jobs of node 2 stay in number order, though both are released by 4
    ∷ jobs (alone 3 5 2 (node 4 2 [] ∷ node 1 1 (1 ∷ []) ∷ [])) slow_first 2
    (none ∷ none ∷ none ∷ none ∷ only 1 ∷ none ∷ only 2 ∷ none ∷ [])
    (none ∷ none ∷ none ∷ none ∷ only 1 ∷ none ∷ only 2 ∷ none ∷ [])
    ∷ []
