-- Worked cases of writing: document 01's table of 12 lines, and what becomes of it when it breaks a limit or a predecessor rule in memory. They
-- are computed in proofs/Cases.antt.
use Rattle.std.specs.Prelude.{List, [], ◌∷◌, ◌++◌, ℕ}
use Rattle.schedule.specs.Table.{Node, Table}
use Rattle.schedule.specs.Described as Described
use Rattle.format.specs.declared.Refusal.{Refusal}
use Rattle.format.specs.declared.Refusal.TheVariants.{OutsideLimits, AgainstPredecessorRules}
use Rattle.format.specs.Bytes.{bytes}
use Rattle.rules.specs.Answers.{Reply, says, refuses}

-- processors, rounds, period, offset and nodes of one graph
abbrev pub of : ℕ → ℕ → ℕ → ℕ → List Node → Table
of p r period offset xs = Described.table p r (Described.graph period offset xs ∷ [])

-- three nodes, by the lists of the second and the third
abbrev pub three : List ℕ → List ℕ → List Node
three second third = Described.node 1 1 [] ∷ Described.node 1 1 second ∷ Described.node 1 1 third ∷ []

-- one node
abbrev pub ones : List Node
ones = Described.one 1 1

pub record WriteCase : Type 0 where
  pub table : Table
  pub gives : Reply

abbrev pub case : Table → Reply → WriteCase
case t r = record { table = t; gives = r }

unfoldable pub writes : List WriteCase
writes =
    case (of 1 2 4 0 (Described.chain 1 1)) (says (bytes "processors=1\nrounds=2\ngraphs=1\nperiod=4\noffset=0\nnodes=2\nbudget=1\nlevel=1\nafter=none\nbudget=1\nlevel=1\nafter=1\n"))
    ∷ case (of 8 64 10000 10000 (three (1 ∷ []) (1 ∷ 2 ∷ [])))
    (says (bytes "processors=8\nrounds=64\ngraphs=1\nperiod=10000\noffset=10000\nnodes=3\nbudget=1\nlevel=1\nafter=none\nbudget=1\nlevel=1\nafter=1\nbudget=1\nlevel=1\nafter=1,2\n"))
    -- limits, in line order; the load and the hyperperiod are not looked at
    ∷ case (of 0 0 0 0 []) (refuses (OutsideLimits 1 0))
    ∷ case (of 9 65 4 0 ones) (refuses (OutsideLimits 1 0))
    ∷ case (of 8 65 4 0 ones) (refuses (OutsideLimits 2 0))
    ∷ case (Described.table 1 1 []) (refuses (OutsideLimits 3 0))
    ∷ case (of 1 1 0 0 ones) (refuses (OutsideLimits 4 0))
    ∷ case (of 1 1 10001 10001 ones) (refuses (OutsideLimits 4 0))
    ∷ case (of 1 1 4 10001 []) (refuses (OutsideLimits 5 0))
    ∷ case (of 1 1 4 0 []) (refuses (OutsideLimits 6 0))
    ∷ case (of 1 1 4 0 (Described.one 0 9)) (refuses (OutsideLimits 7 0))
    ∷ case (of 1 1 4 0 (Described.one 10001 1)) (refuses (OutsideLimits 7 0))
    ∷ case (of 1 1 4 0 (Described.node 1 5 (1 ∷ []) ∷ [])) (refuses (OutsideLimits 8 0))
    ∷ case (of 1 1 4 0 (Described.one 10000 4))
    (says (bytes "processors=1\nrounds=1\ngraphs=1\nperiod=4\noffset=0\nnodes=1\nbudget=10000\nlevel=4\nafter=none\n"))
    -- the predecessor rules, on the line of the list
    ∷ case (of 1 1 4 0 (Described.node 1 1 (1 ∷ []) ∷ [])) (refuses (AgainstPredecessorRules 9 0))
    ∷ case (of 1 1 4 0 (three [] (1 ∷ 2 ∷ []))) (refuses (AgainstPredecessorRules 12 0))
    ∷ case (of 1 1 4 0 (three (2 ∷ []) (1 ∷ 2 ∷ []))) (refuses (AgainstPredecessorRules 12 0))
    ∷ case (of 1 1 4 0 (three (1 ∷ []) (32 ∷ []))) (refuses (AgainstPredecessorRules 15 0))
    -- a missing successor, on the graph's last line, once that passes and before the next graph
    ∷ case (of 1 1 4 0 (three (1 ∷ []) (1 ∷ []))) (refuses (AgainstPredecessorRules 15 0))
    ∷ case (Described.table 1 1 (Described.graph 4 0 (three (1 ∷ []) (1 ∷ [])) ∷ Described.graph 0 0 [] ∷ [])) (refuses (AgainstPredecessorRules 15 0))
    ∷ []
