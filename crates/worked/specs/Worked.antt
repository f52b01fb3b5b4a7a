-- Document 01's worked tables that are marked *, as document 02 leaves them, in one list, from the bytes of each table; and some more that see
-- a slip which those do not. R-2 changed one: budget 3, level 1, period 2 is 12, where it was 8 with 46 rounds and 7 with 47. R-10 changed
-- another: the row at 8 of the 1 and 1 chain is one of the third round, where it was 9. The test over the list is proved by computation in proofs/Worked.antt.
use Rattle.std.specs.Prelude.{Bool, false, ◌&&◌, not, List, [], ◌∷◌, ℕ, suc, ◌-◌, eqb}
use Prim.Native.String.{String}
use Rattle.format.specs.Bytes.{bytes}
use Rattle.schedule.specs.Lists.{all?, alike, cell}
use Rattle.schedule.specs.Servers.{Box, box_of, srv, whole}
use Rattle.schedule.specs.ServerJobs.{release_of}
use Rattle.schedule.specs.Links.{links, due_by}
use Rattle.schedule.specs.Walk.{Walked, unsettled}
use Rattle.rules.specs.Admission.{Admission, admitted, refused, admission_of}
use Rattle.rules.specs.Answers.{printed, report_admitted, row_admitted}
use Rattle.rules.specs.Cases.{node_1_every_4, chain_1_1, chain_1_1_in_1_round, chain_3_2, chain_4_4, two_graphs_lem}

-- what is said of a table
pub data Statement : Type 0 where
  -- the program prints this text; and this for the row at t
  prints : String → Statement
  prints_row : (t : ℕ) → String → Statement
  -- of node number v of graph 1, job j is released at t, and is linked at t: to server job k, which is released then
  links_at : (v j k t : ℕ) → Statement

pub record Worked : Type 0 where
  pub table : String
  pub says : List Statement

abbrev pub of_box : (Box → Bool) → Admission → Bool
of_box test (refused r) = false
of_box test (admitted T) = test (box_of T)

unfoldable pub linked_in : (v j k t : ℕ) → Box → Bool
linked_in v j k t X =
    not (due_by X.servers X.cap (whole X.servers) (t - 1) (v - 1) j)
    && (due_by X.servers X.cap (whole X.servers) t (v - 1) j
    && (eqb (release_of (srv X.servers (v - 1)) k) t && eqb (cell (links X.servers X.cap (whole X.servers) (suc t)) (v - 1) k) j))

-- what a statement says of a table, by its walk w
abbrev pub said : Walked → Admission → Statement → Bool
said w a (prints text) = alike eqb (printed (report_admitted (λ (X : Box). w) a)) (bytes text)
said w a (prints_row t text) = alike eqb (printed (row_admitted (λ (X : Box). w) t a)) (bytes text)
said w a (links_at v j k t) = of_box (linked_in v j k t) a

-- what a table that is not admitted has for a walk
abbrev pub no_walk : Walked
no_walk = record { how = unsettled; ticks = 0; figures = [] }

module _ (walk : Box → Walked) where
  -- the walk is computed once for all that is said of its table
  abbrev pub all_said : Admission → List Statement → Bool
  all_said (refused r) l = all? (said no_walk (refused r)) l
  all_said (admitted T) l = let w : Walked = walk (box_of T) in all? (said w (admitted T)) l

  abbrev pub holds : Worked → Bool
  holds c = all_said (admission_of (bytes c.table)) c.says

abbrev pub chain_1_1_in_2_rounds : String
chain_1_1_in_2_rounds = "processors=1\nrounds=2\ngraphs=1\nperiod=4\noffset=0\nnodes=2\nbudget=1\nlevel=1\nafter=none\nbudget=1\nlevel=1\nafter=1\n"

abbrev pub chain_2_2 : String
chain_2_2 = "processors=1\nrounds=64\ngraphs=1\nperiod=4\noffset=0\nnodes=2\nbudget=2\nlevel=1\nafter=none\nbudget=2\nlevel=1\nafter=1\n"

abbrev pub level_2 : String
level_2 = "processors=2\nrounds=64\ngraphs=1\nperiod=2\noffset=0\nnodes=1\nbudget=3\nlevel=2\nafter=none\n"

abbrev pub level_1_in_46_rounds : String
level_1_in_46_rounds = "processors=2\nrounds=46\ngraphs=1\nperiod=2\noffset=0\nnodes=1\nbudget=3\nlevel=1\nafter=none\n"

abbrev pub level_1_in_47_rounds : String
level_1_in_47_rounds = "processors=2\nrounds=47\ngraphs=1\nperiod=2\noffset=0\nnodes=1\nbudget=3\nlevel=1\nafter=none\n"

abbrev pub two_offsets : String
two_offsets = "processors=1\nrounds=64\ngraphs=2\nperiod=4\noffset=0\nnodes=1\nbudget=2\nlevel=1\nafter=none\nperiod=8\noffset=1\nnodes=1\nbudget=3\nlevel=1\nafter=none\n"

-- periods that a number of 16, 32 or 64 bits would take for 4: the marked tables do not see digits that wrap
abbrev pub period_2¹⁶+4 : String
period_2¹⁶+4 = "processors=1\nrounds=64\ngraphs=1\nperiod=65540\noffset=0\nnodes=1\nbudget=1\nlevel=1\nafter=none\n"

abbrev pub period_2³²+4 : String
period_2³²+4 = "processors=1\nrounds=64\ngraphs=1\nperiod=4294967300\noffset=0\nnodes=1\nbudget=1\nlevel=1\nafter=none\n"

abbrev pub period_2⁶⁴+4 : String
period_2⁶⁴+4 = "processors=1\nrounds=64\ngraphs=1\nperiod=18446744073709551620\noffset=0\nnodes=1\nbudget=1\nlevel=1\nafter=none\n"

unfoldable pub worked_tables : List Worked
worked_tables =
    record { table = node_1_every_4; says = prints "answer=0\nround=1\nticks=4\nresponse=1\n" ∷ [] }
    ∷ record { table = chain_1_1; says = prints "answer=0\nround=2\nticks=8\nresponse=6\n" ∷ prints_row 1 "run=1,2,1,0\n" ∷ prints_row 5 "run=1,2,2,1\n" ∷ prints_row 2 "" ∷ prints_row 7 "" ∷ prints_row 8 "run=1,1,3,3\n" ∷ prints_row 9 "run=1,2,3,2\n" ∷ prints_row 15 "" ∷ prints_row 16 "run=1,1,5,5\n" ∷ prints_row 4000000001 "answer=9\nline=0\ncolumn=0\n" ∷ [] }
    ∷ record { table = chain_1_1_in_1_round; says = prints "answer=8\nline=0\ncolumn=0\n" ∷ [] }
    ∷ record { table = chain_1_1_in_2_rounds; says = prints "answer=0\nround=2\nticks=8\nresponse=6\n" ∷ [] }
    ∷ record { table = chain_2_2; says = prints "answer=0\nround=2\nticks=8\nresponse=8\n" ∷ [] }
    ∷ record { table = chain_3_2; says = prints "answer=6\nline=0\ncolumn=0\n" ∷ [] }
    ∷ record { table = chain_4_4; says = prints "answer=0\nround=2\nticks=8\nresponse=8\n" ∷ links_at 2 1 2 4 ∷ [] }
    ∷ record { table = level_2; says = prints "answer=0\nround=2\nticks=4\nresponse=3\n" ∷ [] }
    ∷ record { table = level_1_in_46_rounds; says = prints "answer=12\nline=0\ncolumn=0\n" ∷ prints_row 0 "answer=12\nline=0\ncolumn=0\n" ∷ [] }
    ∷ record { table = level_1_in_47_rounds; says = prints "answer=12\nline=0\ncolumn=0\n" ∷ prints_row 92 "answer=12\nline=0\ncolumn=0\n" ∷ [] }
    ∷ record { table = two_graphs_lem; says = prints "answer=0\nround=1\nticks=4\nresponse=1\nresponse=2\n" ∷ [] }
    ∷ record { table = two_offsets; says = prints "answer=0\nround=1\nticks=9\nresponse=2\nresponse=6\n" ∷ [] }
    ∷ record { table = period_2¹⁶+4; says = prints "answer=3\nline=4\ncolumn=8\n" ∷ [] }
    ∷ record { table = period_2³²+4; says = prints "answer=3\nline=4\ncolumn=8\n" ∷ [] }
    ∷ record { table = period_2⁶⁴+4; says = prints "answer=3\nline=4\ncolumn=8\n" ∷ [] }
    ∷ []
