-- Worked cases of admission, of the order of the refusals, of answers and of calls with a lent buffer. They are computed in proofs/Cases.antt.
use Rattle.std.specs.Prelude.{Bool, true, false, List, [], ◌∷◌, ◌++◌, ℕ, length, replicate, Ok, Err}
use Prim.Native.String.{String}
use Rattle.schedule.specs.Table.{Table}
use Rattle.schedule.specs.Described.{table, graph, alone, one, chain}
use Rattle.schedule.specs.Servers.{Box}
use Rattle.schedule.specs.Walk.{Stop, settled, unsettled, backlog, Walked}
use Rattle.format.specs.declared.Refusal.{Refusal}
use Rattle.format.specs.declared.Refusal.TheVariants.{Misspelled, AgainstPredecessorRules, LongHyperperiod, NotLoadable, Backlog, Unsettled, PastTheStop, ShortBuffer, CannotKeepUp}
use Rattle.format.specs.Bytes.{bytes}
use Rattle.rules.specs.Admission.{Admission, admitted, refused}
use Rattle.rules.specs.Answers.{Answer, Reply, report_admitted, row_admitted, Call}

-- admission: H at its limit and past it, the load full and past it, a budget at level × period and past it; and 5 before 6 before 12
pub record AdmissionCase : Type 0 where
  pub table : Table
  pub gives : Table → Admission

abbrev pub admits : Table → AdmissionCase
admits T = record { table = T; gives = admitted }

abbrev pub refuses : Table → Refusal → AdmissionCase
refuses T r = record { table = T; gives = λ (X : Table). refused r }

abbrev pub two_periods : ℕ → ℕ → ℕ → Table
two_periods p q budget = table 1 1 (graph p 0 (one budget 1) ∷ graph q 0 (one 1 1) ∷ [])

unfoldable pub admissions : List AdmissionCase
admissions =
    admits (two_periods 4000 10000 1)
    ∷ refuses (two_periods 177 113 1) LongHyperperiod
    ∷ refuses (two_periods 10000 6667 1) LongHyperperiod
    ∷ admits (alone 1 1 4 (chain 2 2))
    ∷ refuses (alone 1 1 4 (chain 3 2)) NotLoadable
    ∷ admits (alone 1 1 4 (one 4 1))
    ∷ admits (alone 2 1 2 (one 4 2))
    ∷ refuses (alone 2 1 2 (one 3 1)) CannotKeepUp
    ∷ refuses (alone 3 1 2 (one 5 2)) CannotKeepUp
    -- both 5 and 6 hold; both 5 and 12; both 6 and 12
    ∷ refuses (two_periods 177 113 177) LongHyperperiod
    ∷ refuses (table 8 1 (graph 177 0 (one 178 1) ∷ graph 113 0 (one 1 1) ∷ [])) LongHyperperiod
    ∷ refuses (alone 1 1 2 (one 3 1)) NotLoadable
    ∷ []

-- 12 before 7 and 8: both hold of these tables, for so would their walks stop
pub record Overtaken : Type 0 where
  pub table : Table
  pub how : Stop
  pub ticks : ℕ

abbrev pub overtakes : Table → Stop → ℕ → Overtaken
overtakes T how ticks = record { table = T; how = how; ticks = ticks }

unfoldable pub overtaken : List Overtaken
overtaken = overtakes (alone 8 64 1 (one 8 1)) backlog 18 ∷ overtakes (alone 8 6 1 (one 8 1)) unsettled 6 ∷ []

-- tables of one graph as text: processors, rounds, period, and the nodes' lines
abbrev pub node_1_every_4 : String
node_1_every_4 = "processors=1\nrounds=64\ngraphs=1\nperiod=4\noffset=0\nnodes=1\nbudget=1\nlevel=1\nafter=none\n"

abbrev pub chain_1_1 : String
chain_1_1 = "processors=1\nrounds=64\ngraphs=1\nperiod=4\noffset=0\nnodes=2\nbudget=1\nlevel=1\nafter=none\nbudget=1\nlevel=1\nafter=1\n"

abbrev pub chain_1_1_in_1_round : String
chain_1_1_in_1_round = "processors=1\nrounds=1\ngraphs=1\nperiod=4\noffset=0\nnodes=2\nbudget=1\nlevel=1\nafter=none\nbudget=1\nlevel=1\nafter=1\n"

abbrev pub chain_3_2 : String
chain_3_2 = "processors=1\nrounds=64\ngraphs=1\nperiod=4\noffset=0\nnodes=2\nbudget=3\nlevel=1\nafter=none\nbudget=2\nlevel=1\nafter=1\n"

abbrev pub chain_4_4 : String
chain_4_4 = "processors=2\nrounds=64\ngraphs=1\nperiod=4\noffset=0\nnodes=2\nbudget=4\nlevel=1\nafter=none\nbudget=4\nlevel=1\nafter=1\n"

abbrev pub two_graphs_lem : String
two_graphs_lem = "processors=1\nrounds=64\ngraphs=2\nperiod=4\noffset=0\nnodes=1\nbudget=1\nlevel=1\nafter=none\nperiod=4\noffset=0\nnodes=1\nbudget=1\nlevel=1\nafter=none\n"

abbrev pub long_hyperperiod : String
long_hyperperiod = "processors=1\nrounds=1\ngraphs=2\nperiod=10000\noffset=0\nnodes=1\nbudget=1\nlevel=1\nafter=none\nperiod=6667\noffset=0\nnodes=1\nbudget=1\nlevel=1\nafter=none\n"

abbrev pub long_hyperperiod_against_4 : String
long_hyperperiod_against_4 = "processors=1\nrounds=1\ngraphs=2\nperiod=10000\noffset=0\nnodes=1\nbudget=1\nlevel=1\nafter=none\nperiod=6667\noffset=0\nnodes=1\nbudget=1\nlevel=1\nafter=1\n"

-- one server job of 8 ticks is released in each tick, and none runs beside another: the first of `overtaken`. And the same on one processor
abbrev pub eight_every_1 : String
eight_every_1 = "processors=8\nrounds=64\ngraphs=1\nperiod=1\noffset=0\nnodes=1\nbudget=8\nlevel=1\nafter=none\n"

abbrev pub eight_every_1_on_1 : String
eight_every_1_on_1 = "processors=1\nrounds=64\ngraphs=1\nperiod=1\noffset=0\nnodes=1\nbudget=8\nlevel=1\nafter=none\n"

-- what is asked of a table
pub data Asked : Type 0 where
  report : Asked
  row : ℕ → Asked

module _ (walk : Box → Walked) where
  abbrev pub reply_to : Asked → Admission → Reply
  reply_to report a = report_admitted walk a
  reply_to (row t) a = row_admitted walk t a

pub record PrintCase : Type 0 where
  pub table : String
  pub asked : Asked
  pub prints : String

abbrev pub prints : String → Asked → String → PrintCase
prints T q s = record { table = T; asked = q; prints = s }

unfoldable pub print_cases : List PrintCase
print_cases =
    prints node_1_every_4 report "answer=0\nround=1\nticks=4\nresponse=1\n"
    ∷ prints chain_1_1 report "answer=0\nround=2\nticks=8\nresponse=6\n"
    ∷ prints two_graphs_lem report "answer=0\nround=1\nticks=4\nresponse=1\nresponse=2\n"
    -- refusals print their number, line and column
    ∷ prints "" report "answer=2\nline=1\ncolumn=1\n"
    ∷ prints "processors=1\nrounds=0\n" report "answer=3\nline=2\ncolumn=8\n"
    -- what reading refuses comes before a long hyperperiod
    ∷ prints long_hyperperiod report "answer=5\nline=0\ncolumn=0\n"
    ∷ prints long_hyperperiod_against_4 report "answer=4\nline=15\ncolumn=7\n"
    ∷ prints chain_3_2 report "answer=6\nline=0\ncolumn=0\n"
    ∷ prints eight_every_1_on_1 report "answer=6\nline=0\ncolumn=0\n"
    ∷ prints eight_every_1 report "answer=12\nline=0\ncolumn=0\n"
    ∷ prints chain_1_1_in_1_round report "answer=8\nline=0\ncolumn=0\n"
    -- rows: a line for each running server job; none in an idle tick
    ∷ prints chain_1_1 (row 1) "run=1,2,1,0\n"
    ∷ prints chain_1_1 (row 5) "run=1,2,2,1\n"
    ∷ prints chain_1_1 (row 2) ""
    ∷ prints chain_4_4 (row 4) "run=1,1,2,2\nrun=1,2,2,1\n"
    -- at or past the stop of a settled walk: round 2 again, numbers moved on
    ∷ prints chain_1_1 (row 7) ""
    ∷ prints chain_1_1 (row 8) "run=1,1,3,3\n"
    ∷ prints chain_1_1 (row 9) "run=1,2,3,2\n"
    ∷ prints chain_1_1 (row 15) ""
    ∷ prints chain_1_1 (row 16) "run=1,1,5,5\n"
    -- above the limit of an instant. (At it: crate worked)
    ∷ prints chain_1_1 (row 4000000001) "answer=9\nline=0\ncolumn=0\n"
    ∷ prints chain_1_1_in_1_round (row 4000000001) "answer=9\nline=0\ncolumn=0\n"
    -- before the stop also where the report gives 7 or 8, and not at it
    ∷ prints chain_1_1_in_1_round (row 0) "run=1,1,1,1\n"
    ∷ prints chain_1_1_in_1_round (row 3) ""
    ∷ prints chain_1_1_in_1_round (row 4) "answer=9\nline=0\ncolumn=0\n"
    ∷ prints chain_1_1_in_1_round (row 4000000000) "answer=9\nline=0\ncolumn=0\n"
    -- the table's own refusals come first, also for rows that the walk would show, and before 9
    ∷ prints chain_3_2 (row 9) "answer=6\nline=0\ncolumn=0\n"
    ∷ prints eight_every_1_on_1 (row 0) "answer=6\nline=0\ncolumn=0\n"
    ∷ prints eight_every_1 (row 17) "answer=12\nline=0\ncolumn=0\n"
    ∷ prints eight_every_1 (row 18) "answer=12\nline=0\ncolumn=0\n"
    ∷ []

-- the report of each way to stop. (A table whose own walk stops with backlog: crates worked and answers)
pub record StopCase : Type 0 where
  pub how : Stop
  pub prints : String

abbrev pub reports : Stop → String → StopCase
reports how s = record { how = how; prints = s }

unfoldable pub stop_cases : List StopCase
stop_cases =
    reports (settled 2) "answer=0\nround=2\nticks=8\nresponse=6\n"
    ∷ reports backlog "answer=7\nline=0\ncolumn=0\n"
    ∷ reports unsettled "answer=8\nline=0\ncolumn=0\n"
    ∷ []

-- calls with a lent buffer, whose bytes are all 255
pub record CallCase : Type 0 where
  pub table : String
  pub asked : Asked
  pub room : ℕ
  pub gives : Call

abbrev pub lent : ℕ → List ℕ
lent n = replicate n 255

-- the text, then `more` bytes as they were
abbrev pub writes : String → Asked → String → ℕ → CallCase
writes T q s more =
    let n : ℕ = length (bytes s) in
    record { table = T; asked = q; room = length (bytes s ++ lent more); gives = record { answer = Ok n; buffer = bytes s ++ lent more } }

-- a refusal, and the buffer as it was
abbrev pub leaves : String → Asked → ℕ → Refusal → CallCase
leaves T q n r = record { table = T; asked = q; room = n; gives = record { answer = Err r; buffer = lent n } }

unfoldable pub call_cases : List CallCase
call_cases =
    -- the text is 36 bytes long
    leaves node_1_every_4 report 0 ShortBuffer
    ∷ leaves node_1_every_4 report 35 ShortBuffer
    ∷ writes node_1_every_4 report "answer=0\nround=1\nticks=4\nresponse=1\n" 0
    ∷ writes node_1_every_4 report "answer=0\nround=1\nticks=4\nresponse=1\n" 1
    ∷ writes node_1_every_4 report "answer=0\nround=1\nticks=4\nresponse=1\n" 9
    -- two lines of 12 bytes; an idle tick has text of length 0, and needs no room
    ∷ leaves chain_4_4 (row 4) 23 ShortBuffer
    ∷ writes chain_4_4 (row 4) "run=1,1,2,2\nrun=1,2,2,1\n" 0
    ∷ writes chain_4_4 (row 4) "run=1,1,2,2\nrun=1,2,2,1\n" 3
    ∷ writes chain_1_1 (row 2) "" 0
    ∷ writes chain_1_1 (row 2) "" 4
    -- every other refusal comes before 10, and a buffer that is long enough changes none
    ∷ leaves "" report 0 (Misspelled 1 1)
    ∷ leaves chain_3_2 report 0 NotLoadable
    ∷ leaves eight_every_1 report 0 CannotKeepUp
    ∷ leaves eight_every_1 (row 0) 0 CannotKeepUp
    ∷ leaves chain_1_1_in_1_round report 0 Unsettled
    ∷ leaves chain_1_1_in_1_round (row 4) 0 PastTheStop
    ∷ leaves chain_1_1_in_1_round report 50 Unsettled
    ∷ leaves chain_1_1_in_1_round (row 4) 50 PastTheStop
    ∷ leaves chain_1_1 (row 8) 11 ShortBuffer
    ∷ writes chain_1_1 (row 8) "run=1,1,3,3\n" 0
    ∷ []

-- an answer's number, line, column and length
pub record AnswerCase : Type 0 where
  pub answer : Answer
  pub number : ℕ
  pub line : ℕ
  pub column : ℕ
  pub length : ℕ

abbrev pub told : Answer → ℕ → ℕ → ℕ → ℕ → AnswerCase
told a n l c k = record { answer = a; number = n; line = l; column = c; length = k }

unfoldable pub answer_cases : List AnswerCase
answer_cases =
    told (Ok 36) 0 0 0 36
    ∷ told (Ok 0) 0 0 0 0
    ∷ told (Err (AgainstPredecessorRules 12 9)) 4 12 9 0
    ∷ told (Err Backlog) 7 0 0 0
    ∷ told (Err CannotKeepUp) 12 0 0 0
    ∷ []

-- the ticks told of a row in a lent buffer: the smaller of the instant and the stop, and 0 on a refusal
pub record TicksCase : Type 0 where
  pub table : String
  pub at : ℕ
  pub room : ℕ
  pub ticks : ℕ

abbrev pub walks : String → ℕ → ℕ → ℕ → TicksCase
walks T t n k = record { table = T; at = t; room = n; ticks = k }

unfoldable pub ticks_cases : List TicksCase
ticks_cases =
    walks chain_1_1 0 12 0
    ∷ walks chain_1_1 2 12 2
    ∷ walks chain_1_1 7 12 7
    ∷ walks chain_1_1 8 12 8
    ∷ walks chain_1_1 9 12 8
    ∷ walks chain_1_1 9 11 0
    ∷ walks chain_1_1 4000000001 12 0
    ∷ walks chain_1_1_in_1_round 3 0 3
    ∷ walks chain_1_1_in_1_round 4 12 0
    ∷ walks chain_3_2 1 12 0
    ∷ walks "" 1 12 0
    ∷ []

-- whether there is a row: how a walk stopped, after how many ticks, and the instant asked
pub record HasCase : Type 0 where
  pub how : Stop
  pub ticks : ℕ
  pub at : ℕ
  pub has : Bool

abbrev pub has : Stop → ℕ → ℕ → Bool → HasCase
has how ticks t b = record { how = how; ticks = ticks; at = t; has = b }

unfoldable pub has_cases : List HasCase
has_cases =
    has (settled 2) 8 7 true
    ∷ has (settled 2) 8 8 true
    ∷ has (settled 2) 8 4000000000 true
    ∷ has (settled 2) 8 4000000001 false
    ∷ has unsettled 8 7 true
    ∷ has unsettled 8 8 false
    ∷ has unsettled 8 4000000000 false
    ∷ has backlog 8 7 true
    ∷ has backlog 8 8 false
    ∷ []
