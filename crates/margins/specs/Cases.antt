-- Worked cases of document 02's R-12: what is printed of a table and its limits, in which text a refusal stands, and calls with a lent
-- buffer. They are computed in proofs/Cases.antt.
use Rattle.std.specs.Prelude.{Bool, true, false, List, [], ◌∷◌, ◌++◌, ℕ, replicate, Ok, Err}
use Prim.Native.String.{String}
use Rattle.format.specs.declared.Refusal.{Refusal}
use Rattle.format.specs.declared.Refusal.TheVariants.{TooLong, Misspelled, OutsideLimits, Unsettled, ShortBuffer}
use Rattle.format.specs.Bytes.{bytes, line_feed}
use Rattle.schedule.specs.Walk.{Stop, unsettled, backlog}
use Rattle.rules.specs.Answers.{Call}
use Rattle.rules.specs.Cases.{chain_1_1, chain_1_1_in_1_round, chain_3_2, two_graphs_lem, eight_every_1, lent}

pub record MarginCase : Type 0 where
  pub table : String
  pub limits : List ℕ
  pub prints : String
  pub in_limits : Bool

-- of the table, or answered
abbrev pub prints : String → String → String → MarginCase
prints T l s = record { table = T; limits = bytes l; prints = s; in_limits = false }

-- refused in the limit text
abbrev pub faults : String → String → String → MarginCase
faults T l s = record { table = T; limits = bytes l; prints = s; in_limits = true }

-- a text of n line feeds
abbrev pub feeds : ℕ → String → MarginCase
feeds n s = record { table = chain_1_1; limits = replicate n line_feed; prints = s; in_limits = true }

unfoldable pub margin_cases : List MarginCase
margin_cases =
    -- the response is 6: the limit met, one tick over, and far from it
    prints chain_1_1 "limit=6\n" "answer=0\nround=2\nticks=8\nresponse=6\nmargin=0\n"
    ∷ prints chain_1_1 "limit=5\n" "answer=0\nround=2\nticks=8\nresponse=6\nmargin=-1\n"
    ∷ prints chain_1_1 "limit=7\n" "answer=0\nround=2\nticks=8\nresponse=6\nmargin=1\n"
    -- the least and the largest limit
    ∷ prints chain_1_1 "limit=0\n" "answer=0\nround=2\nticks=8\nresponse=6\nmargin=-6\n"
    ∷ prints chain_1_1 "limit=2000000\n" "answer=0\nround=2\nticks=8\nresponse=6\nmargin=1999994\n"
    -- a margin after each response, in the order of the graphs
    ∷ prints two_graphs_lem "limit=11\nlimit=1\n" "answer=0\nround=1\nticks=4\nresponse=1\nmargin=10\nresponse=2\nmargin=-1\n"
    -- refusals of the limit text, with line and column in it
    ∷ faults chain_1_1 "" "answer=2\nline=1\ncolumn=1\n"
    ∷ faults chain_1_1 "limit=6" "answer=2\nline=1\ncolumn=8\n"
    ∷ faults chain_1_1 "limit=06\n" "answer=2\nline=1\ncolumn=8\n"
    ∷ faults chain_1_1 "limit=-1\n" "answer=2\nline=1\ncolumn=7\n"
    ∷ faults chain_1_1 "level=1\n" "answer=2\nline=1\ncolumn=2\n"
    ∷ faults chain_1_1 "limit=2000001\n" "answer=3\nline=1\ncolumn=7\n"
    -- a line too few, and one too many
    ∷ faults two_graphs_lem "limit=11\n" "answer=2\nline=2\ncolumn=1\n"
    ∷ faults chain_1_1 "limit=6\nlimit=6\n" "answer=2\nline=2\ncolumn=1\n"
    -- in line order, 3 on line 1 before 2 on line 2
    ∷ faults two_graphs_lem "limit=2000001\nlimit\n" "answer=3\nline=1\ncolumn=7\n"
    -- 1, above 4,096 bytes, before all else of this text
    ∷ feeds 4096 "answer=2\nline=1\ncolumn=1\n"
    ∷ feeds 4097 "answer=1\nline=0\ncolumn=0\n"
    -- the table's own come first, 8 and 12 included
    ∷ prints "" "" "answer=2\nline=1\ncolumn=1\n"
    ∷ prints chain_3_2 "" "answer=6\nline=0\ncolumn=0\n"
    ∷ prints eight_every_1 "" "answer=12\nline=0\ncolumn=0\n"
    ∷ prints chain_1_1_in_1_round "" "answer=8\nline=0\ncolumn=0\n"
    ∷ []

-- 7 and 8 of a walk, before a limit text that would be refused
unfoldable pub stop_cases : List Stop
stop_cases = backlog ∷ unsettled ∷ []

-- calls with a lent buffer, whose bytes are all 255
pub record CallCase : Type 0 where
  pub table : String
  pub limits : String
  pub room : ℕ
  pub gives : Call

abbrev pub leaves : String → String → ℕ → Refusal → CallCase
leaves T l n r = record { table = T; limits = l; room = n; gives = record { answer = Err r; buffer = lent n } }

abbrev pub writes : String → String → ℕ → ℕ → String → ℕ → CallCase
writes T l room n s more = record { table = T; limits = l; room = room; gives = record { answer = Ok n; buffer = bytes s ++ lent more } }

unfoldable pub call_cases : List CallCase
call_cases =
    -- the text is 45 bytes long
    leaves chain_1_1 "limit=6\n" 44 ShortBuffer
    ∷ writes chain_1_1 "limit=6\n" 45 45 "answer=0\nround=2\nticks=8\nresponse=6\nmargin=0\n" 0
    ∷ writes chain_1_1 "limit=6\n" 48 45 "answer=0\nround=2\nticks=8\nresponse=6\nmargin=0\n" 3
    -- 10 comes last, and a refusal changes no byte
    ∷ leaves chain_1_1 "" 0 (Misspelled 1 1)
    ∷ leaves chain_1_1 "limit=2000001\n" 50 (OutsideLimits 1 7)
    ∷ leaves chain_1_1_in_1_round "limit=6\n" 0 Unsettled
    ∷ []
