-- Worked cases of reading: a table of 18 lines, and what becomes of it when one of its lines is another text. They are computed in
-- proofs/Cases.antt.
use Rattle.std.specs.Prelude.{cond, List, [], ◌∷◌, ◌++◌, ℕ, ◌+◌, ◌-◌, eqb, get_or}
use Rattle.std.proofs.Math.Option.{Option, none, some}
use Prim.Native.String.{String}
use Rattle.schedule.specs.Lists.{joined}
use Rattle.schedule.specs.Table.{Table}
use Rattle.schedule.specs.Described as Described
use Rattle.format.specs.declared.Refusal.{Refusal}
use Rattle.format.specs.declared.Refusal.TheVariants.{TooLong, Misspelled, OutsideLimits, AgainstPredecessorRules, LongHyperperiod, NotLoadable, Backlog, Unsettled, PastTheStop, ShortBuffer, WrongLengths, CannotKeepUp}
use Rattle.format.specs.Bytes.{bytes, line_feed, decimal}
use Rattle.format.specs.Spelling.{Scan, read, wrong}
use Rattle.format.specs.Reading.{Outcome, refused, done}

-- a chain of two nodes, and a graph of one node
unfoldable pub lines : List String
lines =
    "processors=1"
    ∷ "rounds=2"
    ∷ "graphs=2"
    ∷ "period=4"
    ∷ "offset=0"
    ∷ "nodes=2"
    ∷ "budget=1"
    ∷ "level=1"
    ∷ "after=none"
    ∷ "budget=2"
    ∷ "level=3"
    ∷ "after=1"
    ∷ "period=8"
    ∷ "offset=1"
    ∷ "nodes=1"
    ∷ "budget=3"
    ∷ "level=1"
    ∷ "after=none"
    ∷ []

abbrev pub all_lines : ℕ
all_lines = 18

abbrev pub line_of : ℕ → List ℕ
line_of k = bytes (get_or lines (k - 1) "")

-- the table, with the bytes s for line l and its LF
abbrev pub changed : ℕ → List ℕ → List ℕ
changed l s = joined (λ (k : ℕ). cond (eqb k l) s (line_of k ++ (line_feed ∷ []))) 1 all_lines

-- what is read of it as it stands (it has no line 0)
abbrev pub the_table : Table
the_table =
    Described.table 1 2
    (Described.graph 4 0 (Described.node 1 1 [] ∷ Described.node 2 3 (1 ∷ []) ∷ [])
    ∷ Described.graph 8 1 (Described.one 3 1)
    ∷ [])

abbrev pub refusal_of : Outcome Table → Option Refusal
refusal_of (refused r) = some r
refusal_of (done X p) = none

-- a line's new text, and the refusal that is given then, or none
pub record LineCase : Type 0 where
  pub line : ℕ
  pub text : String
  pub gives : Option Refusal

abbrev pub at : ℕ → String → Option Refusal → LineCase
at l s r = record { line = l; text = s; gives = r }

-- spelling: the key, `=`, the value, LF, and nothing else
unfoldable pub spellings : List LineCase
spellings =
    at 4 "Period=4\n" (some (Misspelled 4 1))
    ∷ at 4 "perio=4\n" (some (Misspelled 4 6))
    ∷ at 4 "periods=4\n" (some (Misspelled 4 7))
    ∷ at 4 "offset=4\n" (some (Misspelled 4 1))
    ∷ at 4 "period:4\n" (some (Misspelled 4 7))
    ∷ at 4 "period==4\n" (some (Misspelled 4 8))
    ∷ at 4 "period4\n" (some (Misspelled 4 7))
    ∷ at 4 " period=4\n" (some (Misspelled 4 1))
    ∷ at 4 "period =4\n" (some (Misspelled 4 7))
    ∷ at 4 "period= 4\n" (some (Misspelled 4 8))
    ∷ at 4 "period=4 \n" (some (Misspelled 4 9))
    ∷ at 4 "period=4\r\n" (some (Misspelled 4 9))
    ∷ at 4 "\nperiod=4\n" (some (Misspelled 4 1))
    ∷ at 4 "period=\n" (some (Misspelled 4 8))
    ∷ at 4 "period=x\n" (some (Misspelled 4 8))
    ∷ at 4 "period=4x\n" (some (Misspelled 4 9))
    ∷ at 4 "period=/\n" (some (Misspelled 4 8))
    ∷ at 4 "period=:\n" (some (Misspelled 4 8))
    ∷ at 4 "period=+4\n" (some (Misspelled 4 8))
    ∷ at 4 "period=-4\n" (some (Misspelled 4 8))
    ∷ at 4 "period=4.0\n" (some (Misspelled 4 9))
    ∷ at 4 "period=4,4\n" (some (Misspelled 4 9))
    ∷ at 4 "period=none\n" (some (Misspelled 4 8))
    -- no leading zero; `0` itself is a number
    ∷ at 4 "period=04\n" (some (Misspelled 4 9))
    ∷ at 5 "offset=00\n" (some (Misspelled 5 9))
    ∷ at 5 "offset=0\n" none
    ∷ at 5 "offset=90\n" none
    -- `none`, or one or more numbers parted by single commas
    ∷ at 12 "after=\n" (some (Misspelled 12 7))
    ∷ at 12 "after=1,\n" (some (Misspelled 12 9))
    ∷ at 12 "after=,1\n" (some (Misspelled 12 7))
    ∷ at 12 "after=1,,1\n" (some (Misspelled 12 9))
    ∷ at 12 "after=1;1\n" (some (Misspelled 12 8))
    ∷ at 12 "after=1, 1\n" (some (Misspelled 12 9))
    ∷ at 12 "after=01\n" (some (Misspelled 12 8))
    ∷ at 12 "after=1,01\n" (some (Misspelled 12 10))
    ∷ at 12 "after=1none\n" (some (Misspelled 12 8))
    ∷ at 12 "after=1,none\n" (some (Misspelled 12 9))
    ∷ at 9 "after=non\n" (some (Misspelled 9 10))
    ∷ at 9 "after=nonee\n" (some (Misspelled 9 11))
    ∷ at 9 "after=none,1\n" (some (Misspelled 9 11))
    ∷ at 9 "after=None\n" (some (Misspelled 9 7))
    -- bytes after the last line; the last LF is part of it
    ∷ at 18 "after=none\n\n" (some (Misspelled 19 1))
    ∷ at 18 "after=none\nx" (some (Misspelled 19 1))
    ∷ at 18 "after=none\nafter=none\n" (some (Misspelled 19 1))
    ∷ at 18 "after=none" (some (Misspelled 18 11))
    -- fewer lines, or more, than the table says it has
    ∷ at 3 "graphs=1\n" (some (Misspelled 13 1))
    ∷ at 3 "graphs=3\n" (some (Misspelled 19 1))
    ∷ at 6 "nodes=3\n" (some (Misspelled 13 1))
    ∷ at 15 "nodes=2\n" (some (Misspelled 19 1))
    ∷ []

-- both sides of every limit; no run of digits is taken for a smaller number
unfoldable pub limits : List LineCase
limits =
    at 1 "processors=0\n" (some (OutsideLimits 1 12))
    ∷ at 1 "processors=8\n" none
    ∷ at 1 "processors=9\n" (some (OutsideLimits 1 12))
    ∷ at 2 "rounds=0\n" (some (OutsideLimits 2 8))
    ∷ at 2 "rounds=1\n" none
    ∷ at 2 "rounds=64\n" none
    ∷ at 2 "rounds=65\n" (some (OutsideLimits 2 8))
    ∷ at 3 "graphs=0\n" (some (OutsideLimits 3 8))
    ∷ at 3 "graphs=8\n" (some (Misspelled 19 1))
    ∷ at 3 "graphs=9\n" (some (OutsideLimits 3 8))
    ∷ at 4 "period=0\n" (some (OutsideLimits 4 8))
    ∷ at 4 "period=1\n" none
    ∷ at 4 "period=10000\n" none
    ∷ at 4 "period=10001\n" (some (OutsideLimits 4 8))
    ∷ at 4 "period=65540\n" (some (OutsideLimits 4 8))
    ∷ at 4 "period=4294967300\n" (some (OutsideLimits 4 8))
    ∷ at 4 "period=18446744073709551620\n" (some (OutsideLimits 4 8))
    ∷ at 5 "offset=10000\n" none
    ∷ at 5 "offset=10001\n" (some (OutsideLimits 5 8))
    ∷ at 6 "nodes=0\n" (some (OutsideLimits 6 7))
    ∷ at 6 "nodes=16\n" (some (Misspelled 13 1))
    ∷ at 6 "nodes=17\n" (some (OutsideLimits 6 7))
    ∷ at 7 "budget=0\n" (some (OutsideLimits 7 8))
    ∷ at 7 "budget=10000\n" none
    ∷ at 7 "budget=10001\n" (some (OutsideLimits 7 8))
    ∷ at 8 "level=0\n" (some (OutsideLimits 8 7))
    ∷ at 8 "level=4\n" none
    ∷ at 8 "level=5\n" (some (OutsideLimits 8 7))
    ∷ []

-- the predecessor rules. (Node 1 stands on lines 7 to 9, node 2 on 10 to 12.) A third node is put in after node 2's line 12
unfoldable pub predecessors : List LineCase
predecessors =
    at 9 "after=1\n" (some (AgainstPredecessorRules 9 7))
    ∷ at 9 "after=0\n" (some (AgainstPredecessorRules 9 7))
    ∷ at 18 "after=1\n" (some (AgainstPredecessorRules 18 7))
    ∷ at 12 "after=none\n" (some (AgainstPredecessorRules 12 7))
    ∷ at 12 "after=0\n" (some (AgainstPredecessorRules 12 7))
    ∷ at 12 "after=0,1\n" (some (AgainstPredecessorRules 12 7))
    ∷ at 12 "after=1,1\n" (some (AgainstPredecessorRules 12 9))
    ∷ at 12 "after=2\n" (some (AgainstPredecessorRules 12 7))
    ∷ at 12 "after=1,2\n" (some (AgainstPredecessorRules 12 9))
    ∷ at 12 "after=3\n" (some (AgainstPredecessorRules 12 7))
    ∷ at 12 "after=4294967297\n" (some (AgainstPredecessorRules 12 7))
    ∷ at 12 "after=18446744073709551617\n" (some (AgainstPredecessorRules 12 7))
    ∷ []

-- lines are judged in order, each first for 2, then 3 or 4: the first of two faults is the one that is told
unfoldable pub orders : List LineCase
orders =
    at 4 "period=010001\n" (some (Misspelled 4 9))
    ∷ at 4 "period=10001x\n" (some (Misspelled 4 13))
    ∷ at 12 "after=2,\n" (some (Misspelled 12 9))
    ∷ at 12 "after=none,2\n" (some (Misspelled 12 11))
    ∷ at 4 "period=0\nx" (some (OutsideLimits 4 8))
    ∷ at 4 "x\noffset=10001\n" (some (Misspelled 4 1))
    ∷ at 4 "period=0\noffset=10001\n" (some (OutsideLimits 4 8))
    ∷ at 11 "level=5\nafter=2\n" (some (OutsideLimits 11 7))
    ∷ at 12 "after=2\nperiod=0\n" (some (AgainstPredecessorRules 12 7))
    ∷ at 12 "after=2\nx" (some (AgainstPredecessorRules 12 7))
    ∷ at 3 "graphs=9\nx" (some (OutsideLimits 3 8))
    ∷ []

-- a graph of three nodes on lines 4 to 15, by the lists of nodes 2 and 3; a graph of one node follows
abbrev pub three_nodes : String → String → List ℕ
three_nodes second third =
    bytes "processors=1\nrounds=1\ngraphs=2\nperiod=9\noffset=0\nnodes=3\n"
    ++ (bytes "budget=1\nlevel=1\nafter=none\nbudget=1\nlevel=1\nafter="
    ++ (bytes second
    ++ (bytes "\nbudget=1\nlevel=1\nafter="
    ++ (bytes third ++ bytes "\nperiod=9\noffset=0\nnodes=1\nbudget=1\nlevel=1\nafter=none\n"))))

pub record NodesCase : Type 0 where
  pub second : String
  pub third : String
  pub gives : Option Refusal

abbrev pub of : String → String → Option Refusal → NodesCase
of s t r = record { second = s; third = t; gives = r }

-- the missing successor is judged after the graph's last line passes, and before the next graph; it is charged to the graph's last line
unfoldable pub successors : List NodesCase
successors =
    of "1" "2" none
    ∷ of "1" "1,2" none
    ∷ of "1" "1" (some (AgainstPredecessorRules 15 1))
    ∷ of "1" "1\nx" (some (AgainstPredecessorRules 15 1))
    ∷ of "1" "1\nperiod=0" (some (AgainstPredecessorRules 15 1))
    ∷ of "1" "1," (some (Misspelled 15 9))
    ∷ of "1" "2,1" (some (AgainstPredecessorRules 15 9))
    ∷ of "none" "1,2" (some (AgainstPredecessorRules 12 7))
    ∷ []

-- chains of so many nodes each, one graph after the other: a line of three of the table, three of each graph, three of each node
abbrev pub number : String → ℕ → List ℕ
number name v = bytes name ++ (decimal v ++ (line_feed ∷ []))

abbrev pub node_text : ℕ → List ℕ
node_text v = bytes "budget=1\nlevel=1\nafter=" ++ (cond (eqb v 1) (bytes "none") (decimal (v - 1)) ++ (line_feed ∷ []))

abbrev pub chain_text : ℕ → List ℕ
chain_text n = bytes "period=100\noffset=0\n" ++ (number "nodes=" n ++ joined node_text 1 n)

-- a chain of 15, and a last node with this list, on line 54
abbrev pub last_list : String → List ℕ
last_list s =
    bytes "processors=1\nrounds=1\ngraphs=1\nperiod=100\noffset=0\nnodes=16\n"
    ++ (joined node_text 1 15 ++ (bytes "budget=1\nlevel=1\nafter=" ++ (bytes s ++ (line_feed ∷ []))))

pub record ListCase : Type 0 where
  pub text : String
  pub gives : Option Refusal

abbrev pub listed : String → Option Refusal → ListCase
listed s r = record { text = s; gives = r }

-- at fault is the first number from the left that breaks the rules: of a fall or a repeat the later one
unfoldable pub lists : List ListCase
lists =
    listed "1,2,3,4,5,6,7,8,9,10,11,12,13,14,15" none
    ∷ listed "8,9,10,11,10,15" (some (AgainstPredecessorRules 54 17))
    ∷ listed "9,15,15" (some (AgainstPredecessorRules 54 12))
    ∷ listed "9,10,16" (some (AgainstPredecessorRules 54 12))
    ∷ listed "16,15" (some (AgainstPredecessorRules 54 7))
    ∷ listed "12,0" (some (AgainstPredecessorRules 54 10))
    ∷ listed "15,18446744073709551631,1" (some (AgainstPredecessorRules 54 10))
    ∷ listed "14,5,15," (some (Misspelled 54 15))
    ∷ []

-- a text that ends at line l and column c of these bytes
unfoldable pub ends_at : ℕ → ℕ → List ℕ → Refusal
ends_at l c [] = Misspelled l c
ends_at l c (x ∷ xs) = ends_at (cond (eqb x line_feed) (l + 1) l) (cond (eqb x line_feed) 1 (c + 1)) xs

abbrev pub chains : ℕ → ℕ → ℕ → List ℕ
chains a b c = bytes "processors=1\nrounds=1\ngraphs=3\n" ++ (chain_text a ++ (chain_text b ++ chain_text c))

-- a number, and what is left of a text after it; or where it goes wrong
pub record NumberCase : Type 0 where
  pub text : String
  pub gives : Scan ℕ

abbrev pub spelled : String → ℕ → String → NumberCase
spelled s v rest = record { text = s; gives = read v (bytes rest) }

abbrev pub unspelled : String → NumberCase
unspelled s = record { text = s; gives = wrong (bytes s) }

unfoldable pub number_cases : List NumberCase
number_cases =
    spelled "0" 0 ""
    ∷ spelled "905" 905 ""
    ∷ spelled "905," 905 ","
    ∷ spelled "05" 0 "5"
    ∷ spelled "18446744073709551616" 18446744073709551616 ""
    ∷ unspelled ""
    ∷ unspelled "x"
    ∷ unspelled "-1"
    ∷ []

-- the nine keys with the limits of their numbers, of `after` those of each number of its list
pub record KeyCase : Type 0 where
  pub name : String
  pub from : ℕ
  pub to : ℕ

abbrev pub named : String → ℕ → ℕ → KeyCase
named s a b = record { name = s; from = a; to = b }

unfoldable pub key_cases : List KeyCase
key_cases =
    named "processors" 1 8
    ∷ named "rounds" 1 64
    ∷ named "graphs" 1 8
    ∷ named "period" 1 10000
    ∷ named "offset" 0 10000
    ∷ named "nodes" 1 16
    ∷ named "budget" 1 10000
    ∷ named "level" 1 4
    ∷ named "after" 1 15
    ∷ named "limit" 0 2000000
    ∷ []

-- the number, line and column of each refusal
pub record Numbered : Type 0 where
  pub refusal : Refusal
  pub number : ℕ
  pub line : ℕ
  pub column : ℕ

abbrev pub numbered : Refusal → ℕ → ℕ → ℕ → Numbered
numbered r n l c = record { refusal = r; number = n; line = l; column = c }

unfoldable pub refusals : List Numbered
refusals =
    numbered TooLong 1 0 0
    ∷ numbered (Misspelled 7 9) 2 7 9
    ∷ numbered (OutsideLimits 7 9) 3 7 9
    ∷ numbered (AgainstPredecessorRules 7 9) 4 7 9
    ∷ numbered LongHyperperiod 5 0 0
    ∷ numbered NotLoadable 6 0 0
    ∷ numbered Backlog 7 0 0
    ∷ numbered Unsettled 8 0 0
    ∷ numbered PastTheStop 9 0 0
    ∷ numbered ShortBuffer 10 0 0
    ∷ numbered WrongLengths 11 0 0
    ∷ numbered CannotKeepUp 12 0 0
    ∷ []
