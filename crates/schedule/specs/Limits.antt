-- Every limit of document 01, in the order of its table, then those of document 02. This is the one home of each on the proof side: the associated constants of
-- the table type are proved equal to these (crate `table`), and nothing else repeats a numeral.
use Rattle.std.specs.Prelude.{ℕ, ◌-◌}

-- from and to, both allowed
pub record Range : Type 0 where
  pub from : ℕ
  pub to : ℕ

abbrev pub table_bytes : Range
table_bytes = record { from = 0; to = 4096 }

abbrev pub processors : Range
processors = record { from = 1; to = 8 }

abbrev pub rounds : Range
rounds = record { from = 1; to = 64 }

abbrev pub graphs : Range
graphs = record { from = 1; to = 8 }

abbrev pub period : Range
period = record { from = 1; to = 10000 }

abbrev pub budget : Range
budget = record { from = 1; to = 10000 }

abbrev pub offset : Range
offset = record { from = 0; to = 10000 }

-- nodes of a graph, and of all graphs
abbrev pub nodes : Range
nodes = record { from = 1; to = 16 }

abbrev pub all_nodes : Range
all_nodes = record { from = 1; to = 32 }

abbrev pub level : Range
level = record { from = 1; to = 4 }

abbrev pub hyperperiod : Range
hyperperiod = record { from = 1; to = 20000 }

-- an instant that a row is asked for (R-10)
abbrev pub instant : Range
instant = record { from = 0; to = 4000000000 }

-- document 02, R-12: the bytes of a limit text, and the age limit of a graph
abbrev pub limit_bytes : Range
limit_bytes = record { from = 0; to = 4096 }

abbrev pub limit : Range
limit = record { from = 0; to = 2000000 }

-- a predecessor's number, below that of a node
abbrev pub predecessor : Range
predecessor = record { from = 1; to = nodes.to - 1 }

-- the most pending server jobs of a server, and unfinished invocations of a graph, that are no backlog
abbrev pub pending : ℕ
pending = 16

abbrev pub unfinished : ℕ
unfinished = 64

-- tables of one call (R-1)
abbrev pub tables : Range
tables = record { from = 1; to = 16 }
