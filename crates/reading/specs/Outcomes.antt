-- A graph's nodes as they are taken into memory, and a graph as it is added to the table there.
use Rattle.std.specs.Prelude.{cond, List, [], ◌∷◌, ℕ, ◌+◌, ◌-◌, eqb, set, Result, Ok, Err}
use Rattle.std.specs.Int.Bits.{bit_or}
use Rattle.format.specs.declared.Refusal.{Refusal}
use Rattle.format.specs.declared.Refusal.TheVariants.{AgainstPredecessorRules}
use Rattle.schedule.specs.Table as Rules
use Rattle.format.specs.Reading.{first_column}
use Rattle.numbers.specs.Masks.{unset_below}
use Rattle.table.specs.declared.Table.{Table}
use Rattle.table.specs.declared.Node.{Node}
use Rattle.scanning.specs.Masks.{mask_of}
use Rattle.lines.specs.declared.numbering.Three.{Three}
use Rattle.reading.specs.declared.tables.Taken.{Taken}
use Rattle.reading.specs.Memory.{filled}

-- the predecessors that some node's list has, put into the mask m
unfoldable pub named_from : ℕ → List Rules.Node → ℕ
named_from m [] = m
named_from m (x ∷ xs) = named_from (bit_or m (mask_of x.after)) xs

-- a graph's nodes in memory, and their predecessors together
abbrev pub taken : List Node → ℕ → ℕ → List Rules.Node → Taken
taken nodes first m xs = record { nodes = filled nodes first xs; named = named_from m xs }

-- a graph whose head is read and whose nodes stand in the list, added to the table; refused where a node has no successor
abbrev pub added_graph : Table → Three → List Node → Table
added_graph t head list =
    record {
      processors = t.processors;
      rounds = t.rounds;
      graphs = t.graphs + 1;
      nodes = t.nodes + head.third;
      graph = set t.graph t.graphs (record { period = head.first; offset = head.second; first = t.nodes; nodes = head.third });
      node = list;
    }

abbrev pub ended_graph : Table → Three → List Node → ℕ → ℕ → Result Table Refusal
ended_graph t head list named next =
    cond (eqb (unset_below (head.third - 1) named) 0) (Ok (added_graph t head list)) (Err (AgainstPredecessorRules (next - 1) first_column))
