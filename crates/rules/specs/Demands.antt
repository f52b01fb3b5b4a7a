-- Demand 3, as a statement: a report, from the bytes of its table to its text, gives nothing but least true figures. And R-8's: in every
-- table that passes refusals 1 to 4 overlap is limited.
use Rattle.std.specs.Prelude.{List, ◌≡◌, ℕ, ◌<◌, length, get_or}
use Rattle.schedule.specs.Table.{Table}
use Rattle.schedule.specs.Servers.{box_of}
use Rattle.schedule.specs.LeastTrue.{Needs, LeastTrue}
use Rattle.schedule.specs.Overlap.{OverlapLimited}
use Rattle.format.specs.Reading.{Place, done, read_of}
use Rattle.rules.specs.Admission.{admitted, admission_of}
use Rattle.rules.specs.Answers.{says, report_text, report_of}

-- the bytes are those of a table whose report gives one figure per graph, each the least true one for the printed ticks
pub record TrueReport (bytes : List ℕ) : Type 0 where
  pub table : Table
  pub is_admitted : admission_of bytes ≡ admitted table
  pub round : ℕ
  pub ticks : ℕ
  pub figures : List ℕ
  pub text : report_of bytes ≡ says (report_text round ticks figures)
  -- and these are the printed ones: no other numbers have that text
  pub no_others : (r t : ℕ) (fs : List ℕ) → report_of bytes ≡ says (report_text r t fs) → (r ≡ round) × (t ≡ ticks) × (fs ≡ figures)
  pub many : length figures ≡ length table.graphs
  pub least_true : (g : ℕ) → g < length table.graphs → LeastTrue (box_of table) (get_or (box_of table).sinks g 0) ticks (get_or figures g 0)

-- R-8: the bytes are those of a table in which, whatever ticks from 1 to its budget each job needs, overlap is limited. Nothing is asked of
-- its hyperperiod, its load or its walk, and the statement is of every instant
unfoldable pub LimitedOverlap : List ℕ → Type 0
LimitedOverlap bytes =
    (table : Table) (p : Place) → read_of bytes ≡ done table p → (need : ℕ → ℕ → ℕ) → Needs (box_of table).servers need
    → OverlapLimited (box_of table).servers (box_of table).cap need
