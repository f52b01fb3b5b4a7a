-- Document 02, R-12, as a statement: a margin is zero or more exactly when no invocation within budgets can ever break the limit.
use Rattle.std.specs.Prelude.{false, List, ◌≡◌, ℕ, ◌+◌, ◌≤◌, ◌<◌, T, length, get_or}
use Rattle.format.specs.Reading.{Place, done}
use Rattle.schedule.specs.Table.{Table}
use Rattle.schedule.specs.Servers.{srv, Box, box_of}
use Rattle.schedule.specs.ServerJobs.{release_of}
use Rattle.schedule.specs.Links.{finished_by}
use Rattle.schedule.specs.LeastTrue.{Needs, LeastTrue}
use Rattle.rules.specs.Admission.{admitted, admission_of}
use Rattle.rules.specs.Answers.{says}
use Rattle.margins.specs.Margins.{limits_of, margin_text, margin_of}

-- whatever ticks from 1 to the budgets the jobs need, every invocation, however late, of the graph whose sink stands at i finishes within
-- the limit, counted from its release
abbrev pub Keeps : Box → ℕ → ℕ → Type 0
Keeps X i limit =
    (need : ℕ → ℕ → ℕ) → Needs X.servers need → (j : ℕ) → 1 ≤ j
    → T (finished_by X.servers X.cap need (release_of (srv X.servers i) j + limit) i j)

-- the bytes are those of a table and of its limits; the text has the least true figures and the limits read, and for each graph the figure
-- is within the limit, so that its margin has no minus sign, exactly when the graph keeps it
pub record TrueMargins (bytes limit_bytes : List ℕ) : Type 0 where
  pub table : Table
  pub is_admitted : admission_of bytes ≡ admitted table
  pub round : ℕ
  pub ticks : ℕ
  pub figures : List ℕ
  pub limits : List ℕ
  pub end : Place
  pub are_limits : limits_of (length table.graphs) limit_bytes ≡ done limits end
  pub text : (margin_of bytes limit_bytes).reply ≡ says (margin_text round ticks figures limits)
  -- and these are the printed ones: no other numbers, one limit for each figure, have that text
  pub no_others : (r t : ℕ) (fs ls : List ℕ) → length ls ≡ length fs → (margin_of bytes limit_bytes).reply ≡ says (margin_text r t fs ls)
      → (r ≡ round) × (t ≡ ticks) × (fs ≡ figures) × (ls ≡ limits)
  pub many : length figures ≡ length table.graphs
  pub many_limits : length limits ≡ length table.graphs
  pub least_true : (g : ℕ) → g < length table.graphs → LeastTrue (box_of table) (get_or (box_of table).sinks g 0) ticks (get_or figures g 0)
  pub kept : (g : ℕ) → g < length table.graphs → get_or figures g 0 ≤ get_or limits g 0 → Keeps (box_of table) (get_or (box_of table).sinks g 0) (get_or limits g 0)
  pub only_kept : (g : ℕ) → g < length table.graphs → Keeps (box_of table) (get_or (box_of table).sinks g 0) (get_or limits g 0) → get_or figures g 0 ≤ get_or limits g 0
