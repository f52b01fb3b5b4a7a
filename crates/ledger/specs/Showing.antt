-- The row from a ledger: what `row_of` and its functions compute. These definitions are for the proof and not for belief: what a reader
-- believes is the rules' row.
use Rattle.std.specs.Prelude.{List, Option, Some, None, ℕ, zero, suc, ◌+◌, min, get_or, set, replicate}
use Rattle.schedule.specs.Limits as Limits
use Rattle.window.specs.declared.Plan.{Plan}
use Rattle.window.specs.Entries.{nodes_of}
use Rattle.ledger.specs.declared.Ledger.{Ledger}
use Rattle.ledger.specs.declared.Found.{Found}
use Rattle.ledger.specs.Entries.{link_at}
use Rattle.ledger.specs.Ranks.{found}
use Rattle.writing.specs.declared.row.Run.{Run}
use Rattle.writing.specs.declared.row.Row.{Row}

abbrev pub run_of : (graph node number link : ℕ) → Run
run_of graph node number link = record { graph = graph; node = node; server_job = number; invocation = link }

abbrev pub blank : Row
blank = record { run = replicate (Limits.processors).to (run_of 0 0 0 0); count = 0 }

module _ (plan : Plan) (offsets : List ℕ) (l : Ledger) where
  abbrev pub of_rank : ℕ → Option Found
  of_rank r = found offsets plan.period plan.level l.complete l.released (nodes_of plan) r

  abbrev pub line_of : Found → Run
  line_of x = run_of (get_or plan.graph x.place 0) (get_or plan.node x.place 0) x.number (link_at l x.place x.number)

  abbrev pub with_line : Row → Run → Row
  with_line row x = record { run = set row.run row.count x; count = row.count + 1 }

  abbrev pub with_found : Row → Option Found → Row
  with_found row None = row
  with_found row (Some x) = with_line row (line_of x)

  -- of the first n ranks
  unfoldable pub row_to : ℕ → Row
  row_to zero = blank
  row_to (suc r) = with_found (row_to r) (of_rank r)

  unfoldable pub row_of : Row
  row_of = row_to (min plan.processors (Limits.processors).to)
