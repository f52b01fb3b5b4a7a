-- The row moved on in memory: what the functions of moving.rt compute. For the proof, not for belief: what a reader believes is the rules' row.
use Rattle.std.specs.Prelude.{cond, List, ℕ, ◌+◌, ◌*◌, ◌-◌, ◌/◌, min, ltb, get_or, replicate}
use Rattle.schedule.specs.Limits as Limits
use Rattle.schedule.specs.FarRows.{passed}
use Rattle.table.specs.declared.Graph.{Graph}
use Rattle.table.specs.Fresh.{no_graph}
use Rattle.window.specs.Entries.{last_key}
use Rattle.window.specs.Loops.{replaced}
use Rattle.writing.specs.declared.row.Run.{Run}
use Rattle.writing.specs.declared.row.Row.{Row}

abbrev pub periods_in : ℕ → Graph → ℕ
periods_in hyper g = hyper / g.period

abbrev pub periods_of : List Graph → ℕ → List ℕ
periods_of graph hyper =
    replaced (λ (g : ℕ). periods_in hyper (get_or graph g no_graph)) (replicate (Limits.graphs).to 0) (Limits.graphs).to

abbrev pub periods_at : List ℕ → ℕ → ℕ
periods_at periods g = cond (ltb (g - 1) (Limits.graphs).to) (get_or periods (g - 1) 0) 0

abbrev pub later : ℕ → ℕ → ℕ → ℕ
later number passed periods = min (number + passed * periods) last_key

abbrev pub later_job : ℕ → ℕ → ℕ → ℕ
later_job number passed periods = cond (ltb 0 number) (later number passed periods) 0

abbrev pub no_run : Run
no_run = record { graph = 0; node = 0; server_job = 0; invocation = 0 }

module _ (periods : List ℕ) (passed : ℕ) where
  unfoldable pub moved_run : Run → Run
  moved_run x =
      record {
        graph = x.graph;
        node = x.node;
        server_job = later x.server_job passed (periods_at periods x.graph);
        invocation = later_job x.invocation passed (periods_at periods x.graph);
      }

  -- the first n entries moved on
  unfoldable pub moved_to : Row → ℕ → Row
  moved_to row n = record { run = replaced (λ (r : ℕ). moved_run (get_or row.run r no_run)) row.run n; count = row.count }

  abbrev pub moved_row : Row → Row
  moved_row row = moved_to row row.count

-- the row at t, from that at the matching instant
unfoldable pub far_row : List Graph → (hyper stop t : ℕ) → Row → Row
far_row graph hyper stop t there = moved_row (periods_of graph hyper) (passed hyper stop t) there
